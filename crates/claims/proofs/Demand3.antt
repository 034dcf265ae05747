-- CLAIMS: demand 3, of what the operations' contracts are equations with and for every input: nothing is asked but an accepted call.
use Rattle.std.specs.Prelude.{◌≡◌, Bool, List, [], ℕ, suc, ◌+◌, ◌-◌, ◌*◌, ◌/◌, ◌^◌, ◌≤◌, ◌<◌, T, length, Ok}
use Rattle.std.proofs.Math.Path.{ap}
use Rattle.std.proofs.Common.{◌∙◌, arith}
use Rattle.std.proofs.Math.Dec.{leb}
use Rattle.rules.specs.declared.RuleList.{RuleList}
use Rattle.rules.specs.Bounds.{zone_count, max_number}
use Rattle.rules.specs.Check.{active_rules, check_of}
use Rattle.runlength.specs.Scale.{max_horizon, weight_total, units_per_one, percents_per_one}
use Rattle.runlength.specs.Sum.{at, only}
use Rattle.runlength.specs.Sequence.{AllBelow}
use Rattle.runlength.specs.Chain.{survival, cdf_of, mean_error_bound}
use Rattle.runlength.proofs.ConservationLaws.{mass_conservation}
use Rattle.runlength.proofs.CdfBoundsLaws.{cdf_lower, cdf_strict_upper}
use Rattle.runlength.proofs.RestrictedMeanLaws.{mean_lower, mean_upper}
use Rattle.runlength.specs.SequenceLaws.{sequences_cong}
use Rattle.runlength.specs.Automaton.{product}
use Rattle.runlength.proofs.PercentileLaws.{never_percentile}
use Rattle.monitor.specs.Step.{fresh_monitor}
use Rattle.window.specs.ReferenceChart.{chart_answers}
use Rattle.monitor.specs.Calls.{monitor_answers, refusal_number, Said, EachAnswer}
use Rattle.monitor.proofs.AgreementLaws.{no_call_gets_5, no_refused_call as no_refused_call_proved}
use Rattle.monitor.proofs.AgreementLaws.{monitor_agrees as monitor_agrees_proved}
use Rattle.table.specs.declared.TableFigures.{TableFigures}
use Rattle.table.specs.Table.{TableCall, rules_of, chain_of, table_of, pmf_of, mean_of}
use Rattle.table.specs.AcceptedTable.{AcceptedTable}
use Rattle.table.proofs.AcceptedTableLaws.{accepted_table}
use Rattle.bracket.specs.declared.Bracket.TheVariants.{At, Between, Open, Beyond}
use Rattle.bracket.specs.Limits.{min_percent, max_percent}
use Rattle.bracket.specs.Bracket.{bracket_of}
use Rattle.bracket.specs.Contains.{BracketContains, ContainsPercentile}
use Rattle.bracket.proofs.BracketLaws.{accepted_bracket}
use Rattle.summary.proofs.SummaryLaws.{brackets_accepted}
use Rattle.claims.specs.Exact.{free_answers, says_signal, first_signal, exact_sum, exact_mean, monitor_sum, monitor_mean, reached, monitor_reached}
use Rattle.claims.proofs.ExactLaws.{sum_of_chain, mean_of_chain}
use Rattle.claims.proofs.ContainsLaws.{call_contains}
use Rattle.claims.proofs.MonitorLaws.{monitor_free}

-- ---- the monitor and the plain chart, for every accepted rule list

module _ (l : RuleList) (accepted : check_of l ≡ Ok tt) where
  -- For every list of monitor calls, from a fresh monitor and refused calls included, the answers are those of the plain chart: refusal
  -- number, quiet or signal, count and mask.
  pub monitor_agrees : (zs : List ℕ) → monitor_answers l fresh_monitor zs ≡ chart_answers (active_rules l) [] zs
  monitor_agrees = monitor_agrees_proved l accepted

  -- So no call gets 5.
  pub monitor_never_5 : (zs : List ℕ) → EachAnswer (λ a. refusal_number a ≡ 5 → ⊥) (monitor_answers l fresh_monitor zs)
  monitor_never_5 zs = no_call_gets_5 l accepted zs

  -- In a list of at most 2^32 - 1 calls whose zones all exist no call is refused: each is answered quiet or signal.
  pub no_refused_call : (zs : List ℕ) → AllBelow zone_count zs → length zs ≤ max_number → EachAnswer Said (monitor_answers l fresh_monitor zs)
  no_refused_call = no_refused_call_proved l accepted

  module _ (n : ℕ) (n-max : n ≤ max_horizon) where
    -- A call list with a sequence of n zones has no refused call: each answer is quiet or signal.
    pub monitor_takes : (q : List ℕ) → length q ≡ n → AllBelow zone_count q → EachAnswer Said (monitor_answers l fresh_monitor q)
    monitor_takes q k i = no_refused_call q i (omega arith)

    -- The monitor answers it as the plain chart does that refuses none, so it signals on the same sequences.
    pub monitor_signals : (q : List ℕ) → length q ≡ n → AllBelow zone_count q → monitor_answers l fresh_monitor q ≡ free_answers (active_rules l) [] q
    monitor_signals q k i = monitor_free l accepted q i (omega arith)

    -- A fresh monitor is fed every zone sequence of length n, each call getting what the last one returned; the products of those that have
    -- signalled add up to the exact sum at n.
    pub monitor_sum_lem : (w : List ℕ) → monitor_sum l w n ≡ exact_sum (active_rules l) w n
    unfolding monitor_sum exact_sum
    monitor_sum_lem w =
        sequences_cong zone_count n (λ q k i. ap (λ a. only (says_signal a) (product (at w) q)) (monitor_signals q k i))

    -- So they reach p hundredths exactly where the exact sum does.
    pub monitor_reached_lem : (w : List ℕ) (percent : ℕ) → monitor_reached l w percent n ≡ reached (active_rules l) w percent n
    unfolding monitor_reached reached
    monitor_reached_lem w percent = ap (λ x. leb (percent * weight_total ^ n) (percents_per_one * x)) (monitor_sum_lem w)

    -- And the mean cut at n of what it signals on is the exact mean.
    pub monitor_mean_lem : (w : List ℕ) → monitor_mean l w n ≡ exact_mean (active_rules l) w n
    unfolding monitor_mean exact_mean
    monitor_mean_lem w = sequences_cong zone_count n (λ q k i. ap (λ a. product (at w) q * first_signal a) (monitor_signals q k i))

-- ---- the table and the bracket, for every accepted call of the table operation

module _ (t : TableCall) (f : TableFigures) (accepted : (table_of t).answer ≡ Ok f) where
  call : AcceptedTable t f
  call = accepted_table t f accepted

  module _ (n : ℕ) (n-min : 1 ≤ n) (n-max : n ≤ t.horizon) where
    -- The table's chance of a signal by n never exceeds the exact sum, and falls short of it by less than n × (N + 1) units of 2^-60.
    pub cdf_bounds : (cdf_of (pmf_of t) n * weight_total ^ n ≤ exact_sum (rules_of t) t.weights n * units_per_one)
        × (exact_sum (rules_of t) t.weights n * units_per_one < (cdf_of (pmf_of t) n + n * (f.state_count + 1)) * weight_total ^ n)
    cdf_bounds =
        rw (sum_of_chain (rules_of t) t.weights call.chain.bounds call.chain.few n, call.pmf_cdf n n-max, call.count_is)
        (cdf_lower (chain_of t) call.proper n, cdf_strict_upper (chain_of t) call.proper n n-min)

    -- The same of what a fresh monitor signals on, every zone sequence of length n fed to it.
    pub monitor_bounds : (cdf_of (pmf_of t) n * weight_total ^ n ≤ monitor_sum t.list t.weights n * units_per_one)
        × (monitor_sum t.list t.weights n * units_per_one < (cdf_of (pmf_of t) n + n * (f.state_count + 1)) * weight_total ^ n)
    monitor_bounds =
        rw (monitor_sum_lem t.list call.chain.rules n (omega (arith, call.chain.most_horizon)) t.weights) cdf_bounds

    -- The chance by n and what is left at n are together never over probability one, and short of it by at most n × N units.
    pub mass_kept : (cdf_of (pmf_of t) n + at (table_of t).survival_list (n - 1) ≤ units_per_one)
        × (units_per_one ≤ cdf_of (pmf_of t) n + at (table_of t).survival_list (n - 1) + n * f.state_count)
    mass_kept =
        let e : suc (n - 1) ≡ n = omega arith in
        rw (call.pmf_cdf n n-max, call.survival_at (n - 1) (omega arith) ∙ ap (survival (chain_of t)) e, call.count_is)
        (mass_conservation (chain_of t) call.proper n)

  -- For every percent from 1 to 99 the bracket taken from exactly the H chances as written, with this N, is not refused and contains the
  -- true percentile.
  pub bracket_contains_percentile : (percent : ℕ) → min_percent ≤ percent → percent ≤ max_percent
      → ContainsPercentile (reached (rules_of t) t.weights percent) (bracket_of (pmf_of t) f.state_count percent)
  bracket_contains_percentile percent i j =
      rw (accepted_bracket (pmf_of t) f.state_count percent (brackets_accepted call percent i j)) (call_contains call percent)

  -- The run length cut at H has a mean at or above the table's, by at most N × H × (H - 1) / 2 units.
  pub mean_bounds : (mean_of f * weight_total ^ t.horizon ≤ exact_mean (rules_of t) t.weights t.horizon * units_per_one)
      × (exact_mean (rules_of t) t.weights t.horizon * units_per_one
      ≤ (mean_of f + f.state_count * t.horizon * (t.horizon - 1) / 2) * weight_total ^ t.horizon)
  unfolding mean_error_bound
  mean_bounds =
      rw (mean_of_chain (rules_of t) t.weights call.chain.bounds call.chain.few t.horizon, call.mean_is, call.count_is)
      (mean_lower (chain_of t) call.proper t.horizon, mean_upper (chain_of t) call.proper t.horizon)

  -- The same of what a fresh monitor signals on, every zone sequence of length H fed to it.
  pub monitor_mean_bounds : (mean_of f * weight_total ^ t.horizon ≤ monitor_mean t.list t.weights t.horizon * units_per_one)
      × (monitor_mean t.list t.weights t.horizon * units_per_one
      ≤ (mean_of f + f.state_count * t.horizon * (t.horizon - 1) / 2) * weight_total ^ t.horizon)
  monitor_mean_bounds = rw (monitor_mean_lem t.list call.chain.rules t.horizon call.chain.most_horizon t.weights) mean_bounds

  -- For n from 1 to H the monitor's sum reaches p hundredths exactly where the exact sum does; beyond 2^32 - 1 points a monitor refuses by 7.
  pub monitor_reaches : (percent n : ℕ) → 1 ≤ n → n ≤ t.horizon
      → monitor_reached t.list t.weights percent n ≡ reached (rules_of t) t.weights percent n
  monitor_reaches percent n low high =
      monitor_reached_lem t.list call.chain.rules n (omega (arith, call.chain.most_horizon)) t.weights percent

-- ---- where no n reaches the percentile, it counts as beyond every number

module _ (test : ℕ → Bool) (never : (n : ℕ) → 1 ≤ n → T (test n) → ⊥) where
  -- 'open from' and 'beyond' then contain it
  pub never_open : (low : ℕ) → BracketContains test (Open low)
  unfolding BracketContains
  never_open low n q = absurd (never_percentile test never n q)

  pub never_beyond : (h : ℕ) → BracketContains test (Beyond h)
  unfolding BracketContains
  never_beyond h n q = absurd (never_percentile test never n q)

  -- 'at' and 'between' do not
  pub never_at : (n : ℕ) → BracketContains test (At n) → ⊥
  unfolding BracketContains
  never_at n q = never_percentile test never n q

  pub never_between : (low high : ℕ) → BracketContains test (Between low high) → ⊥
  unfolding BracketContains
  never_between low high c = never_percentile test never c.0 c.1
