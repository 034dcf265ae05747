-- Laws of the rows: what comes by the groups is what the chain's moves send, so each row is the table's.
use Rattle.std.specs.Prelude.{◌≡◌, refl, Bool, List, ◌∷◌, ℕ, zero, suc, ◌+◌, ◌-◌, ◌*◌, ◌/◌, ◌≤◌, ◌<◌, eqb, length, get_or, set, take, replicate}
use Rattle.std.proofs.Math.Path.{sym, ap}
use Rattle.std.proofs.Common.{◌∙◌, length-set, ne_eqb}
use Rattle.std.proofs.Math.Decide.{ℕ_discrete}
use Rattle.std.proofs.Math.Numerals.{add-one}
use Rattle.std.proofs.lemmas.List.{length-take, length-replicate, get_or-take}
use native.Mathlib.Omega.{arith}
use Rattle.rules.specs.Bounds.{zone_count, max_states}
use Rattle.runlength.specs.Sum.{sum, only, at}
use Rattle.runlength.specs.SumLaws.{sum_zero, sum_more, sum_cong, sum_term, sum_none, sum_pick}
use Rattle.runlength.specs.TabLaws.{front_none, front_more}
use Rattle.runlength.specs.Automaton.{after}
use Rattle.runlength.specs.Chain.{Chain, Proper, inflow, signalled, units, pmf, survival, restricted_mean}
use Rattle.runlength.proofs.ListedLaws.{listed_proper}
use Rattle.runlength.proofs.FlowLaws.{step_conservation}
use Rattle.runlength.specs.Scale.{weight_total, units_per_one}
use Rattle.runlength.specs.SetLaws.{get_d_zeros}
use Rattle.sources.specs.Sources.{come, CanListSources, SourcesListed}
use Rattle.rows.specs.Rows.{chain, CanRun, Ran}
use Rattle.next_row.specs.Arrivals.{Flows}
use Rattle.next_row.specs.OneRow.{CanRow, RowDone, CanPoint, PointDone}
use Rattle.rows.specs.Running.{Running, CanMean, MeanDone, Put}

-- what comes in goes by the units of the states alone
inflow_cong : (c : Chain) (u v : ℕ → ℕ) → ((s : ℕ) → s < c.size → u s ≡ v s) → (t : ℕ) → inflow c u t ≡ inflow c v t
unfolding inflow
inflow_cong c u v e t =
    sum_cong c.size _ _
    (λ s l. ap (λ (x : ℕ). sum c.automaton.zones (λ z. after (c.automaton.move s z) 0 (λ r. only (eqb r t) (x * c.weight z)))) (e s l))

-- a point put into the two lists leaves their lengths
pub put_pmf : {p l k : ℕ} {ps ss ps' ss' : List ℕ} → Put p l k ps ss ps' ss' → length ps' ≡ length ps
put_pmf {p} {l} {k} {ps} d = ap length d.pmf ∙ length-set ps k p

pub put_survival : {p l k : ℕ} {ps ss ps' ss' : List ℕ} → Put p l k ps ss ps' ss' → length ss' ≡ length ss
put_survival {p} {l} {k} {ps} {ss} d = ap length d.survival ∙ length-set ss k l

-- the first units: all in the state of a chart that was just reset
units_start : (j t : ℕ) → get_or {A = ℕ} (units_per_one ∷ replicate j 0) t 0 ≡ only (eqb 0 t) units_per_one
units_start j zero = refl
units_start j (suc t) = get_d_zeros j t ∙ sym (ap (λ (b : Bool). only b units_per_one) (ne_eqb 0 (suc t) (omega arith)))

module _ {m : List ℕ} {n : ℕ} {w : List ℕ} {h : ℕ} {ps ss : List ℕ} (p : CanRun m n w h ps ss) where
  -- the sources can be listed
  pub sources_of : CanListSources m n w (replicate (zone_count * max_states) 0) (replicate (zone_count * max_states + 1) 0) (replicate (zone_count * max_states) 0)
      (replicate (max_states + 1) 0) (replicate (max_states + 1) 0)
  sources_of = record {
    some = p.some;
    most = p.moves.most;
    many = p.moves.many;
    zones = p.weights.zones;
    total = p.weights.total;
    sources = refl;
    firsts = refl;
    shares = refl;
    groups = refl;
    stops = refl;
  }

  proper : Proper (chain m n w)
  proper = listed_proper zone_count n m (at w) p.some p.weights.total

  -- once no units are left, no more signal and none come
  module _ (k : ℕ) (none : survival (chain m n w) k ≡ 0) where
    nothing : sum n (inflow (chain m n w) (units (chain m n w) k)) + signalled (chain m n w) (units (chain m n w) k) ≡ 0
    unfolding survival
    nothing = omega (arith, step_conservation (chain m n w) proper (units (chain m n w) k), none)

    none_pmf : pmf (chain m n w) (suc k) ≡ 0
    unfolding pmf
    none_pmf = omega (arith, nothing)

    none_survival : survival (chain m n w) (suc k) ≡ 0
    unfolding survival units
    none_survival =
        sum_none n (λ t. inflow (chain m n w) (units (chain m n w) k) t / weight_total)
        (λ t l. omega (arith, nothing, sum_term n t (inflow (chain m n w) (units (chain m n w) k)) l))

  -- the first half of the list, which begins with the first units
  pub run_start : {us : List ℕ} → us ≡ take max_states (units_per_one ∷ replicate (2 * max_states - 1) 0)
      → Running m n w 0 ps ss us ps ss units_per_one 0 0
  unfolding units survival restricted_mean
  run_start e = rw e (record {
    same = omega (arith, length-take max_states (units_per_one ∷ replicate (2 * max_states - 1) 0), length-replicate {A = ℕ} (2 * max_states - 1) 0);
    units_now = λ o t l. get_or-take max_states (units_per_one ∷ replicate (2 * max_states - 1) 0) t 0 (omega (arith, p.moves.most)) ∙ units_start (2 * max_states - 1) t;
    pmf_list_lem = front_none _ ps;
    survival_list_lem = front_none _ ss;
    survival_last = sym (sum_pick n 0 units_per_one p.some);
    last_most = omega arith;
    mean = sym (sum_zero _);
    mean_most = omega arith;
    part = omega arith;
  })

  module _ {k : ℕ} {us ps' ss' : List ℕ} {last whole fraction : ℕ} (s : Running m n w k ps ss us ps' ss' last whole fraction)
      {src fs ws gs st : List ℕ} (g : SourcesListed m n w src fs ws gs st) where
    -- while units are left
    module _ (o : 0 < last) where
      all : sum n (at us) ≡ last
      unfolding survival
      all = sum_cong n (at us) (units (chain m n w) k) (s.units_now o) ∙ sym s.survival_last

      comes : (t : ℕ) → t < n → come src fs ws gs (at us) t ≡ inflow (chain m n w) (units (chain m n w) k) t
      comes t l = g.sums t l (at us) ∙ inflow_cong (chain m n w) (at us) (units (chain m n w) k) (s.units_now o) t

      -- what comes into no state signals
      conserved : sum n (come src fs ws gs (at us)) + signalled (chain m n w) (units (chain m n w) k) ≡ last * weight_total
      unfolding survival
      conserved = omega (
        arith,
        sum_cong n (come src fs ws gs (at us)) (inflow (chain m n w) (units (chain m n w) k)) comes,
        step_conservation (chain m n w) proper (units (chain m n w) k),
        s.survival_last,
      )

      flows : Flows us src fs ws gs n
      flows = record {
        inside = record { inside = λ i. omega (arith, g.shape.groups.inside.inside i, s.same, p.moves.most) };
        light = g.shape.groups.light;
        order = g.shape.groups.ordered;
        within = g.shape.groups.within;
        firsts = g.shape.groups.firsts;
        shares = g.shape.groups.shares;
        each = λ i l. omega (arith, g.shape.groups.each i l (at us), all, s.last_most);
        room = g.shape.room;
        rise = g.shape.ordered;
        few = g.shape.few;
        mass = omega (arith, conserved, s.last_most);
        size = p.moves.most;
      }

      run_row : {nx : List ℕ} → length nx ≡ max_states → CanRow src fs ws gs st us last n nx
      run_row x = record {
        flows = flows;
        stops = g.stops;
        most = s.last_most;
        mass = omega (arith, conserved);
        room = omega (arith, p.moves.most);
      }

      module _ {nx : List ℕ} {a b : ℕ} (r : RowDone src fs ws gs us last n nx a b) where
        next : (t : ℕ) → t < n → come src fs ws gs (at us) t / weight_total ≡ units (chain m n w) (suc k) t
        unfolding units
        next t l = ap (λ (x : ℕ). x / weight_total) (comes t l)

        some_pmf : a ≡ pmf (chain m n w) (suc k)
        unfolding pmf
        some_pmf = r.pmf ∙ ap (λ (x : ℕ). x / weight_total) (omega (arith, conserved))

        some_survival : b ≡ survival (chain m n w) (suc k)
        unfolding survival
        some_survival = r.survival ∙ sum_cong n (λ t. come src fs ws gs (at us) t / weight_total) (units (chain m n w) (suc k)) next

    pub run_point : {nx : List ℕ} → length nx ≡ max_states → CanPoint src fs ws gs st us last n nx
    run_point x = record { some = λ o. run_row o x }

    module _ {nx₀ nx : List ℕ} {a b : ℕ} (r : PointDone src fs ws gs us last n nx₀ nx a b) where
      next_pmf : a ≡ pmf (chain m n w) (suc k)
      next_pmf = elim (ℕ_discrete last 0) [
        | yes e ↦ r.none_pmf e ∙ sym (none_pmf k (sym s.survival_last ∙ e))
        | no e ↦ some_pmf (omega arith) (r.some (omega arith))
      ]

      next_survival : b ≡ survival (chain m n w) (suc k)
      next_survival = elim (ℕ_discrete last 0) [
        | yes e ↦ r.none_survival e ∙ sym (none_survival k (sym s.survival_last ∙ e))
        | no e ↦ some_survival (omega arith) (r.some (omega arith))
      ]

      next_units : 0 < b → (t : ℕ) → t < n → get_or nx t 0 ≡ units (chain m n w) (suc k) t
      next_units o t l = elim (ℕ_discrete last 0) [
        | yes e ↦ absurd (omega (arith, r.none_survival e))
        | no e ↦ (r.some (omega arith)).units t l ∙ next (omega arith) (r.some (omega arith)) t l
      ]

      next_most : b ≤ units_per_one
      next_most = elim (ℕ_discrete last 0) [
        | yes e ↦ omega (arith, r.none_survival e)
        | no e ↦ (r.some (omega arith)).most
      ]

      -- the mean has room for one row more
      pub run_mean : k ≤ h → CanMean last whole fraction b
      run_mean l = record { fits = omega (arith, s.mean_most, p.rows); part = s.part; most = s.last_most; next_most = next_most }

      pub run_more : {last' whole' fraction' : ℕ} → k < h → length nx₀ ≡ max_states → MeanDone last whole fraction b last' whole' fraction'
          → Running m n w (k + 1) ps ss nx (set ps' k a) (set ss' k b) last' whole' fraction'
      unfolding restricted_mean
      run_more l x q = rw q.left (record {
        same = r.same ∙ x;
        units_now = λ o t i. rw add-one (next_units o t i);
        pmf_list_lem = front_more k _ ps ps' a (omega (arith, p.pmf_room)) s.pmf_list_lem next_pmf;
        survival_list_lem = front_more k _ ss ss' b (omega (arith, p.survival_room)) s.survival_list_lem next_survival;
        survival_last = rw add-one next_survival;
        last_most = next_most;
        mean = omega (arith, q.value, s.mean, s.survival_last, sum_more k (survival (chain m n w)));
        mean_most = omega (arith, q.value, q.part, s.part, s.last_most, s.mean_most);
        part = q.part;
      })

      -- and with the point put into the two lists
      pub run_more_put : {ps'' ss'' : List ℕ} {last' whole' fraction' : ℕ} → k < h → length nx₀ ≡ max_states → Put a b k ps' ss' ps'' ss''
          → MeanDone last whole fraction b last' whole' fraction' → Running m n w (k + 1) ps ss nx ps'' ss'' last' whole' fraction'
      run_more_put l x d q = rw (d.pmf, d.survival) (run_more l x q)

  -- two rows more
  pub run_two : (k : ℕ) {us ps' ss' : List ℕ} {last whole fraction : ℕ} → Running m n w (k + 1 + 1) ps ss us ps' ss' last whole fraction
      → Running m n w (k + 2) ps ss us ps' ss' last whole fraction
  run_two k s = let e : k + 1 + 1 ≡ k + 2 = omega arith in rw e at s

  -- at the horizon the rows are the table's
  pub run_done : {k : ℕ} {us ps' ss' : List ℕ} {last whole fraction : ℕ} → k ≡ h → Running m n w k ps ss us ps' ss' last whole fraction
      → Ran m n w h ps ss ps' ss' last whole fraction
  run_done {k} {us} {ps'} {ss'} {last} {whole} {fraction} e r =
      let s : Running m n w h ps ss us ps' ss' last whole fraction = rw e at r in
      record {
        pmf_list_lem = s.pmf_list_lem;
        survival_list_lem = s.survival_list_lem;
        survival_last = s.survival_last;
        mean_whole = omega (arith, s.mean, s.part);
        mean_fraction = omega (arith, s.mean, s.part);
      }
