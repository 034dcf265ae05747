-- The summary by what the table left, and what an accepted one has. Laws.
use Rattle.std.specs.Prelude.{◌≡◌, refl, List, ℕ, ◌≤◌, length, take, Err, Ok, Result}
use Rattle.std.proofs.Common.{sym, ap, ◌∙◌, le_refl, arith}
use Rattle.rules.specs.declared.refusal.Refusal.{Refusal}
use Rattle.table.specs.declared.TableFigures.{TableFigures}
use Rattle.table.specs.Table.{TableCall, table_of, pmf_of}
use Rattle.table.specs.AcceptedTable.{AcceptedTable}
use Rattle.table.proofs.AcceptedTableLaws.{accepted_table}
use Rattle.bracket.specs.Limits.{min_percent, max_percent}
use Rattle.bracket.specs.AcceptedBracket.{AcceptedBracket}
use Rattle.summary.specs.declared.Summary.{Summary}
use Rattle.summary.specs.Summary.{summary_by, summarized, summary_of}
use Rattle.summary.specs.ErrorBoundLaws.{error_bound_most}
use Rattle.summary.specs.AcceptedSummary.{Summarizable, AcceptedSummary}
use Rattle.table.specs.Table.{CallResult, call_result}

-- the bracket of exactly an accepted table's chances, with its N, is accepted for every percent
pub brackets_accepted : {t : TableCall} {f : TableFigures} → AcceptedTable t f → (p : ℕ) → min_percent ≤ p → p ≤ max_percent
    → AcceptedBracket (pmf_of t) f.state_count p
brackets_accepted {t} {f} a p low high = record {
  not_empty = omega (arith, a.pmf_length, a.chain.some_horizon);
  short = omega (arith, a.pmf_length, a.chain.most_horizon);
  some_states = a.some_states;
  few_states = a.few_states;
  some_percent = low;
  part_percent = high;
  total = rw (a.pmf_length, a.pmf_cdf t.horizon (le_refl t.horizon)) a.total;
}

table_summarizable : {t : TableCall} {f : TableFigures} → AcceptedTable t f → Summarizable (pmf_of t) f.state_count t.horizon
table_summarizable a = record {
  few = a.few_states;
  some_horizon = a.chain.some_horizon;
  most_horizon = a.chain.most_horizon;
  brackets = brackets_accepted a;
}

-- ---- the operation, by what one run of the table left

module _ (t : TableCall) {a : (Result TableFigures Refusal)} {p s : List ℕ} (run : call_result a p s ≡ table_of t) where
  pub refused_summary : {x : Refusal} → a ≡ Err x → call_result (Err x) p s ≡ summary_of t
  unfolding summary_of summarized
  refused_summary e = rw (← run, e)

  module _ {f : TableFigures} (accepted : a ≡ Ok f) where
    call : AcceptedTable t f
    call = accepted_table t f (ap (λ (r : CallResult (Result TableFigures Refusal)). r.answer) (sym run) ∙ accepted)

    list_is : p ≡ (table_of t).pmf_list
    list_is = ap (λ (r : CallResult (Result TableFigures Refusal)). r.pmf_list) run

    -- the list of chances is long enough
    pub left_room : t.horizon ≤ length p
    left_room = rw list_is call.pmf_room

    pub left_summarizable : Summarizable (take t.horizon p) f.state_count t.horizon
    left_summarizable = rw list_is (table_summarizable call)

    pub accepted_run : {r : Summary} → r ≡ summary_by (take t.horizon p) f t.horizon → call_result (Ok r) p s ≡ summary_of t
    unfolding summary_of summarized
    accepted_run e = rw (← run, accepted, e)

-- ---- an accepted summary

of_table : {t : TableCall} {f : TableFigures} → AcceptedTable t f → AcceptedSummary t (summary_by (pmf_of t) f t.horizon)
unfolding summary_by
of_table {t} {f} a = record {
  table = a;
  is = refl;
  brackets = brackets_accepted a;
  error_most = error_bound_most f.state_count t.horizon a.few_states a.chain.most_horizon;
}

pub accepted_summary : (t : TableCall) (s : Summary) → (summary_of t).answer ≡ Ok s → AcceptedSummary t s
unfolding summary_of summarized
accepted_summary t s e = go (table_of t).answer refl e
  where
    go : (a : Result TableFigures Refusal) → (table_of t).answer ≡ a → summarized a t.horizon (table_of t).pmf_list ≡ Ok s → AcceptedSummary t s
    go (Ok f) q d =
        let same : s ≡ summary_by (pmf_of t) f t.horizon = cc in
        rw same (of_table (accepted_table t f q))
    go (Err x) q d = absurd (let z : ◌≡◌ {A = ℕ} 0 1 = cc in omega arith)

-- a refused summary is of a refused table
pub refused_table_lem : (t : TableCall) (x : Refusal) → (summary_of t).answer ≡ Err x → (table_of t).answer ≡ Err x
unfolding summary_of summarized
refused_table_lem t x e = go (table_of t).answer refl e
  where
    go : (a : Result TableFigures Refusal) → (table_of t).answer ≡ a → summarized a t.horizon (table_of t).pmf_list ≡ Err x → (table_of t).answer ≡ Err x
    go (Ok f) q d = absurd (let z : ◌≡◌ {A = ℕ} 0 1 = cc in omega arith)
    go (Err y) q d = let same : y ≡ x = cc in q ∙ ap Err same

-- the table of an accepted summary answered its figures
pub accepted_figures : (t : TableCall) (s : Summary) → (summary_of t).answer ≡ Ok s → (table_of t).answer ≡ Ok s.figures
unfolding summary_of summarized summary_by
accepted_figures t s e = go (table_of t).answer refl e
  where
    go : (a : Result TableFigures Refusal) → (table_of t).answer ≡ a → summarized a t.horizon (table_of t).pmf_list ≡ Ok s
        → (table_of t).answer ≡ Ok s.figures
    go (Ok f) q d =
        let same : s ≡ summary_by (pmf_of t) f t.horizon = cc in
        q ∙ ap Ok (sym (ap (λ (x : Summary). x.figures) same))
    go (Err x) q d = absurd (let z : ◌≡◌ {A = ℕ} 0 1 = cc in omega arith)
