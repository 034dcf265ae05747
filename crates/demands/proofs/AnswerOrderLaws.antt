-- Each operation's own answer is a refusal exactly as its order says. Laws.
use Rattle.std.specs.Prelude.{ℕ, ◌≡◌, refl, Bool, true, false, cond, List, ◌↔◌, leb, ℤ, nat_abs, ◌-ℤ◌, Err, Ok, Result}
use Rattle.std.proofs.Common.{sym, ap, ◌∙◌}
use Rattle.bracket.specs.declared.Bracket.{Bracket}
use Rattle.rules.specs.declared.weights.ZoneWeights.{ZoneWeights}
use Rattle.rules.specs.declared.RuleList.{RuleList}
use Rattle.rules.specs.declared.refusal.Refusal.{Refusal}
use Rattle.rules.specs.Refusal.{bad_sigma, bad_shift}
use Rattle.rules.specs.Check.{checked, Checked, within, unless, check_of}
use Rattle.rules.proofs.NumbersLaws.{not_both}
use Rattle.monitor.specs.declared.Monitor.{Monitor}
use Rattle.monitor.specs.declared.Step.{Step}
use Rattle.monitor.specs.Zone.{min_sigma, max_sigma, zone_at, zone_of}
use Rattle.monitor.specs.Step.{step_check, step_of}
use Rattle.monitor.specs.Reading.{reading_check}
use Rattle.batch.specs.Batch.{batch_of, Ends}
use Rattle.batch.proofs.BatchLaws.{batch_ends}
use Rattle.table.specs.Table.{TableCall, table_check, table_of}
use Rattle.table.proofs.TableLaws.{refused_check}
use Rattle.summary.specs.Summary.{summarized, summary_of}
use Rattle.summary.proofs.SummaryLaws.{refused_table_lem}
use Rattle.plot.specs.Plot.{plot_by, box_plot_of}
use Rattle.bracket.specs.Bracket.{bracket_check, bracket_of}
use Rattle.shift.specs.Shift.{max_shift, weights_of, shift_of}
use Rattle.call_arrays.specs.BatchArrays.{batch_checked}
use Rattle.code_claims.proofs.CodedLaws.{step_checked_lem, bracket_checked_lem}
use Rattle.code_claims.proofs.ExportedLaws.{batch_checked_lem}
use Rattle.claims.proofs.RefusedCallLaws.{plot_refused}
use Rattle.demands.specs.Order.{ListOrder, ZoneOrder, StepOrder, BatchOrder, TableOrder, BracketOrder, ShiftOrder}
use Rattle.demands.proofs.OrderLaws.{Follows, none_left, last, list_order, sigma_then, step_order, batch_order, table_order, bracket_order, shift_order}

-- an answer that is refused as the check c is, is refused as c's order says
by_order : {A : Type 0} (a : A) (refusal : Refusal → A) (c : Checked) {Order : Refusal → Type 0} → Follows c Order
    → ((x : Refusal) → a ≡ refusal x → c ≡ Err x) → ((x : Refusal) → c ≡ Err x → a ≡ refusal x)
    → (x : Refusal) → (a ≡ refusal x) ↔ Order x
by_order a refusal c f to from x = (λ e. f.to x (to x e), λ o. from x (f.from x o))

-- an answer that does not accept is refused by what its check says
refused_back : {A : Type 0} (a : Result A Refusal) (x : Refusal) → checked a ≡ Err x → a ≡ Err x
refused_back (Ok b) x e = not_both x e
refused_back (Err y) x e = let same : y ≡ x = cc in ap Err same

pub list : (l : RuleList) (x : Refusal) → (check_of l ≡ Err x) ↔ ListOrder l x
list l x = ((list_order l).to x, (list_order l).from x)

-- ---- the monitor

pub zone : (reading centre : ℤ) (sigma : ℕ) (x : Refusal) → (zone_of reading centre sigma ≡ Err x)
    ↔ ZoneOrder sigma x
unfolding zone_of
zone reading centre sigma =
    by_order (zone_of reading centre sigma) Err (unless (within min_sigma max_sigma sigma) bad_sigma)
    (last (sigma_then sigma none_left))
    (λ x e. sym (as_test (within min_sigma max_sigma sigma)) ∙ ap checked e)
    (λ x e. refused_back (zone_of reading centre sigma) x (as_test (within min_sigma max_sigma sigma) ∙ e))
  where
    as_test : (b : Bool)
        → checked (cond b (Ok (zone_at (reading -ℤ centre) sigma)) (Err bad_sigma))
        ≡ unless b bad_sigma
    as_test true = refl
    as_test false = refl

pub step : (l : RuleList) (m : Monitor) (z : ℕ) (x : Refusal) → (step_of l m z ≡ Err x) ↔ StepOrder l m z x
step l m z =
    by_order (step_of l m z) Err (step_check l m z) (step_order l m z)
    (λ x e. sym (step_checked_lem l m z) ∙ ap checked e)
    (λ x e. refused_back (step_of l m z) x (step_checked_lem l m z ∙ e))

pub batch : (l : RuleList) (m : Monitor) (centre : ℤ) (sigma : ℕ) (xs : List ℤ) (x : Refusal)
    → (batch_checked (batch_of l m centre sigma xs) ≡ Err x) ↔ BatchOrder l m sigma x
batch l m centre sigma xs =
    by_order (batch_checked (batch_of l m centre sigma xs)) Err (reading_check l m sigma) (batch_order l m sigma)
    (λ x e. sym (batch_checked_lem l m centre sigma xs) ∙ e) (λ x e. batch_checked_lem l m centre sigma xs ∙ e)

pub batch_else : (l : RuleList) (m : Monitor) (centre : ℤ) (sigma : ℕ) (xs : List ℤ)
    → batch_checked (batch_of l m centre sigma xs) ≡ Ok tt
    → Ends (batch_of l m centre sigma xs)
batch_else l m centre sigma xs e = batch_ends l centre sigma m xs (sym (batch_checked_lem l m centre sigma xs) ∙ e)

-- ---- the table, its summary and its plot record

pub refused_answer : (t : TableCall) (x : Refusal) → table_check t ≡ Err x → (table_of t).answer
    ≡ Err x
unfolding table_of
refused_answer t x e = rw e

pub table : (t : TableCall) (x : Refusal) → ((table_of t).answer ≡ Err x) ↔ TableOrder t x
table t = by_order (table_of t).answer Err (table_check t) (table_order t) (refused_check t)
    (refused_answer t)

pub refused_summary : (t : TableCall) (x : Refusal) → (table_of t).answer ≡ Err x → (summary_of t).answer
    ≡ Err x
unfolding summary_of summarized
refused_summary t x e = rw e

pub summary : (t : TableCall) (x : Refusal) → ((summary_of t).answer ≡ Err x) ↔ TableOrder t x
summary t =
    by_order (summary_of t).answer Err (table_check t) (table_order t)
    (λ x e. refused_check t x (refused_table_lem t x e))
    (λ x e. refused_summary t x (refused_answer t x e))

refused_plot : (t : TableCall) (x : Refusal) → (summary_of t).answer ≡ Err x → (box_plot_of t).answer
    ≡ Err x
unfolding box_plot_of plot_by
refused_plot t x e = rw e

pub plot : (t : TableCall) (x : Refusal) → ((box_plot_of t).answer ≡ Err x) ↔ TableOrder t x
plot t =
    by_order (box_plot_of t).answer Err (table_check t) (table_order t)
    (λ x e. refused_check t x (refused_table_lem t x (plot_refused t x e)))
    (λ x e. refused_plot t x (refused_summary t x (refused_answer t x e)))

-- ---- the bracket and the shift

pub bracket : (chances : List ℕ) (count p : ℕ) (x : Refusal) → (bracket_of chances count p ≡ Err x)
    ↔ BracketOrder chances count p x
bracket chances count p =
    by_order (bracket_of chances count p) Err (bracket_check chances count p)
    (bracket_order chances count p)
    (λ x e. sym (bracket_checked_lem chances count p) ∙ ap checked e)
    (λ x e. refused_back (bracket_of chances count p) x (bracket_checked_lem chances count p ∙ e))

pub shift : (s : ℤ) (x : Refusal) → (shift_of s ≡ Err x) ↔ ShiftOrder s x
unfolding shift_of
shift s =
    by_order (shift_of s) Err (unless (leb (nat_abs s) max_shift) bad_shift) (shift_order s)
    (λ x e. sym (as_test (leb (nat_abs s) max_shift)) ∙ ap checked e)
    (λ x e. refused_back (shift_of s) x (as_test (leb (nat_abs s) max_shift) ∙ e))
  where
    as_test : (b : Bool) → checked (cond b (Ok (weights_of s)) (Err bad_shift))
        ≡ unless b bad_shift
    as_test true = refl
    as_test false = refl
