-- The monitor and the plain chart agree over every list of calls; which rules a mask names; which calls are refused. Laws.
use Rattle.std.specs.Prelude.{◌≡◌, Bool, true, false, cond, ℕ, zero, suc, ◌+◌, ◌/◌, ◌%◌, ◌^◌, ◌≤◌, ◌<◌, ltb, eqb, length, get_or, Ok}
use Rattle.std.proofs.Math.Path.{refl}
use Rattle.std.proofs.Common.{ap, ◌∙◌, ⊎_elim, eq-zero-or-pos, arith}
use mathlib.Core.List.{List, [], ◌∷◌, map}
use Rattle.rules.specs.declared.Rule.{Rule}
use Rattle.rules.specs.declared.RuleList.{RuleList}
use Rattle.rules.specs.Bounds.{zone_count, max_number}
use Rattle.rules.specs.Check.{no_rule, active_rules, check_of}
use Rattle.rules.proofs.CheckLaws.{accepted}
use Rattle.rules.specs.Mask.{bit}
use Rattle.rules.specs.MaskLaws.{mask_digit}
use Rattle.rules.specs.Refusal.{number_of, bad_state, bad_zone, bad_count}
use Rattle.monitor.specs.declared.Monitor.{Monitor}
use Rattle.monitor.specs.Step.{fresh_monitor}
use Rattle.monitor.proofs.StepLaws.{rules_accepted}
use Rattle.window.specs.ReferenceChart.{Answer, refused, quiet, signal, rule_holds, row_mask, charted, chart_step, chart_answers}
use Rattle.monitor.specs.Calls.{monitor_answers, refusal_number, Said, EachAnswer}
use Rattle.runlength.specs.Sequence.{AllBelow}
use Rattle.monitor.proofs.CallLaws.{monitor_of_row, fresh_of_row, one_call, chart_quiet, chart_signal}
use Rattle.window.proofs.RowLaws.{empty_row_mask}

-- ---- agreement

module _ (l : RuleList) (a : check_of l ≡ Ok tt) where
  agree_from : (zs row : List ℕ) → row_mask (active_rules l) row ≡ 0 → monitor_answers l (monitor_of_row (active_rules l) row) zs ≡ chart_answers (active_rules l) row zs
  unfolding monitor_answers chart_answers
  agree_from [] row e = refl
  agree_from (z ∷ zs) row e =
      let t = one_call (active_rules l) (accepted l a).2 row e z in
      rw (
        rules_accepted l a (monitor_of_row (active_rules l) row) z,
        t.answer,
        t.after,
        agree_from zs (chart_step (active_rules l) row z).row t.quiet_row,
      )

  -- To EVERY list of calls with an accepted rule list, refused calls included, the monitor from fresh gives the answers of the plain chart
  -- from an empty row: refusal number, quiet or signal, count, mask.
  pub monitor_agrees : (zs : List ℕ) → monitor_answers l fresh_monitor zs ≡ chart_answers (active_rules l) [] zs
  monitor_agrees zs =
      ap (λ (m : Monitor). monitor_answers l m zs) (fresh_of_row (active_rules l))
      ∙ agree_from zs [] (empty_row_mask (active_rules l) (accepted l a).2)

-- ---- what the mask says

tests_at : (row : List ℕ) (rs : List Rule) (i : ℕ) → i < length rs → get_or (map (rule_holds row) rs) i false ≡ rule_holds row (get_or rs i no_rule)
tests_at row [] i h = absurd (omega arith)
tests_at row (r ∷ rs) zero h = refl
tests_at row (r ∷ rs) (suc i) h = tests_at row rs i (omega arith)

-- Bit i of the mask is set exactly when rule i's T(k,m,Z) holds over the row.
pub mask_names_rules : (rs : List Rule) (row : List ℕ) (i : ℕ) → i < length rs → row_mask rs row / 2 ^ i % 2 ≡ bit (rule_holds row (get_or rs i no_rule))
unfolding row_mask
mask_names_rules rs row i h = mask_digit (map (rule_holds row) rs) i ∙ ap bit (tests_at row rs i h)

-- ---- which calls are refused

-- the chart refuses by 6 and 7 alone
not_five : (rs : List Rule) (row : List ℕ) (z : ℕ) → refusal_number (chart_step rs row z).answer ≡ (number_of bad_state) → ⊥
unfolding chart_step
not_five rs row z = go (ltb z zone_count) (ltb (length row) max_number) (eqb (row_mask rs (z ∷ row)) 0)
  where
    go : (zone count quiet-here : Bool) → refusal_number (cond zone (cond count (cond quiet-here (charted (quiet (length (z ∷ row))) (z ∷ row)) (charted (signal (length (z ∷ row)) (row_mask rs (z ∷ row))) [])) (charted (refused (number_of bad_count)) row)) (charted (refused (number_of bad_zone)) row)).answer ≡ (number_of bad_state) → ⊥
    go true true true e = omega arith
    go true true false e = omega arith
    go true false t e = omega arith
    go false s t e = omega arith

never_five : (rs : List Rule) (row zs : List ℕ) → EachAnswer (λ a. refusal_number a ≡ (number_of bad_state) → ⊥) (chart_answers rs row zs)
unfolding chart_answers EachAnswer
never_five rs row [] = tt
never_five rs row (z ∷ zs) = (not_five rs row z, never_five rs (chart_step rs row z).row zs)

-- No call in such a list gets 5: the state that the last call returned can always be given again.
pub no_call_gets_5 : (l : RuleList) → check_of l ≡ Ok tt → (zs : List ℕ) → EachAnswer (λ a. refusal_number a ≡ (number_of bad_state) → ⊥) (monitor_answers l fresh_monitor zs)
no_call_gets_5 l a zs = rw (monitor_agrees l a zs) (never_five (active_rules l) [] zs)

-- a zone that exists on a row that is not full is taken, and the row grows by one at most
record CallTaken (row : List ℕ) (a : Answer) (after : List ℕ) : Type 0 where
  said : Said a
  grows : length after ≤ suc (length row)

call_taken : (rs : List Rule) (row : List ℕ) (z : ℕ) → z < zone_count → length row < max_number → CallTaken row (chart_step rs row z).answer (chart_step rs row z).row
call_taken rs row z zone q =
    ⊎_elim
    (λ (n : row_mask rs (z ∷ row) ≡ 0). rw (chart_quiet rs row z zone q n) record { said = tt; grows = omega arith })
    (λ (n : 0 < row_mask rs (z ∷ row)). rw (chart_signal rs row z zone q (λ y. omega arith)) record { said = tt; grows = omega arith })
    (eq-zero-or-pos (row_mask rs (z ∷ row)))

all_taken : (rs : List Rule) (row zs : List ℕ) → AllBelow zone_count zs → length row + length zs ≤ max_number → EachAnswer Said (chart_answers rs row zs)
unfolding chart_answers EachAnswer AllBelow
all_taken rs row [] p q = tt
all_taken rs row (z ∷ zs) p q =
    let t = call_taken rs row z p.0 (omega arith) in
    (t.said, all_taken rs (chart_step rs row z).row zs p.1 (omega (arith, t.grows)))

-- In a list of at most 2^32 - 1 calls whose zones all exist no call is refused: each is answered quiet or signal.
pub no_refused_call : (l : RuleList) → check_of l ≡ Ok tt → (zs : List ℕ) → AllBelow zone_count zs → length zs ≤ max_number → EachAnswer Said (monitor_answers l fresh_monitor zs)
no_refused_call l a zs p q = rw (monitor_agrees l a zs) (all_taken (active_rules l) [] zs p (omega arith))
