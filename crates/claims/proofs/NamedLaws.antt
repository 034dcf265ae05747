-- The plain chart's calls say what demand 2 asks of them. Laws.
use Rattle.std.specs.Prelude.{◌≡◌, refl, Bool, true, false, List, [], ◌∷◌, map, ℕ, zero, suc, ◌+◌, ◌*◌, ◌≤◌, ◌<◌, ltb, eqb, length, get_or}
use Rattle.std.proofs.Math.Path.{ap}
use Rattle.std.proofs.Common.{◌∙◌, arith, eqb-true}
use Rattle.std.proofs.lemmas.Bool.{eqb-false}
use Rattle.rules.specs.declared.Rule.{Rule}
use Rattle.rules.specs.Bounds.{zone_count, max_number}
use Rattle.rules.specs.Check.{no_rule}
use Rattle.rules.specs.Mask.{bit, mask_of}
use Rattle.window.specs.ReferenceChart.{rule_holds, row_mask, chart_step, chart_answers}
use Rattle.rules.specs.MaskLaws.{bit_zero, mask_digit}
use Rattle.monitor.proofs.AgreementLaws.{mask_names_rules}
use Rattle.claims.specs.Named.{row_after, Names, NoneHolds, SomeHolds, Answered, EachAnswered}

-- ---- the mask of a list of tests is 0 exactly where none holds

none_of : (row : List ℕ) (rs : List Rule) → mask_of (map (rule_holds row) rs) ≡ 0 → (i : ℕ) → i < length rs → rule_holds row (get_or rs i no_rule) ≡ false
unfolding mask_of
none_of row [] e i h = absurd (omega arith)
none_of row (r ∷ rs) e zero h = (bit_zero (rule_holds row r) _ e).0
none_of row (r ∷ rs) e (suc i) h = none_of row rs (bit_zero (rule_holds row r) _ e).1 i (omega arith)

some_of : (row : List ℕ) (rs : List Rule) → (mask_of (map (rule_holds row) rs) ≡ 0 → ⊥) → (i : ℕ) × (i < length rs) × (rule_holds row (get_or rs i no_rule) ≡ true)
unfolding mask_of
some_of row [] n = absurd (n refl)
some_of row (r ∷ rs) n = go (rule_holds row r) refl (some_of row rs)
  where
    go : (t : Bool) → rule_holds row r ≡ t
        → ((mask_of (map (rule_holds row) rs) ≡ 0 → ⊥) → (i : ℕ) × (i < length rs) × (rule_holds row (get_or rs i no_rule) ≡ true))
        → (i : ℕ) × (i < suc (length rs)) × (rule_holds row (get_or (r ∷ rs) i no_rule) ≡ true)
    go true e ih = (0, omega arith, e)
    go false e ih =
        let k = ih (λ z. n (ap (λ (t : Bool). bit t + 2 * mask_of (map (rule_holds row) rs)) e ∙ omega arith)) in
        (suc k.0, omega (arith, k.1), k.2)

-- beyond the rules there is no test
tests_beyond : (row : List ℕ) (rs : List Rule) (i : ℕ) → length rs ≤ i → get_or (map (rule_holds row) rs) i false ≡ false
tests_beyond row [] i h = refl
tests_beyond row (r ∷ rs) zero h = absurd (omega arith)
tests_beyond row (r ∷ rs) (suc i) h = tests_beyond row rs i (omega arith)

module _ (rs : List Rule) (row : List ℕ) where
  pub mask_none : row_mask rs row ≡ 0 → NoneHolds rs row
  unfolding row_mask
  mask_none e = record { none = none_of row rs e }

  mask_some : (row_mask rs row ≡ 0 → ⊥) → SomeHolds rs row
  unfolding row_mask
  mask_some n = let k = some_of row rs n in record { index = k.0; within = k.1; holds = k.2 }

  mask_names : Names rs row (row_mask rs row)
  unfolding row_mask
  mask_names = record {
    rules = mask_names_rules rs row;
    no_others = λ i h. mask_digit (map (rule_holds row) rs) i ∙ ap bit (tests_beyond row rs i h);
  }

-- ---- call by call

pub chart_answered : (rs : List Rule) (row zs : List ℕ) → EachAnswered rs row zs (chart_answers rs row zs)
unfolding EachAnswered chart_answers chart_step
chart_answered rs row [] = tt
chart_answered rs row (z ∷ zs) =
    one (ltb z zone_count) (ltb (length row) max_number) (eqb (row_mask rs (z ∷ row)) 0) refl refl refl (λ r. chart_answered rs r zs)
  where
    one : (zone count none : Bool) → ltb z zone_count ≡ zone → ltb (length row) max_number ≡ count → eqb (row_mask rs (z ∷ row)) 0 ≡ none
        → ((r : List ℕ) → EachAnswered rs r zs (chart_answers rs r zs))
        → Answered rs row z (chart_step rs row z).answer
        × EachAnswered rs (row_after row z (chart_step rs row z).answer) zs (chart_answers rs (chart_step rs row z).row zs)
    one true true true d e f ih = rw (d, e, f) ((mask_none rs (z ∷ row) (eqb-true _ 0 f), refl), ih (z ∷ row))
    one true true false d e f ih = rw (d, e, f) ((mask_some rs (z ∷ row) (eqb-false _ 0 f), mask_names rs (z ∷ row), refl), ih [])
    one true false n d e f ih = rw (d, e) (tt, ih row)
    one false c n d e f ih = rw d (tt, ih row)
