-- Laws of the list that holds the rules read: one rule more, and the rules that it gives back.
use Rattle.std.specs.Prelude.{ℕ, zero, suc, ◌+◌, ◌≤◌, ◌<◌, ◌≡◌, refl, Bool, true, false, List, [], ◌∷◌, ◌++◌, leb, length, set, get_or, Ok}
use Rattle.std.proofs.Common.{ap, arith, length-append, leb-true, leb-false}
use Rattle.rules.specs.declared.Rule.{Rule}
use Rattle.rules.specs.Bounds.{max_rules}
use Rattle.rules.specs.Check.{no_rule, rules_from, active_rules, check_of}
use Rattle.rules.proofs.CheckLaws.{accepted}
use Rattle.grammar.specs.Form.{Says}
use Rattle.rule_lines.specs.Rules.{rule_line, rule_said, rule_values, rules_said, slots_of, rule_list_of, pushed}

-- a rule more goes into the next slot
slots_set : (n : ℕ) (rs : List Rule) (r : Rule) → length rs < n → set (slots_of n rs) (length rs) r ≡ slots_of n (rs ++ (r ∷ []))
unfolding slots_of
slots_set zero rs r h = absurd (omega arith)
slots_set (suc n) [] r h = refl
slots_set (suc n) (x ∷ rs) r h = ap (λ (l : List Rule). x ∷ l) (slots_set n rs r (omega arith))

-- where no slot is left, it changes none
slots_full : (n : ℕ) (rs : List Rule) (r : Rule) → n ≤ length rs → slots_of n rs ≡ slots_of n (rs ++ (r ∷ []))
unfolding slots_of
slots_full zero rs r h = refl
slots_full (suc n) [] r h = absurd (omega arith)
slots_full (suc n) (x ∷ rs) r h = ap (λ (l : List Rule). x ∷ l) (slots_full n rs r (omega arith))

more : (rs : List Rule) (r : Rule) → length (rs ++ (r ∷ [])) ≡ length rs + 1
more rs r = simp length-append

pub pushed_list : (rs : List Rule) (r : Rule) → pushed (rule_list_of rs) r ≡ rule_list_of (rs ++ (r ∷ []))
unfolding rule_list_of pushed
pushed_list rs r = go (leb max_rules (length rs)) refl
  where
    go : (t : Bool) → leb max_rules (length rs) ≡ t → pushed (rule_list_of rs) r ≡ rule_list_of (rs ++ (r ∷ []))
    go true e = rw (e, more rs r, slots_full max_rules rs r (leb-true _ _ e))
    go false e = rw (e, more rs r, slots_set max_rules rs r (leb-false _ _ e))

-- ---- the rules that count

slots_get : (n i : ℕ) (rs : List Rule) → i < n → get_or (slots_of n rs) i no_rule ≡ get_or rs i no_rule
unfolding slots_of
slots_get zero i rs h = absurd (omega arith)
slots_get (suc n) zero [] h = refl
slots_get (suc n) (suc i) [] h = slots_get n i [] (omega arith)
slots_get (suc n) zero (r ∷ rs) h = refl
slots_get (suc n) (suc i) (r ∷ rs) h = slots_get n i rs (omega arith)

from_slots : (l rs : List Rule) (i : ℕ) → ((j : ℕ) → j < length rs → get_or l (i + j) no_rule ≡ get_or rs j no_rule) → rules_from (length rs) i l ≡ rs
unfolding rules_from
from_slots l [] i k = refl
from_slots l (r ∷ rs) i k =
    let z : i + 0 ≡ i = omega arith in
    let head : get_or l i no_rule ≡ r = rw z at (k 0 (omega arith)) in
    rw (head, from_slots l rs (i + 1) (λ j h. let e : i + 1 + j ≡ i + suc j = omega arith in rw e (k (suc j) (omega arith))))

-- a list of at most so many rules as there are slots has them all
pub active_rules_lem : (rs : List Rule) → length rs ≤ max_rules → active_rules (rule_list_of rs) ≡ rs
unfolding rule_list_of
active_rules_lem rs h = from_slots (slots_of max_rules rs) rs 0 (λ j l. let e : 0 + j ≡ j = omega arith in rw e (slots_get max_rules j rs (omega arith)))

-- an accepted list has slots for all its rules
pub rules_few : (rs : List Rule) → check_of (rule_list_of rs) ≡ Ok tt → length rs ≤ max_rules
unfolding rule_list_of
rules_few rs q = (accepted (rule_list_of rs) q).1

-- ---- rules and the lines that say them

pub said_values : (rs : List Rule) → rules_said (rule_values rs) ≡ rs
unfolding rules_said rule_values
said_values [] = refl
said_values (r ∷ rs) = ap (λ (l : List Rule). r ∷ l) (said_values rs)

pub values_said : (xs : List (Says rule_line)) → rule_values (rules_said xs) ≡ xs
unfolding rules_said rule_values
values_said [] = refl
values_said (x ∷ xs) = ap (λ (l : List (Says rule_line)). x ∷ l) (values_said xs)

pub said_length : (xs : List (Says rule_line)) → length (rules_said xs) ≡ length xs
unfolding rules_said
said_length [] = refl
said_length (x ∷ xs) = omega (arith, said_length xs)

pub said_snoc : (xs : List (Says rule_line)) (x : Says rule_line) → rules_said (xs ++ (x ∷ [])) ≡ rules_said xs ++ (rule_said x ∷ [])
unfolding rules_said
said_snoc [] x = refl
said_snoc (y ∷ xs) x = ap (λ (l : List Rule). rule_said y ∷ l) (said_snoc xs x)
