-- TO BELIEVE: a refusal's number is one of a list of numbers. Definitions.
use Rattle.std.specs.Prelude.{ℕ, ◌≡◌, List, [], ◌∷◌}
use Rattle.rules.specs.Refusal.{number_of, bad_rule_count, bad_rule_bounds, bad_zone_set}
use Rattle.rules.specs.Refusal.{bad_state, bad_zone, bad_count, short_list, bad_list_length, bad_state_count, bad_percent, bad_total}

-- x is one of the numbers
pub data OneOf : List ℕ → ℕ → Type 0 where
  here : {n x : ℕ} {ns : List ℕ} → x ≡ n → OneOf (n ∷ ns) x
  there : {n x : ℕ} {ns : List ℕ} → OneOf ns x → OneOf (n ∷ ns) x

-- those that a rule list is refused by: 2, 3, 4
abbrev pub rule_numbers : List ℕ
rule_numbers = number_of bad_rule_count ∷ number_of (bad_rule_bounds 0) ∷ number_of (bad_zone_set 0) ∷ []

-- those that library calls alone give, and no program prints: 5, 6, 7, 11, 12, 13, 14, 15
abbrev pub library_numbers : List ℕ
library_numbers =
    number_of bad_state ∷ number_of bad_zone ∷ number_of bad_count ∷ number_of short_list ∷ number_of bad_list_length ∷ number_of bad_state_count ∷ number_of bad_percent ∷ number_of bad_total ∷ []
