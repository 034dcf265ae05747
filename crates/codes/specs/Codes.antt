-- TO BELIEVE: the code of a call, a refusal as one number, and a rule list as a caller passes it. Definitions.
use Rattle.std.specs.Prelude.{ℕ, ◌+◌, ◌*◌, ◌/◌, ◌%◌, List, [], ◌∷◌, get_or, Err, Ok, Result, ⊤}
use Rattle.rules.specs.Check.{Checked}
use Rattle.rules.specs.Refusal.{number_of as refusal_number, place_of as refusal_place}
use Rattle.rules.specs.declared.Rule.{Rule}
use Rattle.rules.specs.declared.RuleList.{RuleList}
use Rattle.rules.specs.declared.refusal.Refusal.{Refusal}
use Rattle.rules.specs.Ready.{rule_of}

-- slot i of a list of numbers: k, m and the zone set
abbrev pub rule_at : List ℕ → ℕ → Rule
rule_at slots i = rule_of (get_or slots (3 * i) 0) (get_or slots (3 * i + 1) 0) (get_or slots (3 * i + 2) 0)

-- the rule list of eight slots
abbrev pub slot_list : List ℕ → ℕ → RuleList
slot_list slots count = record {
  rules = rule_at slots 0 ∷ rule_at slots 1 ∷ rule_at slots 2 ∷ rule_at slots 3 ∷ rule_at slots 4 ∷ rule_at slots 5 ∷ rule_at slots 6 ∷ rule_at slots 7 ∷ [];
  len = count;
}

-- a number and a place as one number: the number in the low 32 bits, the place above them
abbrev pub code_by : ℕ → ℕ → ℕ
code_by number place = number + 4294967296 * place

-- a refusal as one number
abbrev pub code_of : Refusal → ℕ
code_of x = code_by (refusal_number x) (refusal_place x)

-- the code of a call, whichever it is: 0 where it is accepted, else its refusal; here of whatever has a number and a place
abbrev pub check_code_by : {R : Type 0} → (R → ℕ) → (R → ℕ) → Result ⊤ R → ℕ
check_code_by number place (Ok _) = 0
check_code_by number place (Err x) = code_by (number x) (place x)

-- and of a refusal
abbrev pub check_code : Checked → ℕ
check_code = check_code_by refusal_number refusal_place

-- the number and the place that a code says
abbrev pub number_of : ℕ → ℕ
number_of code = code % 4294967296

abbrev pub place_of : ℕ → ℕ
place_of code = code / 4294967296
