-- TO BELIEVE: the check of a rule list: 2, none or too many; then rule by rule 3, then 4. Definitions.
use Rattle.std.specs.Prelude.{ℕ, zero, suc, ◌+◌, Bool, false, cond, List, [], ◌∷◌, get_or, leb, Err, Ok, Result, ⊤}
use Rattle.rules.specs.declared.Rule.{Rule}
use Rattle.rules.specs.declared.RuleList.{RuleList}
use Rattle.rules.specs.declared.refusal.Refusal.{Refusal}
use Rattle.rules.specs.Bounds.{min_rules, max_rules, min_window, max_window, min_hits, min_zone_set, max_zone_set}
use Rattle.rules.specs.Refusal.{bad_rule_count, bad_rule_bounds, bad_zone_set}

-- low ≤ x ≤ high
abbrev pub within : ℕ → ℕ → ℕ → Bool
within low high x = cond (leb low x) (leb x high) false

-- what a check answers: accepted, or the refusal
abbrev pub Checked : Type 0
Checked = Result ⊤ Refusal

-- whether an answer accepts, whatever it then answers
abbrev pub checked : {A E : Type 0} → Result A E → Result ⊤ E
checked (Ok a) = Ok tt
checked (Err x) = Err x

-- the first answer if it is a refusal, else the second
abbrev pub or_else : Checked → Checked → Checked
or_else (Ok _) next = next
or_else (Err x) next = Err x

-- accepted where the test holds, else refused
abbrev pub unless : Bool → Refusal → Checked
unless t x = cond t (Ok tt) (Err x)

-- the rule at the index i: 3 where m or k is out of bounds, else 4 where the zone set is
abbrev pub check_rule : ℕ → Rule → Checked
check_rule i r =
    or_else (unless (within min_window max_window r.m) (bad_rule_bounds i))
    (or_else (unless (within min_hits r.m r.k) (bad_rule_bounds i))
    (unless (within min_zone_set max_zone_set r.zones) (bad_zone_set i)))

-- rule by rule, the first of them standing at the index i
unfoldable pub check_rules : ℕ → List Rule → Checked
check_rules i [] = Ok tt
check_rules i (r ∷ rs) = or_else (check_rule i r) (check_rules (i + 1) rs)

-- what a slot that does not exist would hold
abbrev pub no_rule : Rule
no_rule = record { k = 0; m = 0; zones = 0 }

-- n rules of the slots, from the index i on
unfoldable pub rules_from : ℕ → ℕ → List Rule → List Rule
rules_from zero i slots = []
rules_from (suc n) i slots = get_or slots i no_rule ∷ rules_from n (i + 1) slots

-- the rules that count: those in the first `len` slots
abbrev pub active_rules : RuleList → List Rule
active_rules l = rules_from l.len 0 l.rules

unfoldable pub check_of : RuleList → Checked
check_of l = or_else (unless (within min_rules max_rules l.len) bad_rule_count) (check_rules 0 (active_rules l))
