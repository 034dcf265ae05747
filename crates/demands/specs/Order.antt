-- TO BELIEVE: the order of the refusals of each operation, by plain conditions: the first that holds gives its
-- number. Definitions.
use Rattle.std.specs.Prelude.{ℕ, ◌+◌, ◌≤◌, ◌<◌, ◌≡◌, List, [], ◌∷◌, ℤ, nat_abs, length}
use Rattle.rules.specs.declared.Rule.{Rule}
use Rattle.rules.specs.declared.RuleList.{RuleList}
use Rattle.rules.specs.declared.refusal.Refusal.{Refusal}
use Rattle.rules.specs.Bounds.{zone_count, max_number, max_states, min_rules, max_rules, min_window, max_window, min_hits, min_zone_set, max_zone_set}
use Rattle.rules.specs.Refusal.{bad_sigma, bad_rule_count, bad_rule_bounds, bad_zone_set, bad_state, bad_zone, bad_count, bad_weights, bad_horizon}
use Rattle.rules.specs.Refusal.{too_many_states, short_list, bad_list_length, bad_state_count, bad_percent, bad_total, bad_shift}
use Rattle.rules.specs.Check.{active_rules}
use Rattle.runlength.specs.Scale.{min_horizon, max_horizon, weight_total, units_per_one}
use Rattle.runlength.specs.Sum.{at, sum}
use Rattle.runlength.specs.Chain.{cdf_of}
use Rattle.window.specs.CanStand.{StateCanStand}
use Rattle.monitor.specs.declared.Monitor.{Monitor}
use Rattle.monitor.specs.Zone.{min_sigma, max_sigma}
use Rattle.table.specs.Table.{TableCall}
use Rattle.bracket.specs.Limits.{min_states, min_percent, max_percent}
use Rattle.shift.specs.Shift.{max_shift}
use Rattle.claims.specs.Counted.{TooManyStates}

-- refused by y where the condition holds; where it does not, as the rest of the order says
pub data By (Condition : Type 0) (y : Refusal) (Rest : Refusal → Type 0) : Refusal → Type 0 where
  here : Condition → By Condition y Rest y
  later : {x : Refusal} → (Condition → ⊥) → Rest x → By Condition y Rest x

-- the end of an order: no refusal is left
abbrev pub Unrefused : Refusal → Type 0
Unrefused x = ⊥

-- not from low to high
abbrev pub Outside : ℕ → ℕ → ℕ → Type 0
Outside low high x = (low ≤ x) × (x ≤ high) → ⊥

-- ---- rule lists: 2; then rule by rule 3 for m, 3 for k, 4 for Z, each with the rule's index as its place; then the rest

unfoldable pub RulesThen : ℕ → List Rule → (Refusal → Type 0) → Refusal → Type 0
RulesThen i [] Rest = Rest
RulesThen i (r ∷ rs) Rest =
    By (Outside min_window max_window r.m) (bad_rule_bounds i)
    (By (Outside min_hits r.m r.k) (bad_rule_bounds i)
    (By (Outside min_zone_set max_zone_set r.zones) (bad_zone_set i)
    (RulesThen (i + 1) rs Rest)))

abbrev pub ListThen : RuleList → (Refusal → Type 0) → Refusal → Type 0
ListThen l Rest = By (Outside min_rules max_rules l.len) bad_rule_count (RulesThen 0 (active_rules l) Rest)

abbrev pub ListOrder : RuleList → Refusal → Type 0
ListOrder l = ListThen l Unrefused

-- ---- the monitor: the zone of a reading, 1; a step, 2, 3, 4; 6; 5; 7; a reading or a batch of them, 2, 3, 4; 1; 5; 7

abbrev pub SigmaThen : ℕ → (Refusal → Type 0) → Refusal → Type 0
SigmaThen sigma Rest = By (Outside min_sigma max_sigma sigma) bad_sigma Rest

abbrev pub ZoneOrder : ℕ → Refusal → Type 0
ZoneOrder sigma = SigmaThen sigma Unrefused

abbrev pub StateThenCount : RuleList → Monitor → Refusal → Type 0
StateThenCount l m =
    By (StateCanStand m.count (active_rules l) m.state → ⊥) bad_state
    (By (max_number ≤ m.count) bad_count Unrefused)

abbrev pub StepOrder : RuleList → Monitor → ℕ → Refusal → Type 0
StepOrder l m z = ListThen l (By (zone_count ≤ z) bad_zone (StateThenCount l m))

abbrev pub BatchOrder : RuleList → Monitor → ℕ → Refusal → Type 0
BatchOrder l m sigma = ListThen l (SigmaThen sigma (StateThenCount l m))

-- ---- the table, its summary and its plot record: 2, 3, 4; 8; 9; 10; 11 for either list

-- of a chart: 2, 3, 4; 8; 9, with the largest horizon that is taken; 10; then the rest
abbrev pub ChartThen : RuleList → List ℕ → ℕ → ℕ → (Refusal → Type 0) → Refusal → Type 0
ChartThen l weights largest horizon Rest =
    ListThen l
    (By (sum zone_count (at weights) ≡ weight_total → ⊥) bad_weights
    (By (Outside min_horizon largest horizon) bad_horizon
    (By (TooManyStates (active_rules l)) (too_many_states 0) Rest)))

abbrev pub TableOrder : TableCall → Refusal → Type 0
TableOrder t =
    ChartThen t.list t.weights max_horizon t.horizon
    (By (length t.pmf_before < t.horizon) short_list
    (By (length t.survival_before < t.horizon) short_list Unrefused))

-- ---- the bracket: 12; 13; 14; 15

abbrev pub BracketOrder : List ℕ → ℕ → ℕ → Refusal → Type 0
BracketOrder pmf count p =
    By (Outside min_horizon max_horizon (length pmf)) bad_list_length
    (By (Outside min_states max_states count) bad_state_count
    (By (Outside min_percent max_percent p) bad_percent
    (By (units_per_one < cdf_of pmf (length pmf)) bad_total Unrefused)))

-- ---- the weights of a shift: 18

abbrev pub ShiftOrder : ℤ → Refusal → Type 0
ShiftOrder s = By (max_shift < nat_abs s) bad_shift Unrefused
