-- TO BELIEVE: refusals: every number that there is, by name, each written here once. Definitions.
use Rattle.std.specs.Prelude.{ℕ}
use Rattle.rules.specs.declared.refusal.Refusal.{Refusal}
use Rattle.rules.specs.declared.refusal.Refusal.TheVariants.{Sigma, RuleCount, RuleBounds, ZoneSet, State, Zone, Count, Weights, Horizon, States}
use Rattle.rules.specs.declared.refusal.Refusal.TheVariants.{ShortList, ListLength, StateCount, Percent, Total, Line, TextSize, Shift, Node}

-- its number, from 1 to 19
abbrev pub number_of : Refusal → ℕ
number_of Sigma = 1
number_of RuleCount = 2
number_of (RuleBounds i) = 3
number_of (ZoneSet i) = 4
number_of State = 5
number_of Zone = 6
number_of Count = 7
number_of Weights = 8
number_of Horizon = 9
number_of (States place) = 10
number_of ShortList = 11
number_of ListLength = 12
number_of StateCount = 13
number_of Percent = 14
number_of Total = 15
number_of (Line line) = 16
number_of TextSize = 17
number_of Shift = 18
number_of (Node line) = 19

-- its place: the index of the rule, or the line, where it has one; else 0
abbrev pub place_of : Refusal → ℕ
place_of Sigma = 0
place_of RuleCount = 0
place_of (RuleBounds i) = i
place_of (ZoneSet i) = i
place_of State = 0
place_of Zone = 0
place_of Count = 0
place_of Weights = 0
place_of Horizon = 0
place_of (States place) = place
place_of ShortList = 0
place_of ListLength = 0
place_of StateCount = 0
place_of Percent = 0
place_of Total = 0
place_of (Line line) = line
place_of TextSize = 0
place_of Shift = 0
place_of (Node line) = line

-- sigma (document 01's d) outside its bounds
abbrev pub bad_sigma : Refusal
bad_sigma = Sigma

-- no rules, or too many
abbrev pub bad_rule_count : Refusal
bad_rule_count = RuleCount

-- k or m of the rule at i outside bounds
abbrev pub bad_rule_bounds : ℕ → Refusal
bad_rule_bounds i = RuleBounds i

-- the zone set of the rule at i zero or too large
abbrev pub bad_zone_set : ℕ → Refusal
bad_zone_set i = ZoneSet i

-- a state that cannot stand with these rules and this count
abbrev pub bad_state : Refusal
bad_state = State

-- a zone that does not exist
abbrev pub bad_zone : Refusal
bad_zone = Zone

-- a count that can go no further
abbrev pub bad_count : Refusal
bad_count = Count

-- weights that do not sum to probability one
abbrev pub bad_weights : Refusal
bad_weights = Weights

-- a horizon outside its bounds
abbrev pub bad_horizon : Refusal
bad_horizon = Horizon

-- more states than are taken, with this place
abbrev pub too_many_states : ℕ → Refusal
too_many_states place = States place

-- a lent list that is shorter than the horizon
abbrev pub short_list : Refusal
short_list = ShortList

-- a list of chances that is empty or too long
abbrev pub bad_list_length : Refusal
bad_list_length = ListLength

-- a number of states outside its bounds
abbrev pub bad_state_count : Refusal
bad_state_count = StateCount

-- a percent outside its bounds
abbrev pub bad_percent : Refusal
bad_percent = Percent

-- chances that sum to more than probability one
abbrev pub bad_total : Refusal
bad_total = Total

-- the line with this number, from 1, is not the one expected, is missing, or cannot be read
abbrev pub bad_line : ℕ → Refusal
bad_line line = Line line

-- a text that is too long
abbrev pub too_long : Refusal
too_long = TextSize

-- a shift outside its bounds
abbrev pub bad_shift : Refusal
bad_shift = Shift

-- a node over the last one, at the point line with this number, from 1
abbrev pub bad_node : ℕ → Refusal
bad_node line = Node line
