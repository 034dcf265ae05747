-- TO BELIEVE: what is said of points on the centre line: rules that leave them out, how many of them a row has, the
-- exact sum zone by zone, and the table of the seven other zones. Definitions.
use Rattle.std.specs.Prelude.{ℕ, ◌+◌, ◌*◌, ◌≡◌, false, cond, List, [], ◌∷◌, ◌++◌, eqb, length}
use Rattle.rules.specs.declared.Rule.{Rule}
use Rattle.rules.specs.Bounds.{zone_count}
use Rattle.rules.specs.ZoneSet.{in_zone_set}
use Rattle.runlength.specs.Sum.{only, sum_sequences, at}
use Rattle.runlength.specs.Automaton.{Automaton, product}
use Rattle.runlength.specs.Chain.{Chain}
use Rattle.runlength.specs.Listed.{listed_chain}
use Rattle.monitor.specs.Zone.{zone_s, zone_a1, zone_b1, zone_c1, zone_c2, zone_b2, zone_a2, zone_c0}
use Rattle.window.specs.ReferenceChart.{Answer}
use Rattle.states.specs.States.{states, moves}
use Rattle.chain.specs.TableChain.{table_automaton}
use Rattle.claims.specs.Exact.{free_answers, says_signal, first_signal}
use Rattle.window.specs.ReferenceChart.{is_signal}
use Rattle.runlength.specs.Sum.{only, sum_sequences, at}
use Rattle.runlength.specs.Automaton.{product}
use Rattle.runlength.specs.Chain.{Chain}
use Rattle.monitor.specs.Zone.{zone_c0}
use Rattle.chain.specs.TableChain.{table_automaton}
use Rattle.table.specs.Table.{TableCall, rules_of}
use Rattle.claims.specs.Exact.{says_signal, first_signal, free_answers}

-- ---- rules and rows

-- C0 is in no set of these rules
unfoldable pub OffCentre : List Rule → Type 0
OffCentre [] = Unit {0}
OffCentre (r ∷ rs) = (in_zone_set r.zones zone_c0 ≡ 0) × OffCentre rs

-- how many of the zones are C0
unfoldable pub on_centre : List ℕ → ℕ
on_centre [] = 0
on_centre (z ∷ row) = cond (eqb z zone_c0) 1 0 + on_centre row

-- no call in C0 is answered by a signal: the answers to a list of calls, call by call
unfoldable pub QuietOnCentre : List ℕ → List Answer → Type 0
QuietOnCentre [] [] = Unit {0}
QuietOnCentre [] (a ∷ answers) = ⊥
QuietOnCentre (z ∷ zs) [] = ⊥
QuietOnCentre (z ∷ zs) (a ∷ answers) = (z ≡ zone_c0 → is_signal a ≡ false) × QuietOnCentre zs answers

-- ---- the exact sum

-- f summed over the eight zones, each by its name
abbrev pub each_zone : (ℕ → ℕ) → ℕ
each_zone f = f zone_s + f zone_a1 + f zone_b1 + f zone_c1 + f zone_c2 + f zone_b2 + f zone_a2 + f zone_c0

-- what one sequence adds to the exact sum: its product, where the plain chart says signal on it at least once
abbrev pub adds_to_sum : List Rule → List ℕ → List ℕ → ℕ
adds_to_sum rs w q = only (says_signal (free_answers rs [] q)) (product (at w) q)

-- and to the exact mean: its product times the number of the first signalling point, or times its length where there is
-- none
abbrev pub adds_to_mean : List Rule → List ℕ → List ℕ → ℕ
adds_to_mean rs w q = product (at w) q * first_signal (free_answers rs [] q)

-- what all sequences add to the exact sum that begin with the zones p and go on for n more
unfoldable pub drawn : List Rule → List ℕ → List ℕ → ℕ → ℕ
drawn rs w p n = sum_sequences zone_count n (λ q. adds_to_sum rs w (p ++ q))

-- ---- the table of the seven other zones

-- the chain that the table runs on, moved by them alone: the zones below C0
abbrev pub without_centre : List Rule → Automaton ℕ
without_centre rs = record { start = (table_automaton rs).start; move = (table_automaton rs).move; zones = zone_c0 }

-- the chain of the states that they meet
abbrev pub chain_without_centre : List Rule → List ℕ → Chain
chain_without_centre rs w = listed_chain zone_c0 (length (states (without_centre rs))) (moves (without_centre rs)) (at w)

-- ---- the table, where C0 has weight 0

-- the chain of the seven other zones
abbrev pub seven_zones : TableCall → Chain
seven_zones t = chain_without_centre (rules_of t) t.weights
