-- TO BELIEVE: a chain given by the list of its moves. Definitions.
use Rattle.std.specs.Prelude.{ℕ, ◌+◌, ◌*◌, cond, List, ltb, get_or}
use Rattle.runlength.specs.Automaton.{Automaton, Move, quiet, signal}
use Rattle.runlength.specs.Chain.{Chain}
use Rattle.runlength.specs.Scale.{weight_total, units_per_one}

-- an entry of the list: the next state, if it is one of the n states, and any other number is a signal
abbrev pub entry_move : ℕ → ℕ → Move ℕ
entry_move n x = cond (ltb x n) (quiet x) signal

-- the n states' moves: state s by zone z stands at zones * s + z; the chart starts in state 0
abbrev pub listed_automaton : ℕ → ℕ → List ℕ → Automaton ℕ
listed_automaton zones n moves = record { start = 0; move = λ s z. entry_move n (get_or moves (zones * s + z) 0); zones = zones }

-- with document 01's numbers
abbrev pub listed_chain : ℕ → ℕ → List ℕ → (ℕ → ℕ) → Chain
listed_chain zones n moves weight =
    record { automaton = listed_automaton zones n moves; size = n; weight = weight; base = weight_total; whole = units_per_one }
