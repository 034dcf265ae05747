-- TO BELIEVE: the chart of a rule list as two automata: by the state that the monitor keeps, and by the whole row of zones. Definitions.
use Rattle.std.specs.Prelude.{ℕ, cond, List, [], ◌∷◌, eqb}
use Rattle.rules.specs.declared.Rule.{Rule}
use Rattle.rules.specs.Bounds.{zone_count}
use Rattle.window.specs.declared.Move.{Move as MonitorMove}
use Rattle.window.specs.declared.Move.TheVariants.{Quiet, Signal}
use Rattle.window.specs.State.{empty_state, move_of}
use Rattle.window.specs.ReferenceChart.{row_mask}
use Rattle.runlength.specs.Automaton.{Automaton, Move, quiet, signal}

-- the monitor's move as an automaton's
abbrev pub automaton_move : MonitorMove → Move ℕ
automaton_move (Quiet t) = quiet t
automaton_move (Signal mask) = signal

-- the chart by its state
abbrev pub state_automaton : List Rule → Automaton ℕ
state_automaton rs = record { start = empty_state; move = λ s z. automaton_move (move_of rs s z); zones = zone_count }

-- document 01's plain chart, by the whole row, the newest zone first: a signal where some rule holds on the row with the point in it
abbrev pub reference_automaton : List Rule → Automaton (List ℕ)
reference_automaton rs =
    record { start = []; move = λ row z. cond (eqb (row_mask rs (z ∷ row)) 0) (quiet (z ∷ row)) signal; zones = zone_count }
