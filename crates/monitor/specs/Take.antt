-- A point where nothing can be refused: its answer, and the monitor after it. Working definitions.
use Rattle.std.specs.Prelude.{ℕ, ◌+◌, List, [], ◌∷◌}
use Rattle.rules.specs.declared.Rule.{Rule}
use Rattle.monitor.specs.declared.Monitor.{Monitor}
use Rattle.monitor.specs.declared.Taken.{Taken}
use Rattle.window.specs.declared.Move.{Move}
use Rattle.window.specs.declared.Move.TheVariants.{Quiet, Signal}
use Rattle.window.specs.State.{move_of}
use Rattle.monitor.specs.declared.Step.{Step}
use Rattle.monitor.specs.Step.{monitor_at, fresh_monitor}
use Rattle.window.specs.ReferenceChart.{Answer, quiet, signal}

-- quiet, with the next state and the count; or signal, with the mask
abbrev pub taken_by : Move → ℕ → Taken
taken_by (Quiet t) count = Taken.Quiet (monitor_at t count)
taken_by (Signal mask) count = Taken.Signal mask

unfoldable pub taken_of : List Rule → Monitor → ℕ → Taken
taken_of rs m z = taken_by (move_of rs m.state z) (m.count + 1)

-- the monitor for the next point
abbrev pub next_of : Taken → Monitor
next_of (Taken.Quiet m) = m
next_of (Taken.Signal mask) = fresh_monitor

-- the answer to the point with this count
abbrev pub answer_of : ℕ → Taken → Answer
answer_of count (Taken.Quiet m) = quiet count
answer_of count (Taken.Signal mask) = signal count mask

-- the step that a taken point is, with the count that it has
abbrev pub step_taken : ℕ → Taken → Step
step_taken count (Taken.Quiet m) = Step.Quiet count m
step_taken count (Taken.Signal mask) = Step.Signal count mask fresh_monitor

-- the answers to a list of points, given by their zones
unfoldable pub taken_answers : List Rule → Monitor → List ℕ → List Answer
taken_answers rs m [] = []
taken_answers rs m (z ∷ zs) = answer_of (m.count + 1) (taken_of rs m z) ∷ taken_answers rs (next_of (taken_of rs m z)) zs
