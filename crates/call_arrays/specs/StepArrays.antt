-- TO BELIEVE: a monitor and a step's answer in the arrays that a caller lends. Definitions.
use Rattle.std.specs.Prelude.{ℕ, List, set}
use Rattle.monitor.specs.declared.Monitor.{Monitor}

-- the monitor for the next point: its state, and its count
abbrev pub state_as : Monitor → List ℕ → List ℕ
state_as m state = set state 0 m.state

abbrev pub points_as : Monitor → List ℕ → List ℕ
points_as m points = set points 0 m.count

-- the count with the point in it, and the mask, 0 for quiet
abbrev pub answer_as : ℕ → ℕ → List ℕ → List ℕ
answer_as count mask answer = set (set answer 0 count) 1 mask
