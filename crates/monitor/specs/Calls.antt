-- TO BELIEVE: a list of monitor calls with one rule list, each getting the state and count of the last accepted one. Definitions.
use Rattle.std.specs.Prelude.{ℕ, List, [], ◌∷◌, Result, Ok, Err}
use Rattle.rules.specs.Refusal.{number_of}
use Rattle.rules.specs.declared.refusal.Refusal.{Refusal}
use Rattle.rules.specs.declared.RuleList.{RuleList}
use Rattle.monitor.specs.declared.Monitor.{Monitor}
use Rattle.monitor.specs.declared.Step.{Step}
use Rattle.monitor.specs.declared.Step.TheVariants.{Quiet, Signal}
use Rattle.monitor.specs.Step.{step_of}
use Rattle.window.specs.ReferenceChart.{Answer, refused, quiet, signal}

-- what is compared of a step: the refusal's number; or quiet or signal, with the count and the mask
abbrev pub answer_of : Result Step Refusal → Answer
answer_of (Err x) = refused (number_of x)
answer_of (Ok (Quiet count next)) = quiet count
answer_of (Ok (Signal count mask next)) = signal count mask

-- the monitor that the next call gets: unchanged by a refused call
abbrev pub monitor_after : Monitor → Result Step Refusal → Monitor
monitor_after m (Err x) = m
monitor_after m (Ok (Quiet count next)) = next
monitor_after m (Ok (Signal count mask next)) = next

-- the answers to a list of calls, given by their zones
unfoldable pub monitor_answers : RuleList → Monitor → List ℕ → List Answer
monitor_answers l m [] = []
monitor_answers l m (z ∷ zs) = answer_of (step_of l m z) ∷ monitor_answers l (monitor_after m (step_of l m z)) zs

-- the number that an answer refuses by, and 0 where it does not refuse
abbrev pub refusal_number : Answer → ℕ
refusal_number (refused n) = n
refusal_number (quiet count) = 0
refusal_number (signal count mask) = 0

-- quiet or signal: the call was taken
abbrev pub Said : Answer → Type 0
Said (refused n) = ⊥
Said (quiet count) = Unit {0}
Said (signal count mask) = Unit {0}

-- each answer of a list has it
unfoldable pub EachAnswer : (Answer → Type 0) → List Answer → Type 0
EachAnswer P [] = Unit {0}
EachAnswer P (a ∷ rest) = P a × EachAnswer P rest
