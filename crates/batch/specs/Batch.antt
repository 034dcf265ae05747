-- TO BELIEVE: readings taken one after another until one signals, one is refused, or none is left; and by what a batch is refused.
-- Definitions, and a working one.
use Rattle.std.specs.Prelude.{ℕ, ◌+◌, ◌≤◌, ◌≡◌, List, [], ◌∷◌, ℤ, drop, Err, None, Ok, Option, Result, Some}
use Rattle.rules.specs.Check.{Checked}
use Rattle.rules.specs.declared.refusal.Refusal.{Refusal}
use Rattle.rules.specs.declared.RuleList.{RuleList}
use Rattle.rules.specs.Bounds.{max_number}
use Rattle.rules.specs.Refusal.{bad_count}
use Rattle.monitor.specs.declared.Monitor.{Monitor}
use Rattle.monitor.specs.declared.Step.{Step}
use Rattle.monitor.specs.declared.Step.TheVariants.{Quiet, Signal}
use Rattle.monitor.specs.Reading.{reading_step, reading_check, Readable}
use Rattle.batch.specs.declared.Batch.{Batch}

-- no reading taken: the monitor stays as it was given
abbrev pub none_taken : Option Refusal → Monitor → Batch Refusal
none_taken x m = record { taken = 0; refusal = x; count = m.count; signal = None; next = m }

-- so many readings more were taken before
abbrev pub after : ℕ → Batch Refusal → Batch Refusal
after n b = record { taken = n + b.taken; refusal = b.refusal; count = b.count; signal = b.signal; next = b.next }

-- by the first reading's step: refused, it is not taken; a signal is the last one taken; after a quiet one the rest are taken
abbrev pub batch_by : Monitor → Result Step Refusal → (Monitor → Batch Refusal) → Batch Refusal
batch_by m (Err x) rest = none_taken (Some x) m
batch_by m (Ok (Signal count mask next)) rest =
    record { taken = 1; refusal = None; count = count; signal = Some mask; next = next }
batch_by m (Ok (Quiet count next)) rest = after 1 (rest next)

-- the readings from a monitor on, all with one rule list, centre and sigma
unfoldable pub readings_from : RuleList → Monitor → ℤ → ℕ → List ℤ → Batch Refusal
readings_from l m centre sigma [] = none_taken None m
readings_from l m centre sigma (x ∷ xs) = batch_by m (reading_step l m centre sigma x) (λ next. readings_from l next centre sigma xs)

-- a batch: all that it is given is checked as for a first reading, also where there is none; then its readings
abbrev pub checked_batch : Checked → Monitor → Batch Refusal → Batch Refusal
checked_batch (Ok _) m b = b
checked_batch (Err x) m b = none_taken (Some x) m

unfoldable pub batch_of : RuleList → Monitor → ℤ → ℕ → List ℤ → Batch Refusal
batch_of l m centre sigma xs = checked_batch (reading_check l m sigma) m (readings_from l m centre sigma xs)

-- how a batch that is not refused ends: by no refusal, or at a full count with readings taken
pub data Ends (b : Batch Refusal) : Type 0 where
  unrefused : b.refusal ≡ None → Ends b
  full : b.refusal ≡ Some bad_count → 1 ≤ b.taken → max_number ≤ b.next.count → Ends b

-- ---- working: what holds while the readings are quiet

-- the first i readings led from `start` to m: the batch is what the readings left give from m on, i readings later
pub record Left (l : RuleList) (start : Monitor) (centre : ℤ) (sigma : ℕ) (xs : List ℤ) (m : Monitor) (i : ℕ)
    : Type 0 where
  pub readable : Readable l sigma m
  pub same : readings_from l start centre sigma xs ≡ after i (readings_from l m centre sigma (drop i xs))
