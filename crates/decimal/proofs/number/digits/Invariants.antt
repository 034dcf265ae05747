-- `text::digits` meets its contract. The invariant: what is read from here on is what was to be read from the start.
use mathlib.Core.Path.{◌≡◌}
use Prim.Native.Nat.{◌≤◌, ◌-◌}
use lib.ListN.{length, drop}
use Rattle.rules.specs.Bounds.{max_number}
use Rattle.decimal.specs.Number.{digits_from}
use Rattle.decimal.proofs.number.digits.Given as goal

abbrev pub invariant-loop-i : goal.invariant-loop-i
invariant-loop-i l = (l.v ≤ max_number) × (digits_from (drop l.i l.text) l.v l.i ≡ digits_from (drop l.at l.text) l.before l.at)

abbrev pub decreases-loop-i : goal.decreases-loop-i
decreases-loop-i l = length l.text - l.i
