-- TO BELIEVE: whether a batch is accepted, and its answer in the array that a caller lends. Definitions.
use Rattle.std.specs.Prelude.{ℕ, cond, List, eqb, set, Err, None, Ok, Option, Result, Some, ⊤}
use Rattle.batch.specs.declared.Batch.{Batch}
use Rattle.rules.specs.declared.refusal.Refusal.{Refusal}
use Rattle.rules.specs.Refusal.{number_of}

-- Whether the call is accepted: a refusal answers it only where no reading was taken; else it is told among the answer's numbers.
abbrev pub unrefused : {R : Type 0} → Option R → Result ⊤ R
unrefused None = Ok tt
unrefused (Some x) = Err x

abbrev pub batch_checked : {R : Type 0} → Batch R → Result ⊤ R
batch_checked b = cond (eqb b.taken 0) (unrefused b.refusal) (Ok tt)

-- the last reading's mask, 0 for quiet
abbrev pub mask_as : Option ℕ → ℕ
mask_as None = 0
mask_as (Some mask) = mask

-- the number of what refused it, 0 for none
abbrev pub number_as : {R : Type 0} → (R → ℕ) → Option R → ℕ
number_as number None = 0
number_as number (Some x) = number x

-- how many readings were taken, the last one's count and mask, and the number that the next reading would be refused by, 0 for none; here of
-- whatever has a number
abbrev pub batch_as_by : {R : Type 0} → (R → ℕ) → Batch R → List ℕ → List ℕ
batch_as_by number b answer = set (set (set (set answer 0 b.taken) 1 b.count) 2 (mask_as b.signal)) 3 (number_as number b.refusal)

-- and of a refusal
abbrev pub batch_as : Batch Refusal → List ℕ → List ℕ
batch_as = batch_as_by number_of
