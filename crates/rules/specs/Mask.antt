-- TO BELIEVE: the mask of a list of tests. Definitions.
use Rattle.std.specs.Prelude.{ℕ, ◌+◌, ◌*◌, Bool, true, false, List, [], ◌∷◌}

-- 1 if the test holds, else 0
abbrev pub bit : Bool → ℕ
bit true = 1
bit false = 0

-- the sum of 2^index over the tests that hold, indices from 0
unfoldable pub mask_of : List Bool → ℕ
mask_of [] = 0
mask_of (t ∷ ts) = bit t + 2 * mask_of ts
