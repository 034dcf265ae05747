-- TO BELIEVE: doubles that are shown exact. Definitions.
use Rattle.std.specs.Prelude.{◌≡◌, false, ℕ, Float}
use Rattle.std.specs.Float.{binary64}
use Rattle.std.specs.Float.Ieee.{round}
use Rattle.std.specs.Float.Ieee.Exact.{HasValue}

-- the double nearest to a / c
unfoldable pub nearest_to : ℕ → ℕ → Float
nearest_to a c = round binary64 false a c

-- r is the double nearest to a / c, and it is finite and equal to a / c: nothing is rounded off
pub record Exactly (r : Float) (a c : ℕ) : Type 0 where
  pub nearest : r ≡ nearest_to a c
  pub exact : HasValue r false a c
