-- A bracket that is no point, however a match finds it out.
use Rattle.std.proofs.Common.{ℕ, ◌≡◌, refl}
use Rattle.std.specs.Prelude.{None}
use Rattle.bracket.specs.declared.Bracket.{Bracket}
use Rattle.bracket.specs.declared.Bracket.TheVariants.{At, Between, Open, Beyond}
use Rattle.plot.specs.Item.{point_of}

pub not_at : (b : Bracket) → ((n : ℕ) → b ≡ At n → ⊥) → point_of b ≡ None
not_at (At n) h = absurd (h n refl)
not_at (Between l u) h = refl
not_at (Open l) h = refl
not_at (Beyond n) h = refl
