-- Comparisons with an exact share, by its quotient rounded down or up. Laws over plain numbers.
use Rattle.std.specs.Prelude.{◌≡◌, ℕ, ◌+◌, ◌-◌, ◌*◌, ◌/◌, ◌≤◌, ◌<◌, leb, ltb}
use Rattle.std.proofs.Common.{sym, ◌∙◌, mul-le-mul_right, div-mul-le_self, arith, le-leb, lt-ltb, le-ltb}
use Rattle.std.proofs.Math.Nat.{lt-div-mul-add}
use Rattle.std.proofs.Math.Decide.{dec_le}
use Rattle.std.proofs.lemmas.Bool.{lt-leb}

-- two tests that pass and fail together
same_le : (a b c d : ℕ) → (a ≤ b → c ≤ d) → (b < a → d < c) → leb a b ≡ leb c d
same_le a b c d f g = go (dec_le a b)
  where
    go : Dec (a ≤ b) → leb a b ≡ leb c d
    go (yes h) = le-leb a b h ∙ sym (le-leb c d (f h))
    go (no h) = lt-leb a b (omega arith) ∙ sym (lt-leb c d (g (omega arith)))

same_lt : (a b c d : ℕ) → (a ≤ b → c < d) → (b < a → d ≤ c) → leb a b ≡ ltb c d
same_lt a b c d f g = go (dec_le a b)
  where
    go : Dec (a ≤ b) → leb a b ≡ ltb c d
    go (yes h) = le-leb a b h ∙ sym (lt-ltb c d (f h))
    go (no h) = lt-leb a b (omega arith) ∙ sym (le-ltb c d (g (omega arith)))

module _ (d : ℕ) (pos : 0 < d) where
  -- x reaches the share rounded up exactly where d × x reaches the whole
  pub at_least_share : (a x : ℕ) → leb ((a + (d - 1)) / d) x ≡ leb a (d * x)
  at_least_share a x =
      let q = (a + (d - 1)) / d in
      same_le q x a (d * x)
      (λ h. omega (arith, mul-le-mul_right d h, lt-div-mul-add {a = a + (d - 1)} pos))
      (λ h. omega (arith, mul-le-mul_right d h, div-mul-le_self (a + (d - 1)) d))

  -- x reaches the number after the share rounded down exactly where d × x is over the whole
  pub over_share : (a x : ℕ) → leb ((a + d) / d) x ≡ ltb a (d * x)
  over_share a x =
      let q = (a + d) / d in
      same_lt q x a (d * x)
      (λ h. omega (arith, mul-le-mul_right d h, lt-div-mul-add {a = a + d} pos))
      (λ h. omega (arith, mul-le-mul_right d h, div-mul-le_self (a + d) d))
