-- The cases of a signed number: the byte b at i is a minus or not, and the number behind it.
use Prim.Native.Nat.{ℕ, suc, _+_, _-_, _<_, _≤_}
use mathlib.Core.Path.{_≡_}
use mathlib.Core.List.{List}
use native.Mathlib.Omega.{arith}
use borrow.Author.Tests.{le-ltb, lt-ltb, eq-eqb, ne-eqb}
use lib.ListN.{getD}
use Rattle·decimal·specs.specs.declared.number.Number.the-variants.{Value, NoNumber}
use Rattle·decimal·specs.specs.Decimal.{minusByte, maxPositive, maxNegative}
use Rattle·decimal·specs.specs.Number.{numberAt}
use Rattle·decimal·specs.specs.Signed.{NoSigned, signedAt, raisedOf}

module _ (s : List ℕ) (i b : ℕ) (q : b ≡ getD s i 0) where
  module _ (m : b ≡ minusByte) where
    pub minus-none : numberAt s (i + 1) ≡ NoNumber → signedAt s i ≡ NoSigned
    unfolding signedAt
    minus-none f = rw (← q, eq-eqb b minusByte m, f)

    module _ (n e : ℕ) (f : numberAt s (i + 1) ≡ Value n e) where
      pub minus-zero : n ≡ 0 → signedAt s i ≡ NoSigned
      unfolding signedAt
      minus-zero z = rw (← q, eq-eqb b minusByte m, f, eq-eqb n 0 z)

      pub minus-over : (n ≡ 0 → ⊥) → maxNegative < n → signedAt s i ≡ NoSigned
      unfolding signedAt
      minus-over z o = rw (← q, eq-eqb b minusByte m, f, ne-eqb n 0 z, lt-ltb maxNegative n o)

      pub minus-some : (n ≡ 0 → ⊥) → n ≤ maxNegative → raisedOf (signedAt s i) ≡ Value (maxNegative - n) e
      unfolding signedAt
      minus-some z l =
          let a : suc (n - 1) ≡ n = omega arith in
          rw (← q, eq-eqb b minusByte m, f, ne-eqb n 0 z, le-ltb maxNegative n l, a)

  module _ (m : b ≡ minusByte → ⊥) where
    pub plus-none : numberAt s i ≡ NoNumber → signedAt s i ≡ NoSigned
    unfolding signedAt
    plus-none f = rw (← q, ne-eqb b minusByte m, f)

    module _ (n e : ℕ) (f : numberAt s i ≡ Value n e) where
      pub plus-over : maxPositive < n → signedAt s i ≡ NoSigned
      unfolding signedAt
      plus-over o = rw (← q, ne-eqb b minusByte m, f, lt-ltb maxPositive n o)

      pub plus-some : n ≤ maxPositive → raisedOf (signedAt s i) ≡ Value (maxNegative + n) e
      unfolding signedAt
      plus-some l = rw (← q, ne-eqb b minusByte m, f, le-ltb maxPositive n l)
