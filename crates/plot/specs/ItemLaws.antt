-- Laws of the items and of the quartiles: a percentile's bracket is shown exactly, and two points stand in order.
use Rattle.std.specs.Prelude.{◌≡◌, refl, Bool, true, false, cond, List, ℕ, ◌+◌, ◌*◌, ◌≤◌, T, eqb, length, Option, Some, None}
use Rattle.std.proofs.Common.{zero-le, arith, lt→ltb, ltb→lt}
use Rattle.std.specs.Float.Ieee.Exact.{HasValue}
use Rattle.runlength.specs.Scale.{max_horizon, units_per_one, percents_per_one}
use Rattle.runlength.specs.Chain.{cdf_of}
use Rattle.runlength.specs.Percentile.{least, Percentile}
use Rattle.runlength.proofs.PercentileLaws.{least_percentile, percentile_least}
use Rattle.bracket.specs.declared.Bracket.TheVariants as bracket
use Rattle.bracket.specs.Bracket.{passes, low_test, high_test, bracket_by, percentile_bracket}
use Rattle.plot.specs.Double.{nearest_to}
use Rattle.plot.specs.DoubleLaws.{exact}
use Rattle.plot.specs.Item.{item_of, point_of, in_order, Ordered}
use Rattle.plot.specs.Shown.{Shows, point, span, from, beyond}

-- a number of the list's numbers is a double
pub number : (n : ℕ) → n ≤ max_horizon → HasValue (nearest_to n 1) false n 1
number n h = exact n 0 (omega arith) zero-le

-- the item of two bounds in the list's numbers shows them
shown_by : (low high : Option ℕ) (h : ℕ) → h ≤ max_horizon → ((k : ℕ) → low ≡ Some k → k ≤ h) → ((k : ℕ) → high ≡ Some k → k ≤ h)
    → Shows (bracket_by low high h) (item_of (bracket_by low high h))
unfolding bracket_by item_of
shown_by None high h m a b = beyond h (nearest_to h 1) (number h m)
shown_by (Some l) None h m a b = from l (nearest_to l 1) (number l (omega (arith, a l refl)))
shown_by (Some l) (Some u) h m a b = go (eqb l u)
  where
    go : (t : Bool) → Shows (cond t (bracket.At l) (bracket.Between l u)) (item_of (cond t (bracket.At l) (bracket.Between l u)))
    go true = point l (nearest_to l 1) (number l (omega (arith, a l refl)))
    go false = span l u (nearest_to l 1) (nearest_to u 1) (number l (omega (arith, a l refl))) (number u (omega (arith, b u refl)))

-- a percentile's item shows its bracket exactly
pub shown : (pmf : List ℕ) (n p : ℕ) → length pmf ≤ max_horizon → Shows (percentile_bracket pmf n p) (item_of (percentile_bracket pmf n p))
unfolding percentile_bracket
shown pmf n p short =
    shown_by (least (low_test pmf n p) (length pmf)) (least (high_test pmf p) (length pmf)) (length pmf) short
    (λ k e. (least_percentile (low_test pmf n p) (length pmf) k e).1) (λ k e. (least_percentile (high_test pmf p) (length pmf) k e).1)

-- ---- the order of two points

-- a point is the low bound
point_low : (low high : Option ℕ) (h k : ℕ) → point_of (bracket_by low high h) ≡ Some k → low ≡ Some k
unfolding bracket_by
point_low None high h k e = let z : ◌≡◌ {A = ℕ} 0 1 = cc in absurd (omega arith)
point_low (Some l) None h k e = let z : ◌≡◌ {A = ℕ} 0 1 = cc in absurd (omega arith)
point_low (Some l) (Some u) h k e = go (eqb l u) e
  where
    go : (t : Bool) → point_of (cond t (bracket.At l) (bracket.Between l u)) ≡ Some k → Some l ≡ Some k
    go true q = cc
    go false q = let z : ◌≡◌ {A = ℕ} 0 1 = cc in absurd (omega arith)

-- so it is the least that passes the low test
pub point_found : (pmf : List ℕ) (n p k : ℕ) → point_of (percentile_bracket pmf n p) ≡ Some k → Percentile (low_test pmf n p) k × (k ≤ length pmf)
unfolding percentile_bracket
point_found pmf n p k e = least_percentile (low_test pmf n p) (length pmf) k (point_low _ _ (length pmf) k e)

-- what passes the low test of a percent passes that of a smaller one
low_smaller : (pmf : List ℕ) (n p q k : ℕ) → p ≤ q → T (low_test pmf n q k) → T (low_test pmf n p k)
unfolding passes
low_smaller pmf n p q k h t =
    lt→ltb (p * units_per_one) (percents_per_one * (cdf_of pmf k + k * (n + 1)))
    (omega (arith, ltb→lt (q * units_per_one) (percents_per_one * (cdf_of pmf k + k * (n + 1))) t))

module _ (pmf : List ℕ) (n p q : ℕ) (smaller : p ≤ q) where
  points_order : (j k : ℕ) → point_of (percentile_bracket pmf n p) ≡ Some j → point_of (percentile_bracket pmf n q) ≡ Some k → j ≤ k
  points_order j k e f =
      let x = point_found pmf n p j e in
      let y = point_found pmf n q k f in
      percentile_least (low_test pmf n p) j k x.0 y.0.from_one (low_smaller pmf n p q k smaller y.0.there)

  -- the point of a smaller percent is not above that of a larger one
  pub ordered : Ordered (percentile_bracket pmf n p) (percentile_bracket pmf n q)
  ordered = go (point_of (percentile_bracket pmf n p)) (point_of (percentile_bracket pmf n q)) refl refl
    where
      go : (x y : Option ℕ) → point_of (percentile_bracket pmf n p) ≡ x → point_of (percentile_bracket pmf n q) ≡ y → in_order x y
      go (Some j) (Some k) e f = points_order j k e f
      go (Some j) None e f = tt
      go None y e f = tt
