-- Laws of doubles that are not negative: sums, differences and quotients by the fractions that they equal, and which fractions are doubles.
use Rattle.std.specs.Prelude.{◌≡◌, Bool, ℤ, pos, T, ltb, eqb, Float}
use Rattle.std.proofs.Math.Path.{refl, sym, ap}
use Rattle.std.proofs.Common.{◌∙◌, subst, mul_assoc, mul-pos, mul-one, add-mul, one-mul, not-le_of_lt, lt_irrefl, zero-lt-suc, lt_of_lt_of_le, arith, true≢false, ltb→lt, pow_pos, pow-add, pow_mono, shl_lt}
use Prim.Native.Nat.{ℕ, zero, suc, ◌+◌, ◌-◌, ◌*◌, ◌^◌, ◌≤◌, ◌<◌, zero-le}
use Rattle.std.proofs.Math.Nat.{mul_comm, mul-mul-mul_comm, mul-sub, zero-mul}
use Rattle.std.proofs.Math.Bool.{true, false, cond}
use Rattle.std.proofs.Math.Dec.{eqb-suc-zero}
use Rattle.std.specs.Float.Ieee.{nan, up, down, round, sum, add, sub, div, of_int}
use Rattle.std.specs.Float.{inf, fin, Format, binary64}
use Rattle.std.specs.Float.Ieee.Fits.{up_pos, down_pos}
use Rattle.std.specs.Float.Ieee.Exact.{HasValue, round_exact}
use Rattle.std.specs.Float.Ieee.Scale.{round_same}
use Rattle.std.specs.Float.Ieee.Order.{transfer}
use Rattle.std.specs.Float.Ieee.Digits.{back}
use Rattle.plot.specs.Double.{nearest_to, Exactly}

-- X / p is a / c, and so with another denominator on both sides
cross : (X p c a q d : ℕ) → X * c ≡ a * p → X * q * (c * d) ≡ a * d * (p * q)
cross X p c a q d h =
    mul-mul-mul_comm X q c d
    ∙ ap (λ (z : ℕ). z * (q * d)) h
    ∙ ap (λ (z : ℕ). a * p * z) (mul_comm q d)
    ∙ mul-mul-mul_comm a p d q

sub_mul : (a b c : ℕ) → (a - b) * c ≡ a * c - b * c
sub_mul a b c = mul_comm (a - b) c ∙ mul-sub c a b ∙ ap (λ (z : ℕ). z - c * b) (mul_comm c a) ∙ ap (λ (z : ℕ). a * c - z) (mul_comm c b)

module _ (f : Format) where
  -- the sum of a / c and b / d
  pub add_at : (x y : Float) (a c b d : ℕ) → 0 < c → 0 < d → HasValue x false a c → HasValue y false b d → add f x y ≡ round f false (a * d + b * c) (c * d)
  unfolding add sum
  add_at nan y a c b d C D h k = absurd h
  add_at (inf s) y a c b d C D h k = absurd h
  add_at (fin true m e) y a c b d C D h k = absurd (true≢false h.0)
  add_at (fin false m e) nan a c b d C D h k = absurd k
  add_at (fin false m e) (inf t) a c b d C D h k = absurd k
  add_at (fin false m e) (fin true n g) a c b d C D h k = absurd (true≢false k.0)
  add_at (fin false m e) (fin false n g) a c b d C D h k =
      round_same f false (m * up e * down g + n * up g * down e) (down e * down g) (a * d + b * c) (c * d) (mul-pos (down_pos e) (down_pos g)) (mul-pos C D)
      (add-mul (m * up e * down g) (n * up g * down e) (c * d)
      ∙ ap (λ (z : ℕ). z + n * up g * down e * (c * d)) (cross (m * up e) (down e) c a (down g) d h.1)
      ∙ ap (λ (z : ℕ). a * d * (down e * down g) + n * up g * down e * z) (mul_comm c d)
      ∙ ap (λ (z : ℕ). a * d * (down e * down g) + z) (cross (n * up g) (down g) d b (down e) c k.1)
      ∙ ap (λ (z : ℕ). a * d * (down e * down g) + b * c * z) (mul_comm (down g) (down e))
      ∙ sym (add-mul (a * d) (b * c) (down e * down g)))

  -- their quotient
  pub div_at : (x y : Float) (a c b d : ℕ) → 0 < c → 0 < b → HasValue x false a c → HasValue y false b d → div f x y ≡ round f false (a * d) (c * b)
  unfolding div
  div_at nan y a c b d C B h k = absurd h
  div_at (inf s) y a c b d C B h k = absurd h
  div_at (fin true m e) y a c b d C B h k = absurd (true≢false h.0)
  div_at (fin false m e) nan a c b d C B h k = absurd k
  div_at (fin false m e) (inf t) a c b d C B h k = absurd k
  div_at (fin false m e) (fin true n g) a c b d C B h k = absurd (true≢false k.0)
  div_at (fin false m e) (fin false zero g) a c b d C B h k =
      absurd (lt_irrefl 0 (subst (λ (z : ℕ). 0 < z) (sym k.1 ∙ ap (λ (z : ℕ). z * d) (zero-mul (up g)) ∙ zero-mul d) (mul-pos B (down_pos g))))
  div_at (fin false m e) (fin false (suc n) g) a c b d C B h k =
      ap (λ (t : Bool). cond t (cond (eqb m 0) nan (inf false)) (round f false (m * up e * down g) (suc n * up g * down e))) (eqb-suc-zero n)
      ∙ round_same f false (m * up e * down g) (suc n * up g * down e) (a * d) (c * b) (mul-pos (mul-pos (zero-lt-suc n) (up_pos g)) (down_pos e)) (mul-pos C B)
      (mul-mul-mul_comm (m * up e) (down g) c b
      ∙ ap (λ (z : ℕ). z * (down g * b)) h.1
      ∙ ap (λ (z : ℕ). a * down e * z) (mul_comm (down g) b ∙ sym k.1 ∙ mul_comm (suc n * up g) d)
      ∙ mul-mul-mul_comm a (down e) d (suc n * up g)
      ∙ ap (λ (z : ℕ). a * d * z) (mul_comm (down e) (suc n * up g)))

  pick : (a b c : ℕ) → b ≤ a → sum f false a true b c ≡ round f false (a - b) c
  unfolding sum
  pick a b c h = go (ltb a b) (ltb→lt a b)
    where
      go : (t : Bool) → (T t → a < b) → cond t (round f true (b - a) c) (round f false (a - b) c) ≡ round f false (a - b) c
      go true k = absurd (not-le_of_lt (k tt) h)
      go false k = refl

  opened : (m : ℕ) (e : ℤ) (n : ℕ) (g : ℤ) → sub f (fin false m e) (fin false n g) ≡ sum f false (m * up e * down g) true (n * up g * down e) (down e * down g)
  unfolding sub
  opened m e n g = refl

  -- their difference, where it is not negative
  pub sub_at : (x y : Float) (a c b d : ℕ) → 0 < c → 0 < d → HasValue x false a c → HasValue y false b d → b * c ≤ a * d → sub f x y ≡ round f false (a * d - b * c) (c * d)
  sub_at nan y a c b d C D h k l = absurd h
  sub_at (inf s) y a c b d C D h k l = absurd h
  sub_at (fin true m e) y a c b d C D h k l = absurd (true≢false h.0)
  sub_at (fin false m e) nan a c b d C D h k l = absurd k
  sub_at (fin false m e) (inf t) a c b d C D h k l = absurd k
  sub_at (fin false m e) (fin true n g) a c b d C D h k l = absurd (true≢false k.0)
  sub_at (fin false m e) (fin false n g) a c b d C D h k l =
      opened m e n g
      ∙ pick (m * up e * down g) (n * up g * down e) (down e * down g) (transfer (n * up g) (m * up e) (down g) (down e) b a d c D C k.1 h.1 l)
      ∙ round_same f false (m * up e * down g - n * up g * down e) (down e * down g) (a * d - b * c) (c * d) (mul-pos (down_pos e) (down_pos g)) (mul-pos C D)
      (sub_mul (m * up e * down g) (n * up g * down e) (c * d)
      ∙ ap (λ (z : ℕ). z - n * up g * down e * (c * d)) (cross (m * up e) (down e) c a (down g) d h.1)
      ∙ ap (λ (z : ℕ). a * d * (down e * down g) - n * up g * down e * z) (mul_comm c d)
      ∙ ap (λ (z : ℕ). a * d * (down e * down g) - z) (cross (n * up g) (down g) d b (down e) c k.1)
      ∙ ap (λ (z : ℕ). a * d * (down e * down g) - b * c * z) (mul_comm (down g) (down e))
      ∙ sym (sub_mul (a * d) (b * c) (down e * down g)))

-- a number of at most 53 binary digits over a power of two is a double
pub exact : (n k : ℕ) → n < 2 ^ 53 → k ≤ 1074 → HasValue (nearest_to n (2 ^ k)) false n (2 ^ k)
unfolding nearest_to
exact n k h K =
    round_exact binary64 false n (2 ^ k) n (1074 - k) (pow_pos k) h
    (lt_of_lt_of_le (shl_lt 53 (1074 - k) h) (pow_mono (reach k K)))
    (ap (λ (z : ℕ). n * z) (ap (λ (z : ℕ). 2 ^ z) (sym (back 1074 k K)) ∙ pow-add 2 (1074 - k) k) ∙ sym (mul_assoc n (2 ^ (1074 - k)) (2 ^ k)))
  where
    reach : (k : ℕ) → k ≤ 1074 → 53 + (1074 - k) ≤ 2098
    reach k K = omega arith

-- so what is nearest to it is equal to it
pub exactly : (r : Float) (n k : ℕ) → n < 2 ^ 53 → k ≤ 1074 → r ≡ round binary64 false n (2 ^ k) → Exactly r n (2 ^ k)
unfolding nearest_to
exactly r n k h K e = record { nearest = e; exact = subst (λ (x : Float). HasValue x false n (2 ^ k)) (sym e) (exact n k h K) }

-- a whole number, cast, is the double nearest to it
pub cast_nearest : (n : ℕ) → of_int binary64 (pos n) ≡ nearest_to n 1
unfolding of_int nearest_to
cast_nearest n = refl

-- and of at most 53 binary digits it is exact
pub whole_at : (n : ℕ) → n < 2 ^ 53 → HasValue (of_int binary64 (pos n)) false n 1
unfolding of_int nearest_to
whole_at n h = exact n 0 h (zero-le)

has : {x y : Float} (a c : ℕ) → x ≡ y → HasValue y false a c → HasValue x false a c
has a c e h = subst (λ (z : Float). HasValue z false a c) (sym e) h

-- w + t / 2 ^ k, by a cast, a division and a sum, is one double, with nothing rounded off
pub joined : (w t k : ℕ) (z : Float) → HasValue z false (2 ^ k) 1 → w * 2 ^ k + t < 2 ^ 53 → w < 2 ^ 53 → k ≤ 1074
    → Exactly (add binary64 (of_int binary64 (pos w)) (div binary64 (of_int binary64 (pos t)) z)) (w * 2 ^ k + t) (2 ^ k)
unfolding nearest_to
joined w t k z hz h hw K =
    let ht : t < 2 ^ 53 = omega arith in
    let q : div binary64 (of_int binary64 (pos t)) z ≡ round binary64 false t (2 ^ k) =
    div_at binary64 (of_int binary64 (pos t)) z t 1 (2 ^ k) 1 (zero-lt-suc 0) (pow_pos k) (whole_at t ht) hz
    ∙ ap (λ (n : ℕ). round binary64 false n (1 * 2 ^ k)) (mul-one t) ∙ ap (λ (n : ℕ). round binary64 false t n) (one-mul (2 ^ k)) in
    exactly (add binary64 (of_int binary64 (pos w)) (div binary64 (of_int binary64 (pos t)) z)) (w * 2 ^ k + t) k h K
    (add_at binary64 (of_int binary64 (pos w)) (div binary64 (of_int binary64 (pos t)) z) w 1 t (2 ^ k) (zero-lt-suc 0) (pow_pos k) (whole_at w hw) (has t (2 ^ k) q (exact t k ht K))
    ∙ ap (λ (n : ℕ). round binary64 false (w * 2 ^ k + n) (1 * 2 ^ k)) (mul-one t) ∙ ap (λ (n : ℕ). round binary64 false (w * 2 ^ k + t) n) (one-mul (2 ^ k)))

-- the difference of two whole numbers, cast, is the difference's double
pub apart : (a b : ℕ) → b ≤ a → a < 2 ^ 53 → Exactly (sub binary64 (of_int binary64 (pos a)) (of_int binary64 (pos b))) (a - b) 1
apart a b l h =
    let hb : b < 2 ^ 53 = omega arith in
    let hd : a - b < 2 ^ 53 = omega arith in
    exactly (sub binary64 (of_int binary64 (pos a)) (of_int binary64 (pos b))) (a - b) 0 hd zero-le
    (sub_at binary64 (of_int binary64 (pos a)) (of_int binary64 (pos b)) a 1 b 1 (zero-lt-suc 0) (zero-lt-suc 0) (whole_at a h) (whole_at b hb) (omega arith)
    ∙ ap (λ (n : ℕ). round binary64 false n 1) (ap (λ (n : ℕ). n - b * 1) (mul-one a) ∙ ap (λ (n : ℕ). a - n) (mul-one b)))
