-- Laws of the zone of an offset, and of the zone of a reading by sigma. Two signed numbers, each 2^31 higher, have the same difference.
use Rattle.std.specs.Prelude.{◌≡◌, refl, Bool, true, false, cond, ℕ, zero, suc, ◌+◌, ◌-◌, ◌*◌, ◌<◌, ◌^◌, ℤ, pos, negsuc, ◌+ℤ◌, ◌-ℤ◌, neg_ℤ, ◌<ℤ◌, int_lt, unsigned_abs, leb, Err, Ok}
use Rattle.std.proofs.Common.{sym, ap, ◌∙◌, arith, ltb-true, ne_of_lt, lt-ltb, le-ltb}
use Rattle.std.proofs.Math.IntN.{neg_ℤ-+ℤ, +ℤ_assoc, +ℤ_comm, +ℤ_invr, +ℤ_idl}
use Rattle.std.specs.Int.Signed.{mag}
use Rattle.rules.specs.Bounds.{zone_count}
use Rattle.rules.specs.Check.{within}
use Rattle.rules.specs.Refusal.{bad_sigma}
use Rattle.monitor.specs.Zone.{min_sigma, max_sigma, zone_s, zone_a1, zone_b1, zone_c1, zone_c2, zone_b2, zone_a2, zone_c0, band, zone_at, zone_of}

-- a signed number of 32 bits, 2^31 higher, is no number below 0
pub raised : (z : ℤ) → mag z < 2 ^ 31 → (n : ℕ) × (z +ℤ pos 2147483648 ≡ pos n) × (n < 2 ^ 32)
raised (pos a) h = (a + 2147483648, refl, omega arith)
raised (negsuc a) h = (2147483648 - suc a, rw (le-ltb 2147483648 (suc a) (omega arith)), omega arith)

-- ---- the zone of two numbers, each 2^31 higher

-- the same number added to both leaves the difference
same_difference : (r c b : ℤ) → (r +ℤ b) -ℤ (c +ℤ b) ≡ r -ℤ c
same_difference r c b =
    ap (λ (t : ℤ). (r +ℤ b) +ℤ t) (neg_ℤ-+ℤ c b)
    ∙ +ℤ_assoc r b (neg_ℤ c +ℤ neg_ℤ b)
    ∙ ap (λ (t : ℤ). r +ℤ t) (
    ap (λ (t : ℤ). b +ℤ t) (+ℤ_comm (neg_ℤ c) (neg_ℤ b))
    ∙ sym (+ℤ_assoc b (neg_ℤ b) (neg_ℤ c))
    ∙ ap (λ (t : ℤ). t +ℤ neg_ℤ c) (+ℤ_invr b)
    ∙ +ℤ_idl (neg_ℤ c))

at_below : (a b sigma : ℕ) → a < b → zone_at (pos a -ℤ pos b) sigma ≡ band sigma (b - a) zone_c2 zone_b2 zone_a2
at_below a zero sigma h = absurd (omega arith)
at_below a (suc b) sigma h = let e : suc (suc b - suc a) ≡ suc b - a = omega arith in rw (lt-ltb a (suc b) h, ← e)

positive : (n sigma : ℕ) → 0 < n → zone_at (pos n) sigma ≡ band sigma n zone_c1 zone_b1 zone_a1
positive zero sigma h = absurd (omega arith)
positive (suc n) sigma h = refl

at_above : (a b sigma : ℕ) → b < a → zone_at (pos a -ℤ pos b) sigma ≡ band sigma (a - b) zone_c1 zone_b1 zone_a1
at_above a zero sigma h = let e : a + 0 ≡ a - 0 = omega arith in rw e (positive (a - 0) sigma (omega arith))
at_above a (suc b) sigma h = rw (le-ltb a (suc b) (omega arith)) (positive (a - suc b) sigma (omega arith))

at_centre : (a sigma : ℕ) → zone_at (pos a -ℤ pos a) sigma ≡ zone_c0
at_centre a sigma = ap (λ (t : ℤ). zone_at t sigma) (+ℤ_invr (pos a))

-- a and b are the reading and the centre, 2^31 higher
module _ (reading centre : ℤ) (a b sigma : ℕ) (ea : pos a ≡ reading +ℤ pos 2147483648) (eb : pos b ≡ centre +ℤ pos 2147483648) where
  offset : reading -ℤ centre ≡ pos a -ℤ pos b
  offset =
      sym (same_difference reading centre (pos 2147483648))
      ∙ sym (ap (λ (t : ℤ). t -ℤ (centre +ℤ pos 2147483648)) ea)
      ∙ sym (ap (λ (t : ℤ). pos a -ℤ t) eb)

  pub zone_below : a < b → zone_at (reading -ℤ centre) sigma ≡ band sigma (b - a) zone_c2 zone_b2 zone_a2
  zone_below h = ap (λ (t : ℤ). zone_at t sigma) offset ∙ at_below a b sigma h

  pub zone_above : b < a → zone_at (reading -ℤ centre) sigma ≡ band sigma (a - b) zone_c1 zone_b1 zone_a1
  zone_above h = ap (λ (t : ℤ). zone_at t sigma) offset ∙ at_above a b sigma h

  pub zone_on : a ≡ b → zone_at (reading -ℤ centre) sigma ≡ zone_c0
  zone_on h = ap (λ (t : ℤ). zone_at t sigma) offset ∙ ap (λ (n : ℕ). zone_at (pos a -ℤ pos n) sigma) (sym h) ∙ at_centre a sigma

-- ---- the zone by the offset from the centre: below it, above it, and on it

pub offset_below : (t : ℤ) (sigma : ℕ) → int_lt t (pos 0) ≡ true → zone_at t sigma ≡ band sigma (unsigned_abs t) zone_c2 zone_b2 zone_a2
offset_below (pos n) sigma h = absurd (omega (arith, ltb-true n 0 h))
offset_below (negsuc n) sigma h = refl

pub offset_above : (t : ℤ) (sigma : ℕ) → pos 0 <ℤ t → zone_at t sigma ≡ band sigma (unsigned_abs t) zone_c1 zone_b1 zone_a1
offset_above (pos zero) sigma h = absurd (omega (arith, h))
offset_above (pos (suc n)) sigma h = refl
offset_above (negsuc n) sigma h = absurd (omega (arith, h))

pub offset_on : (t : ℤ) (sigma : ℕ) → t ≡ pos 0 → zone_at t sigma ≡ zone_c0
offset_on t sigma e = rw e

-- ---- the zone by sigma

module _ (reading centre : ℤ) (sigma : ℕ) where
  pub zone_fits : within min_sigma max_sigma sigma ≡ true
      → zone_of reading centre sigma ≡ Ok (zone_at (reading -ℤ centre) sigma)
  unfolding zone_of
  zone_fits e = rw e

  pub zone_refused : within min_sigma max_sigma sigma ≡ false → zone_of reading centre sigma ≡ Err bad_sigma
  unfolding zone_of
  zone_refused e = rw e

-- ---- every offset has a zone that exists

band_below : (bound sigma distance one two three : ℕ) → zone_s < bound → one < bound → two < bound → three < bound
    → band sigma distance one two three < bound
band_below bound sigma distance one two three o p q r =
    go (leb distance sigma) (leb distance (2 * sigma)) (leb distance (3 * sigma))
  where
    go : (x y z : Bool) → cond x one (cond y two (cond z three zone_s)) < bound
    go true y z = p
    go false true z = q
    go false false true = r
    go false false false = o

above_below : (bound sigma n : ℕ) → zone_c1 < bound → band sigma (suc n) zone_c1 zone_b1 zone_a1 < bound
above_below bound sigma n h =
    band_below bound sigma (suc n) zone_c1 zone_b1 zone_a1 (omega arith) (omega arith) (omega arith) (omega arith)

below_below : (bound sigma n : ℕ) → zone_a2 < bound → band sigma (suc n) zone_c2 zone_b2 zone_a2 < bound
below_below bound sigma n h =
    band_below bound sigma (suc n) zone_c2 zone_b2 zone_a2 (omega arith) (omega arith) (omega arith) (omega arith)

pub zone_exists : (t : ℤ) (sigma : ℕ) → zone_at t sigma < zone_count
zone_exists (pos zero) sigma = omega arith
zone_exists (pos (suc n)) sigma = above_below zone_count sigma n (omega arith)
zone_exists (negsuc n) sigma = below_below zone_count sigma n (omega arith)

-- ---- C0 is the offset 0 alone

pub centre_alone : (t : ℤ) (sigma : ℕ) → zone_at t sigma ≡ zone_c0 → t ≡ pos 0
centre_alone (pos zero) sigma e = refl
centre_alone (pos (suc n)) sigma e = absurd (ne_of_lt (above_below zone_c0 sigma n (omega arith)) e)
centre_alone (negsuc n) sigma e = absurd (ne_of_lt (below_below zone_c0 sigma n (omega arith)) e)
