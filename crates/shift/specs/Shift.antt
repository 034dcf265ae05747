-- TO BELIEVE: the weights of a shifted core. Definitions.
use Rattle.std.specs.Prelude.{ℕ, suc, ◌+◌, ◌-◌, cond, leb, ℤ, pos, negsuc, neg_ℤ, nat_abs, ◌-ℤ◌, Err, Ok, Result}
use Rattle.rules.specs.declared.refusal.Refusal.{Refusal}
use Rattle.rules.specs.declared.weights.ZoneWeights.{ZoneWeights}
use Rattle.rules.specs.Refusal.{bad_shift}
use Rattle.runlength.specs.Scale.{weight_total}
use Rattle.shift.specs.Area.{area_at}

-- a shift is from -150 to 150 hundredths of sigma
abbrev pub max_shift : ℕ
max_shift = 150

-- G: the normal area from 0 to z hundredths, odd in z (`negsuc n` is -(n + 1)); a shift in bounds asks for no z beyond the table
unfoldable pub normal_area : ℤ → ℤ
normal_area (pos n) = pos (area_at n)
normal_area (negsuc n) = neg_ℤ (pos (area_at (suc n)))

-- between two limits, both in hundredths of sigma from the centre, on a core whose mean is shifted by s
unfoldable pub area_between : ℤ → ℤ → ℤ → ℤ
area_between s low high = normal_area (high -ℤ s) -ℤ normal_area (low -ℤ s)

-- as a weight, which is no number below 0; nor is the area (`weights_shifted`)
abbrev pub band_weight : ℤ → ℤ → ℤ → ℕ
band_weight s low high = nat_abs (area_between s low high)

-- the six zones within three sigma, C0 of no width, and S, which is what is missing from probability one
unfoldable pub weights_of : ℤ → ZoneWeights
weights_of s =
    let a1 = band_weight s (pos 200) (pos 300) in
    let b1 = band_weight s (pos 100) (pos 200) in
    let c1 = band_weight s (pos 0) (pos 100) in
    let c2 = band_weight s (neg_ℤ (pos 100)) (pos 0) in
    let b2 = band_weight s (neg_ℤ (pos 200)) (neg_ℤ (pos 100)) in
    let a2 = band_weight s (neg_ℤ (pos 300)) (neg_ℤ (pos 200)) in
    record { s = weight_total - (a1 + b1 + c1 + c2 + b2 + a2); a1 = a1; b1 = b1; c1 = c1; c2 = c2; b2 = b2; a2 = a2; c0 = 0 }

-- 18 where the shift is out of bounds, and on no other condition
unfoldable pub shift_of : ℤ → Result ZoneWeights Refusal
shift_of s = cond (leb (nat_abs s) max_shift) (Ok (weights_of s)) (Err bad_shift)
