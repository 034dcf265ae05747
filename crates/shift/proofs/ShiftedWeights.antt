-- CLAIMS: the weights of a shifted core: areas of the table over the integers, none empty, together probability one, falling outwards, mirrored.
use Rattle.std.specs.Prelude.{◌≤◌, ◌<◌, ◌≡◌, ℤ, neg_ℤ, nat_abs, Err, Ok}
use Rattle.std.proofs.Common.{arith, le-leb}
use Rattle.std.proofs.lemmas.Bool.{lt-leb}
use Rattle.rules.specs.declared.weights.ZoneWeights.{ZoneWeights}
use Rattle.rules.specs.Bounds.{zone_count}
use Rattle.rules.specs.Refusal.{bad_shift}
use Rattle.rules.specs.Weights.{weight_list}
use Rattle.runlength.specs.Scale.{weight_total}
use Rattle.runlength.specs.Sum.{at, sum}
use Rattle.shift.specs.Shift.{max_shift, normal_area, weights_of, shift_of}
use Rattle.shift.specs.Shifted.{Shifted, mirrored, mirrored_answer}
use Rattle.shift.proofs.ShiftLaws.{area_odd as area_odd_proved, weights_shifted as weights_shifted_proved, weights_mirrored as weights_mirrored_proved}
use Rattle.shift.proofs.ShiftLaws.{shift_mirrored as shift_mirrored_proved}

-- ---- G is odd

-- The area from 0 to -z is that from 0 to z with the other sign.
pub area_odd : (z : ℤ) → normal_area (neg_ℤ z) ≡ neg_ℤ (normal_area z)
area_odd = area_odd_proved

-- A shift is accepted exactly within its bounds, with the weights of that shift, and else refused by 18.
pub shift_accepted : (s : ℤ) → nat_abs s ≤ max_shift → shift_of s ≡ Ok (weights_of s)
unfolding shift_of
shift_accepted s h = rw (le-leb (nat_abs s) max_shift h)

pub shift_refused : (s : ℤ) → max_shift < nat_abs s → shift_of s ≡ Err bad_shift
unfolding shift_of
shift_refused s h = rw (lt-leb (nat_abs s) max_shift h)

-- Whatever the operation accepts has the weights of a shifted core.
pub weights_shifted : (s : ℤ) (w : ZoneWeights) → shift_of s ≡ Ok w → Shifted s w
weights_shifted = weights_shifted_proved

-- The weights of -s are those of s mirrored, and -s is refused exactly where s is.
pub weights_mirrored : (s : ℤ) → weights_of (neg_ℤ s) ≡ mirrored (weights_of s)
weights_mirrored = weights_mirrored_proved

pub shift_mirrored : (s : ℤ) → shift_of (neg_ℤ s) ≡ mirrored_answer (shift_of s)
shift_mirrored = shift_mirrored_proved

-- As a list from zone 0 on they sum to what the table's check asks for.
pub weights_sum : (s : ℤ) (w : ZoneWeights) → shift_of s ≡ Ok w → sum zone_count (at (weight_list w)) ≡ weight_total
unfolding sum
weights_sum s w e = let x = (weights_shifted s w e).whole in omega (arith, x.c0_none, x.s_missing)
