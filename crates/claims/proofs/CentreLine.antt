-- CLAIMS: readings on the centre line. C0 is exactly t = 0, and under the ready lists such a point counts for neither
-- side.
use Rattle.std.specs.Prelude.{ℕ, ◌+◌, ◌≤◌, ◌≡◌, refl, true, List, ℤ, take, Ok}
use Rattle.std.proofs.Common.{ap, ◌∙◌, arith}
use Rattle.std.proofs.Math.IntN.{+ℤ_invr}
use Rattle.rules.specs.declared.Rule.{Rule}
use Rattle.rules.specs.declared.RuleList.{RuleList}
use Rattle.rules.specs.Check.{within, rules_from, active_rules, check_rules, check_of}
use Rattle.rules.specs.Ready.{rule_of, western_electric, duncan_list}
use Rattle.rules.specs.ZoneSet.{in_zone_set}
use Rattle.monitor.specs.Zone.{min_sigma, max_sigma, zone_c0, zone_at, zone_of}
use Rattle.monitor.specs.ZoneLaws.{zone_fits}
use Rattle.monitor.specs.Step.{fresh_monitor}
use Rattle.window.specs.ReferenceChart.{rule_holds}
use Rattle.monitor.specs.Calls.{monitor_answers}
use Rattle.claims.specs.Centre.{OffCentre, on_centre, QuietOnCentre}
use Rattle.claims.proofs.CentreLineLaws.{only_on_centre as only_on_centre_proved, centre_no_hit as centre_no_hit_proved, quiet_on_centre as quiet_on_centre_proved}

-- ---- the zone of a reading: C0 exactly where t = 0

module _ (sigma : ℕ) (fits : within min_sigma max_sigma sigma ≡ true) where
  -- A reading that equals the centre is in C0, and no other reading is.
  pub on_centre_lem : (c : ℤ) → zone_of c c sigma ≡ Ok zone_c0
  on_centre_lem c = zone_fits c c sigma fits ∙ ap (λ (t : ℤ). Ok (zone_at t sigma)) (+ℤ_invr c)

  pub only_on_centre : (r c : ℤ) → zone_of r c sigma ≡ Ok zone_c0 → r ≡ c
  only_on_centre = only_on_centre_proved sigma fits

-- ---- the ready lists: C0 is in no set of theirs

pub western_electric_off_centre : OffCentre (active_rules western_electric)
unfolding OffCentre rules_from
western_electric_off_centre = (refl, (refl, (refl, (refl, (refl, (refl, (refl, tt)))))))

pub duncan_off_centre : OffCentre (active_rules duncan_list)
unfolding OffCentre rules_from
duncan_off_centre = (refl, (refl, (refl, (refl, (refl, tt)))))

-- ---- a rule whose set leaves out C0, over a row of the plain chart

module _ (r : Rule) (off : in_zone_set r.zones zone_c0 ≡ 0) where
  -- Where the rule holds, at most m - k of the last m points are on the centre line.
  pub centre_no_hit : (row : List ℕ) → rule_holds row r ≡ true → r.k + on_centre (take r.m row) ≤ r.m
  centre_no_hit = centre_no_hit_proved r off

  -- So with k = m, as in eight points in a row above the line, none of them is.
  pub in_a_row_off_centre : r.k ≡ r.m → (row : List ℕ) → rule_holds row r ≡ true → on_centre (take r.m row) ≡ 0
  in_a_row_off_centre e row h = omega (arith, centre_no_hit row h)

-- Eight points in a row above the centre line, or below it, have none on it.
pub eight_above : (row : List ℕ) → rule_holds row (rule_of 8 8 14) ≡ true → on_centre (take 8 row) ≡ 0
eight_above = in_a_row_off_centre (rule_of 8 8 14) refl refl

pub eight_below : (row : List ℕ) → rule_holds row (rule_of 8 8 112) ≡ true → on_centre (take 8 row) ≡ 0
eight_below = in_a_row_off_centre (rule_of 8 8 112) refl refl

module _ (l : RuleList) (a : check_of l ≡ Ok tt) (off : OffCentre (active_rules l)) where
  -- In every list of calls with such a rule list, from a fresh monitor, no point on the centre line signals.
  pub quiet_on_centre : (zs : List ℕ) → QuietOnCentre zs (monitor_answers l fresh_monitor zs)
  quiet_on_centre = quiet_on_centre_proved l a off

-- So it is with the ready lists.
pub western_electric_quiet : (zs : List ℕ) → QuietOnCentre zs (monitor_answers western_electric fresh_monitor zs)
unfolding check_of check_rules rules_from
western_electric_quiet = quiet_on_centre western_electric refl western_electric_off_centre

pub duncan_quiet : (zs : List ℕ) → QuietOnCentre zs (monitor_answers duncan_list fresh_monitor zs)
unfolding check_of check_rules rules_from
duncan_quiet = quiet_on_centre duncan_list refl duncan_off_centre
