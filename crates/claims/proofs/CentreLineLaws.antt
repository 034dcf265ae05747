-- Rules that leave out C0, over rows with points on the centre line. Laws.
use Prim.Native.Nat.{ℕ, zero, suc, ◌+◌, ◌≤◌}
use Rattle.std.specs.Prelude.{◌≡◌, Bool, cond, ltb, ℤ, ◌+ℤ◌, ◌-ℤ◌, take, Ok}
use Rattle.std.proofs.Math.Path.{refl, ap}
use Rattle.std.proofs.Common.{sym, ◌∙◌, length-take, leb-true, leb-false, eqb-true}
use Rattle.std.proofs.Math.Bool.{true, false}
use mathlib.Core.List.{List, [], ◌∷◌, map}
use native.Mathlib.Omega.{arith}
use Rattle.std.proofs.Math.Dec.{eqb}
use Rattle.std.proofs.Math.IntN.{+ℤ_idl, -ℤ-+ℤ_cancel}
use Rattle.std.proofs.Math.ListN.{length}
use Rattle.std.proofs.lemmas.Bool.{lt-leb}
use Rattle.rules.specs.declared.Rule.{Rule}
use Rattle.rules.specs.declared.RuleList.{RuleList}
use Rattle.rules.specs.Bounds.{max_number}
use Rattle.rules.specs.Check.{within, active_rules, check_of}
use Rattle.rules.proofs.CheckLaws.{accepted}
use Rattle.rules.specs.Mask.{mask_of}
use Rattle.rules.specs.Refusal.{number_of, bad_count}
use Rattle.rules.specs.ZoneSet.{in_zone_set}
use Rattle.monitor.specs.Zone.{min_sigma, max_sigma, zone_c0, zone_at, zone_of}
use Rattle.monitor.specs.ZoneLaws.{zone_fits, centre_alone}
use Rattle.monitor.specs.Step.{fresh_monitor}
use Rattle.window.specs.ReferenceChart.{refused, hits_among, rule_holds, row_mask}
use Rattle.window.specs.ReferenceChart.{charted, chart_by, chart_step, chart_answers}
use Rattle.monitor.specs.Calls.{monitor_answers}
use Rattle.monitor.proofs.CallLaws.{one_call}
use Rattle.rules.specs.MaskLaws.{bit_zero}
use Rattle.window.proofs.RowLaws.{empty_row_mask}
use Rattle.monitor.proofs.AgreementLaws.{monitor_agrees}
use Rattle.window.specs.ReferenceChart.{is_signal}
use Rattle.claims.specs.Centre.{OffCentre, on_centre, QuietOnCentre}

-- ---- the zone of a reading: C0 exactly where t = 0

module _ (sigma : ℕ) (fits : within min_sigma max_sigma sigma ≡ true) where
  zone_number : (r c : ℤ) {z : ℕ} → zone_of r c sigma ≡ Ok z → zone_at (r -ℤ c) sigma ≡ z
  zone_number r c e = let q = sym (zone_fits r c sigma fits) ∙ e in cc

  pub only_on_centre : (r c : ℤ) → zone_of r c sigma ≡ Ok zone_c0 → r ≡ c
  only_on_centre r c e =
      sym (-ℤ-+ℤ_cancel r c) ∙ ap (λ (t : ℤ). t +ℤ c) (centre_alone (r -ℤ c) sigma (zone_number r c e)) ∙ +ℤ_idl c

-- ---- a rule whose set leaves out C0, over a row of the plain chart

module _ (r : Rule) (off : in_zone_set r.zones zone_c0 ≡ 0) where
  -- a point on the centre line is no hit, so that it takes a turn among the last m which no hit has
  counted : (row : List ℕ) → hits_among r.zones row + on_centre row ≤ length row
  unfolding hits_among on_centre
  counted [] = omega arith
  counted (z ∷ row) = go (eqb z zone_c0) refl (counted row)
    where
      go : (b : Bool) → eqb z zone_c0 ≡ b → hits_among r.zones row + on_centre row ≤ length row
          → in_zone_set r.zones z + hits_among r.zones row + (cond b 1 0 + on_centre row) ≤ suc (length row)
      go true e h =
          let none : in_zone_set r.zones z ≡ 0 = ap (in_zone_set r.zones) (eqb-true z zone_c0 e) ∙ off in
          omega arith
      go false e h = omega arith

  -- Where the rule holds, at most m - k of the last m points are on the centre line.
  pub centre_no_hit : (row : List ℕ) → rule_holds row r ≡ true → r.k + on_centre (take r.m row) ≤ r.m
  centre_no_hit row h =
      let last = take r.m row in
      omega (arith, leb-true r.k (hits_among r.zones last) h, counted last, length-take r.m row)

  -- a point on the centre line makes the rule hold nowhere
  fewer : (n : ℕ) (row : List ℕ) → hits_among r.zones (take n row) ≤ hits_among r.zones (take (suc n) row)
  unfolding hits_among
  fewer zero row = omega arith
  fewer (suc n) [] = omega arith
  fewer (suc n) (z ∷ row) = omega (arith, fewer n row)

  no_more : (m : ℕ) (row : List ℕ) → hits_among r.zones (take m (zone_c0 ∷ row)) ≤ hits_among r.zones (take m row)
  unfolding hits_among
  no_more zero row = omega arith
  no_more (suc n) row = omega (arith, off, fewer n row)

  still_quiet : (row : List ℕ) → rule_holds row r ≡ false → rule_holds (zone_c0 ∷ row) r ≡ false
  still_quiet row h =
      lt-leb r.k (hits_among r.zones (take r.m (zone_c0 ∷ row)))
      (omega (arith, no_more r.m row, leb-false r.k (hits_among r.zones (take r.m row)) h))

-- ---- a list of such rules: no call in C0 is answered by a signal

centre_mask : (rs : List Rule) → OffCentre rs → (row : List ℕ) → row_mask rs row ≡ 0 → row_mask rs (zone_c0 ∷ row) ≡ 0
unfolding OffCentre row_mask mask_of
centre_mask [] off row e = refl
centre_mask (r ∷ rs) off row e =
    let q = bit_zero (rule_holds row r) (mask_of (map (rule_holds row) rs)) e in
    rw (still_quiet r off.0 row q.0, centre_mask rs off.1 row q.1)

centre_step : (rs : List Rule) → OffCentre rs → (row : List ℕ) → row_mask rs row ≡ 0
    → is_signal (chart_step rs row zone_c0).answer ≡ false
unfolding chart_step
centre_step rs off row e = rw (centre_mask rs off row e) (go (ltb (length row) max_number))
  where
    go : (b : Bool)
        → is_signal (cond b (chart_by 0 (zone_c0 ∷ row)) (charted (refused (number_of bad_count)) row)).answer ≡ false
    go true = refl
    go false = refl

module _ (l : RuleList) (a : check_of l ≡ Ok tt) (off : OffCentre (active_rules l)) where
  quiet_from : (zs row : List ℕ) → row_mask (active_rules l) row ≡ 0
      → QuietOnCentre zs (chart_answers (active_rules l) row zs)
  unfolding chart_answers QuietOnCentre
  quiet_from [] row e = tt
  quiet_from (z ∷ zs) row e =
      let rs = active_rules l in (
        λ i. ap (λ z. is_signal (chart_step rs row z).answer) i ∙ centre_step rs off row e,
        quiet_from zs (chart_step rs row z).row (one_call rs (accepted l a).2 row e z).quiet_row,
      )

  -- In every list of calls with such a rule list, from a fresh monitor, no point on the centre line signals.
  pub quiet_on_centre : (zs : List ℕ) → QuietOnCentre zs (monitor_answers l fresh_monitor zs)
  quiet_on_centre zs = rw (monitor_agrees l a zs) (quiet_from zs [] (empty_row_mask (active_rules l) (accepted l a).2))
