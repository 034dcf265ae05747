-- CLAIMS: the exact sum draws on all eight zones; and where C0 has weight 0, the exact figures are those of the seven others, and the table's, to the
-- last unit, those of the states, among those that differ, that the seven others meet.
use Rattle.std.specs.Prelude.{ℕ, suc, ◌*◌, ◌≤◌, ◌<◌, ◌≡◌, Ok}
use Rattle.std.proofs.Math.Path.{refl, ap}
use Rattle.std.proofs.Common.{sym, ◌∙◌}
use mathlib.Core.List.{List, [], ◌∷◌, ◌++◌, append_assoc, append-nil}
use Rattle.std.proofs.Math.Nat.{zero-mul}
use Rattle.rules.specs.declared.Rule.{Rule}
use Rattle.rules.specs.Bounds.{zone_count}
use Rattle.runlength.specs.Sum.{only, sum_sequences, at}
use Rattle.runlength.specs.SumLaws.{sum_cong}
use Rattle.runlength.specs.SequenceLaws.{sequences_cong_all}
use Rattle.runlength.specs.Chain.{pmf, survival, restricted_mean}
use Rattle.monitor.specs.Zone.{zone_c0}
use Rattle.table.specs.declared.TableFigures.{TableFigures}
use Rattle.table.specs.Table.{TableCall, table_of, mean_of}
use Rattle.claims.specs.Exact.{says_signal, first_signal, free_answers, exact_sum, exact_mean}
use Rattle.claims.specs.Centre.{each_zone, adds_to_sum, adds_to_mean, drawn}
use Rattle.claims.specs.InsideLaws.{only_none}
use Rattle.claims.specs.Centre.{seven_zones}
use Rattle.claims.proofs.EightZonesLaws.{zone_by_zone, left_out, no_product}
use Rattle.claims.proofs.EightZonesLaws.{weightless_chance as weightless_chance_proved, weightless_left as weightless_left_proved, weightless_survival as weightless_survival_proved}
use Rattle.claims.proofs.EightZonesLaws.{weightless_cut_mean as weightless_cut_mean_proved, weightless_count as weightless_count_proved}

module _ (rs : List Rule) (w : List ℕ) where
  -- The exact sum at n draws on all eight zones at each of its n points: it is what all sequences of n zones add; what
  -- those add that begin with p is what those add that go on by each of the eight zones; and a whole sequence adds its
  -- product where the chart says signal on it.
  pub sum_drawn : (n : ℕ) → exact_sum rs w n ≡ drawn rs w [] n
  unfolding exact_sum drawn
  sum_drawn n = refl

  pub drawn_on : (p : List ℕ) (n : ℕ) → drawn rs w p (suc n) ≡ each_zone (λ z. drawn rs w (p ++ (z ∷ [])) n)
  unfolding drawn sum_sequences
  drawn_on p n =
      sum_cong zone_count _ _
      (λ z i. sequences_cong_all zone_count n (λ q. ap (adds_to_sum rs w) (sym (append_assoc p (z ∷ []) q))))
      ∙ zone_by_zone (λ z. drawn rs w (p ++ (z ∷ [])) n)

  pub drawn_whole : (p : List ℕ) → drawn rs w p 0 ≡ adds_to_sum rs w p
  unfolding drawn sum_sequences
  drawn_whole p = ap (adds_to_sum rs w) (append-nil p)

-- Where C0 has weight 0, the exact sum and the exact mean are those over the sequences of the seven zones below it.
module _ (rs : List Rule) (w : List ℕ) (weightless : at w zone_c0 ≡ 0) where
  pub weightless_sum : (n : ℕ) → exact_sum rs w n ≡ sum_sequences zone_c0 n (adds_to_sum rs w)
  unfolding exact_sum
  weightless_sum n =
      left_out zone_c0 n (adds_to_sum rs w)
      (λ p q. ap (only (says_signal (free_answers rs [] (p ++ (zone_c0 ∷ q))))) (no_product (at w) zone_c0 weightless p q)
      ∙ only_none (says_signal (free_answers rs [] (p ++ (zone_c0 ∷ q)))))

  pub weightless_mean : (h : ℕ) → exact_mean rs w h ≡ sum_sequences zone_c0 h (adds_to_mean rs w)
  unfolding exact_mean
  weightless_mean h =
      left_out zone_c0 h (adds_to_mean rs w)
      (λ p q. let k = first_signal (free_answers rs [] (p ++ (zone_c0 ∷ q))) in
      ap (λ x. x * k) (no_product (at w) zone_c0 weightless p q) ∙ zero-mul k)

module _ (t : TableCall) (f : TableFigures) (accepted : (table_of t).answer ≡ Ok f)
    (weightless : at t.weights zone_c0 ≡ 0) where
  -- Every chance of an accepted table, all that is left and the cut mean are, to the last unit, those of the round-down
  -- steps over the states that the seven other zones meet, among those that differ by all eight. N alone, and what goes by
  -- it, may be larger.
  pub weightless_chance : (n : ℕ) → n < t.horizon → at (table_of t).pmf_list n ≡ pmf (seven_zones t) (suc n)
  weightless_chance = weightless_chance_proved t f accepted weightless

  pub weightless_left : (n : ℕ) → n < t.horizon → at (table_of t).survival_list n ≡ survival (seven_zones t) (suc n)
  weightless_left = weightless_left_proved t f accepted weightless

  pub weightless_survival : f.survival ≡ survival (seven_zones t) t.horizon
  weightless_survival = weightless_survival_proved t f accepted weightless

  pub weightless_cut_mean : mean_of f ≡ restricted_mean (seven_zones t) t.horizon
  weightless_cut_mean = weightless_cut_mean_proved t f accepted weightless

  pub weightless_count : (seven_zones t).size ≤ f.state_count
  weightless_count = weightless_count_proved t f accepted weightless
