-- Merging goes by the moves of the n states alone: what stands behind them in the list changes nothing. Laws.
use Rattle.std.specs.Prelude.{ℕ, ◌+◌, ◌*◌, ◌/◌, ◌%◌, ◌≤◌, ◌<◌, ◌≡◌, List}
use Rattle.std.proofs.Math.Path.{refl, ap}
use Rattle.std.proofs.Common.{◌∙◌, arith, le_refl}
use Rattle.std.proofs.Math.Dec.{eqb}
use Rattle.rules.specs.Bounds.{zone_count}
use Rattle.runlength.specs.Sum.{at, tab}
use Rattle.runlength.specs.TabLaws.{tab_cong}
use Rattle.runlength.specs.Automaton.{Move, quiet, signal, after}
use Rattle.runlength.specs.Listed.{entry_move}
use Rattle.runlength.proofs.ListedLaws.{entry_in}
use Rattle.runlength.specs.Future.{Simulation}
use Rattle.runlength.proofs.FutureLaws.{SameBelow, same_simulation}
use Rattle.runlength.proofs.LowestLaws.{lowest_cong}
use Rattle.runlength.proofs.ApartLaws.{simulation_alike}
use Rattle.runlength.specs.Merged.{leader_for, leaders_for, class_count, class_of, first_of, merged_move}
use Rattle.runlength.proofs.LeadLaws.{lead_cong}
use Rattle.runlength.proofs.ClassLaws.{leader_most}
use Rattle.runlength.proofs.MergedLaws.{first_of_lem}
use Rattle.merge.specs.Merge.{entry_of, given_automaton, merged_count, merged_moves}
use Rattle.merge.specs.MergeLaws.{given_closed}

module _ (n : ℕ) (m m' : List ℕ) (same : (k : ℕ) → k < zone_count * n → at m k ≡ at m' k) where
  same_chain : Simulation (given_automaton n m) (given_automaton n m') (SameBelow n)
  same_chain =
      same_simulation (given_automaton n m) (given_automaton n m') n refl (given_closed n m)
      (λ i z h l. ap (entry_move n) (same (zone_count * i + z) (omega arith)))

  same_leader : (i : ℕ) → i < n → leader_for (given_automaton n m) n i ≡ leader_for (given_automaton n m') n i
  unfolding leader_for
  same_leader i h =
      lowest_cong _ _ i (λ j l.
      simulation_alike (given_automaton n m) (given_automaton n m') (SameBelow n) same_chain n j i j i
      (record { below = omega arith; is = refl }) (record { below = h; is = refl }))

  same_leaders : (i : ℕ) → i ≤ n → leaders_for (given_automaton n m) n i ≡ leaders_for (given_automaton n m') n i
  same_leaders i h = lead_cong (leader_for (given_automaton n m) n) (leader_for (given_automaton n m') n) i (λ j l. same_leader j (omega arith))

  pub same_count : merged_count n m ≡ merged_count n m'
  unfolding merged_count class_count
  same_count = same_leaders n (le_refl n)

  same_class : (i : ℕ) → i < n → class_of (given_automaton n m) n i ≡ class_of (given_automaton n m') n i
  unfolding class_of
  same_class i h =
      let most = leader_most (given_automaton n m) n i in
      same_leaders (leader_for (given_automaton n m) n i) (omega arith) ∙ ap (leaders_for (given_automaton n m') n) (same_leader i h)

  same_first : (c : ℕ) → first_of (given_automaton n m) n c ≡ first_of (given_automaton n m') n c
  unfolding first_of
  same_first c = lowest_cong _ _ n (λ i h. ap (λ x. eqb x c) (same_class i h))

  class_move : (o : Move ℕ) → ((t : ℕ) → o ≡ quiet t → t < n)
      → after o signal (λ t. quiet (class_of (given_automaton n m) n t)) ≡ after o signal (λ t. quiet (class_of (given_automaton n m') n t))
  class_move (quiet t) f = ap quiet (same_class t (f t refl))
  class_move signal f = refl

  same_move : (c z : ℕ) → c < merged_count n m → z < zone_count → merged_move (given_automaton n m) n c z ≡ merged_move (given_automaton n m') n c z
  unfolding merged_move merged_count
  same_move c z h l =
      let s = first_of (given_automaton n m) n c in
      let entry = same (zone_count * s + z) (omega (arith, (first_of_lem (given_automaton n m) n c h).below)) in
      class_move ((given_automaton n m).move s z) (entry_in n (at m (zone_count * s + z)))
      ∙ ap (λ x. after (entry_move n x) signal (λ t. quiet (class_of (given_automaton n m') n t))) entry
      ∙ ap (λ s. after ((given_automaton n m').move s z) signal (λ t. quiet (class_of (given_automaton n m') n t))) (same_first c)

  pub same_moves : merged_moves n m ≡ merged_moves n m'
  unfolding merged_moves
  same_moves =
      tab_cong (zone_count * merged_count n m) _ _ (λ k h. ap entry_of (same_move (k / zone_count) (k % zone_count) (omega arith) (omega arith)))
      ∙ ap (λ c. tab (zone_count * c) (λ k. entry_of (merged_move (given_automaton n m') n (k / zone_count) (k % zone_count)))) same_count
