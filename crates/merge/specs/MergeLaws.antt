-- The list of the merged moves is the merged chart, state by state and zone by zone. Laws.
use Rattle.std.specs.Prelude.{ℕ, ◌+◌, ◌*◌, ◌/◌, ◌%◌, ◌≤◌, ◌<◌, List, length}
use Rattle.std.proofs.Math.Path.{◌≡◌, refl, ap₂}
use Rattle.std.proofs.Common.{◌∙◌, lt-ltb, le-ltb}
use native.Mathlib.Omega.{arith}
use Rattle.rules.specs.Bounds.{zone_count, max_states}
use Rattle.runlength.specs.Sum.{at}
use Rattle.runlength.specs.TabLaws.{length_tab, get_d_tab}
use Rattle.runlength.specs.Automaton.{Move, quiet, signal, after}
use Rattle.runlength.specs.Listed.{entry_move, listed_automaton}
use Rattle.runlength.proofs.ListedLaws.{entry_in}
use Rattle.runlength.specs.Future.{EqualFuture}
use Rattle.runlength.proofs.FutureLaws.{simulation_future, future_sym, future_trans, SameBelow, same_simulation}
use Rattle.runlength.specs.Merged.{class_of, first_of, merged_move, merged_automaton}
use Rattle.runlength.proofs.MergedLaws.{class_below, count_most, first_of_lem, merged_future}
use Rattle.merge.specs.Merge.{entry_of, given_automaton, merged_count, merged_moves}

module _ (n : ℕ) (m : List ℕ) where
  -- no quiet move leaves the n states
  pub given_closed : (s z t : ℕ) → s < n → z < zone_count → (given_automaton n m).move s z ≡ quiet t → t < n
  given_closed s z t h l = entry_in n (at m (zone_count * s + z)) t

  pub merged_most : merged_count n m ≤ n
  unfolding merged_count
  merged_most = count_most (given_automaton n m) n

  pub merged_length : length (merged_moves n m) ≡ zone_count * merged_count n m
  unfolding merged_moves
  merged_length = length_tab (zone_count * merged_count n m) _

  module _ (few : n ≤ max_states) where
    -- an entry reads back as the move
    entry_read : (o : Move ℕ) → ((t : ℕ) → o ≡ quiet t → t < merged_count n m) → entry_move (merged_count n m) (entry_of o) ≡ o
    entry_read (quiet t) f = rw (lt-ltb t (merged_count n m) (f t refl))
    entry_read signal f = rw (le-ltb max_states (merged_count n m) (omega (arith, merged_most)))

    class_in : (o : Move ℕ) → ((t : ℕ) → o ≡ quiet t → t < n) → (c : ℕ) → after o signal (λ t. quiet (class_of (given_automaton n m) n t)) ≡ quiet c
        → c < merged_count n m
    unfolding merged_count
    class_in (quiet t) f c e =
        let d : class_of (given_automaton n m) n t ≡ c = cc in
        omega (arith, class_below (given_automaton n m) n t (f t refl))
    class_in signal f c e = absurd (let x : ◌≡◌ {A = ℕ} 0 1 = cc in omega arith)

    -- the listed chain of the merged moves goes as the merged chart does
    pub listed_merged : (c z : ℕ) → c < merged_count n m → z < zone_count
        → (listed_automaton zone_count (merged_count n m) (merged_moves n m)).move c z ≡ merged_move (given_automaton n m) n c z
    unfolding merged_moves merged_move merged_count
    listed_merged c z h l =
        let first = first_of_lem (given_automaton n m) n c h in
        let state : (zone_count * c + z) / zone_count ≡ c = omega arith in
        let zone : (zone_count * c + z) % zone_count ≡ z = omega arith in
        let entry : at (merged_moves n m) (zone_count * c + z) ≡ entry_of (merged_move (given_automaton n m) n c z) =
        get_d_tab (zone_count * merged_count n m) _ (zone_count * c + z) (omega arith)
        ∙ ap₂ (λ i y. entry_of (merged_move (given_automaton n m) n i y)) state zone in
        rw entry
        (entry_read (merged_move (given_automaton n m) n c z)
        (class_in ((given_automaton n m).move (first_of (given_automaton n m) n c) z)
        (λ t. given_closed (first_of (given_automaton n m) n c) z t first.below l)))

    -- The listed chain has, from the class of a state, the state's future.
    pub listed_future : (i : ℕ) → i < n
        → EqualFuture (given_automaton n m) (listed_automaton zone_count (merged_count n m) (merged_moves n m)) i (class_of (given_automaton n m) n i)
    unfolding merged_count
    listed_future i h =
        let given = given_automaton n m in
        let listed = listed_automaton zone_count (merged_count n m) (merged_moves n m) in
        let merged = merged_automaton given n in
        let closed : (c z t : ℕ) → c < merged_count n m → z < zone_count → listed.move c z ≡ quiet t → t < merged_count n m =
        λ c z t k g. entry_in (merged_count n m) (at (merged_moves n m) (zone_count * c + z)) t in
        let same = same_simulation listed merged (merged_count n m) refl closed (λ c z k g. listed_merged c z k g) in
        future_trans given merged listed (merged_future given n given_closed i h)
        (future_sym listed merged
        (simulation_future listed merged (SameBelow (merged_count n m)) same (record { below = class_below given n i h; is = refl })))
