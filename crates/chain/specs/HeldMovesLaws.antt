-- What exploring and merging leave. Laws.
use Rattle.std.specs.Prelude.{◌≡◌, List, ◌++◌, ℕ, ◌*◌, ◌≤◌, ◌<◌, drop}
use Rattle.std.proofs.Common.{sym, ◌∙◌, arith, get_or-take}
use Rattle.std.proofs.Math.Path.{ap}
use Rattle.std.proofs.Math.ListN.{length, length-append, get_or-append}
use Rattle.rules.specs.declared.Rule.{Rule}
use Rattle.rules.specs.Bounds.{zone_count, max_states}
use Rattle.runlength.specs.Sum.{at}
use Rattle.states.specs.States.{moves}
use Rattle.states.specs.Automata.{state_automaton}
use Rattle.states.specs.Explore.{Explored}
use Rattle.merge.specs.Merge.{merged_count, merged_moves, Mergeable}
use Rattle.merge.specs.MergeLaws.{merged_most, merged_length}
use Rattle.merge.specs.OwnMovesLaws.{same_count, same_moves}
use Rattle.chain.specs.TableChain.{explored_count, state_count, chain_moves}
use Rattle.chain.specs.HeldMoves.{HoldsMoves}

module _ (rs : List Rule) {found e : List ℕ} {n : ℕ} (x : Explored (state_automaton rs) found e n) where
  -- so many are explored
  pub explored_count_lem : n ≡ explored_count rs
  unfolding explored_count
  explored_count_lem = x.count

  -- where they are not too many, they can be merged
  pub explored_merge : n ≤ max_states → (m : List ℕ) → length m ≡ zone_count * max_states → Mergeable n e m
  explored_merge few m room = record { few = few; moves = omega (arith, x.entries_length); room = omega arith }

  -- the list begins with the moves of the explored states
  explored_moves : n ≤ max_states → (k : ℕ) → k < zone_count * n → at e k ≡ at (moves (state_automaton rs)) k
  explored_moves few k i = sym (get_or-take (zone_count * n) e k 0 i) ∙ ap (λ l. at l k) (x.found_moves few)

  -- merged, the list begins with the moves of the chain
  module _ (few : n ≤ max_states) {r : ℕ} (m m' : List ℕ) (count : r ≡ merged_count n e)
      (merged : m' ≡ merged_moves n e ++ drop (zone_count * merged_count n e) m) where
    merged_count_lem : r ≡ state_count rs
    unfolding state_count explored_count
    merged_count_lem =
        count ∙ same_count n e (moves (state_automaton rs)) (explored_moves few)
        ∙ ap (λ k. merged_count k (moves (state_automaton rs))) x.count

    pub merged_held : zone_count * n ≤ length m → HoldsMoves rs r m'
    unfolding chain_moves explored_count
    merged_held room =
        let most = merged_most n e in
        let long = merged_length n e in
        record {
          count = merged_count_lem;
          few = omega (arith, count);
          room = omega (arith, ap length merged, length-append (merged_moves n e) (drop (zone_count * merged_count n e) m), count);
          same = λ k i.
              ap (λ l. at l k) merged
              ∙ get_or-append (merged_moves n e) (drop (zone_count * merged_count n e) m) 0 k (omega (arith, count))
              ∙ ap (λ l. at l k) (same_moves n e (moves (state_automaton rs)) (explored_moves few))
              ∙ ap (λ j. at (merged_moves j (moves (state_automaton rs))) k) x.count;
        }
