-- What `visit` answers, case by case, by the monitor's move.
use Rattle.std.specs.Prelude.{ℕ, ◌+◌, ◌*◌, ◌/◌, ◌%◌, ◌<◌, ◌≤◌, ◌≡◌, Some, None, List, eqb, get_or, take, set, position}
use Rattle.std.proofs.Common.{ap, arith}
use Rattle.rules.specs.declared.RuleList.{RuleList}
use Rattle.rules.specs.Bounds.{zone_count, max_states}
use Rattle.rules.specs.Check.{active_rules}
use Rattle.window.specs.declared.Move.TheVariants.{Quiet, Signal}
use Rattle.window.specs.State.{move_of}
use Rattle.runlength.specs.Index.{index_of}
use Rattle.states.specs.Automata.{automaton_move, state_automaton}
use Rattle.states.specs.AutomataLaws.{met_given}
use Rattle.states.specs.Explore.{Explorable, Visitable, Visited, Exceeds}
use Rattle.states.specs.ExploreLaws.{index_found, index_missing, Exploring, explore_met, turn_signal, turn_known, turn_new, turn_over}

module _ {list : RuleList} {f m : List ℕ} {n k : ℕ} (v : Visitable list f m n k) where
  pub visit_signal : (mask : ℕ) → move_of (active_rules list) (get_or f (k / zone_count) 0) (k % zone_count) ≡ Signal mask
      → Visited (state_automaton (active_rules list)) f m f (set m k max_states) n k n
  visit_signal mask e =
      turn_signal (state_automaton (active_rules list)) f m n k v.few v.below v.can.found_room v.can.entries_room (ap automaton_move e)

  module _ {t : ℕ} (e : move_of (active_rules list) (get_or f (k / zone_count) 0) (k % zone_count) ≡ Quiet t) where
    -- by the index, which is not below n where the state is not among those found
    module _ {j : ℕ} (q : j ≡ index_of t (take n f)) where
      pub visit_known_at : j < n → Visited (state_automaton (active_rules list)) f m f (set m k j) n k n
      visit_known_at l = turn_known (state_automaton (active_rules list)) f m n k v.few v.below v.can.found_room v.can.entries_room t (ap automaton_move e) j (q, l)

      pub visit_new_at : n ≤ j → n < max_states → Visited (state_automaton (active_rules list)) f m (set f n t) (set m k j) n k (n + 1)
      visit_new_at = turn_new (state_automaton (active_rules list)) f m n k v.few v.below v.can.found_room v.can.entries_room t (ap automaton_move e) j q

      pub visit_over_at : n ≤ j → max_states ≤ n → Exceeds (state_automaton (active_rules list)) f m n k
      visit_over_at = turn_over (state_automaton (active_rules list)) f m n k v.few v.below v.can.found_room v.can.entries_room t (ap automaton_move e) j q

    pub visit_known : {j : ℕ} → Some j ≡ position (λ s. eqb s t) (take n f)
        → Visited (state_automaton (active_rules list)) f m f (set m k j) n k n
    visit_known {j} q =
        let i = index_found t n f (omega (arith, v.few, v.can.found_room)) q in
        visit_known_at i.0 i.1

    module _ (q : None ≡ position (λ s. eqb s t) (take n f)) where
      missing : n ≡ index_of t (take n f)
      missing = index_missing t n f (omega (arith, v.few, v.can.found_room)) q

      pub visit_new : n < max_states → Visited (state_automaton (active_rules list)) f m (set f n t) (set m k n) n k (n + 1)
      visit_new = visit_new_at missing (omega arith)

      pub visit_over : max_states ≤ n → Exceeds (state_automaton (active_rules list)) f m n k
      visit_over = visit_over_at missing (omega arith)

-- while moves are left, the next one can be looked at
pub visit_can : {list : RuleList} {f₀ m₀ f m : List ℕ} {n k : ℕ} → Explorable list f₀ m₀ → Exploring (state_automaton (active_rules list)) f m n k → k < zone_count * n
    → Visitable list f m n k
visit_can {list} p w h = record {
  can = record { few_rules = p.few_rules; bounds = p.bounds; found_room = w.lf; entries_room = w.lm };
  few = w.few;
  below = h;
  given = met_given (active_rules list) p.bounds (explore_met (state_automaton (active_rules list)) w h);
}
