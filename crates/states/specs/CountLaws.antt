-- More than `max_states` are found exactly where more than `max_states` states are met. Laws.
use Rattle.std.specs.Prelude.{ℕ, ◌+◌, ◌<◌, ◌≤◌, ◌≡◌, List, ◌↔◌, length, get_or}
use Rattle.std.proofs.Common.{arith}
use Rattle.std.proofs.Math.Decide.{dec_lt}
use Rattle.rules.specs.Bounds.{max_states}
use Rattle.runlength.specs.Automaton.{Automaton}
use Rattle.runlength.specs.PigeonholeLaws.{pigeonhole, at_mem}
use Rattle.states.specs.States.{states}
use Rattle.states.specs.StateList.{DifferentMet}
use Rattle.states.specs.StatesLaws.{states_distinct, states_met, states_most, states_all}

-- ---- how many states are met

module _ (a : Automaton ℕ) where
  -- the states found are different ones that are met
  states_different : DifferentMet a (states a)
  states_different = record { distinct = states_distinct a; all_met = states_met a }

  -- where at most `max_states` are found, no list of different states that are met is longer
  states_greatest : length (states a) ≤ max_states → (xs : List ℕ) → DifferentMet a xs → length xs ≤ length (states a)
  states_greatest few xs d =
      pigeonhole (length xs) (states a) (λ i h. get_or xs i 0)
      (λ i h. let p = (states_all a few).index (get_or xs i 0) (d.all_met.met i h) in at_mem (states a) p.0 (get_or xs i 0) p.1.below p.1.is)
      (λ i j h l k e. d.distinct.apart i j k l e)

  -- too many are found exactly where there are `max_states + 1` different states that are met
  pub states_too_many : (max_states < length (states a)) ↔ ((xs : List ℕ) × (length xs ≡ max_states + 1) × DifferentMet a xs)
  states_too_many = (
    λ h. (states a, omega (arith, states_most a), states_different),
    λ o. over (dec_lt max_states (length (states a))) o.0 o.1 o.2,
  )
    where
      over : Dec (max_states < length (states a)) → (xs : List ℕ) → length xs ≡ max_states + 1 → DifferentMet a xs → max_states < length (states a)
      over (yes h) xs l d = h
      over (no h) xs l d = let few : length (states a) ≤ max_states = omega arith in absurd (omega (arith, states_greatest few xs d))
