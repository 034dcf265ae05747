-- The states that the seven zones below C0 meet are among the chain's; so the table of the seven is inside that of the eight. Laws.
use Rattle.std.specs.Prelude.{ℕ, ◌+◌, ◌*◌, ◌≤◌, ◌<◌, List, length}
use Rattle.std.proofs.Math.Path.{refl, sym}
use Rattle.std.proofs.Common.{arith}
use Rattle.rules.specs.declared.Rule.{Rule}
use Rattle.rules.specs.Bounds.{zone_count, max_states}
use Rattle.runlength.specs.Sum.{at}
use Rattle.runlength.specs.Automaton.{Move, quiet, signal}
use Rattle.runlength.specs.Future.{Alike}
use Rattle.runlength.proofs.ListedLaws.{entry_in}
use Rattle.runlength.specs.PigeonholeLaws.{different_below}
use Rattle.monitor.specs.Zone.{zone_c0}
use Rattle.states.specs.States.{Met, start, more, states, moves}
use Rattle.runlength.specs.Index.{At}
use Rattle.states.specs.StatesLaws.{states_some, states_first, states_distinct, states_met, explored_simulation}
use Rattle.chain.specs.TableChain.{explored_count, state_count, chain_moves, table_automaton}
use Rattle.chain.specs.TableChainLaws.{count_some, count_explored}
use Rattle.claims.specs.Centre.{without_centre}
use Rattle.claims.specs.InsideLaws.{Indexed, Inside}

module _ (rs : List Rule) where
  -- what is met with no point in C0
  abbrev own : List ℕ
  own = states (without_centre rs)

  -- it is a state of the chain
  own_below : {s : ℕ} → Met (without_centre rs) s → s < state_count rs
  unfolding table_automaton
  own_below start = count_some rs
  own_below {s = t} (more {s = r} z p h e) = entry_in (state_count rs) (at (chain_moves rs) (zone_count * r + z)) t e

  -- so no more states are met with no point in C0
  pub no_more_states : length own ≤ state_count rs
  no_more_states =
      different_below (length own) (state_count rs) (at own) (λ i h. own_below ((states_met (without_centre rs)).met i h))
      (states_distinct (without_centre rs)).apart

  -- a pair of moves, the other way round
  turned : (a b : Move ℕ) → Alike (At own) b a → Indexed (at own) (length own) a b
  unfolding Alike
  turned (quiet x) (quiet y) p = (p.below, sym p.is)
  turned (quiet x) signal p = absurd p
  turned signal (quiet y) p = absurd p
  turned signal signal p = tt

  module _ (few : explored_count rs ≤ max_states) where
    few_own : length own ≤ max_states
    few_own = omega (arith, no_more_states, count_explored rs)

    pub inside_all : Inside zone_c0 (state_count rs) (length own) (chain_moves rs) (moves (without_centre rs)) (at own)
    unfolding table_automaton
    inside_all = record {
      some = states_some (without_centre rs);
      inside = λ i h. own_below ((states_met (without_centre rs)).met i h);
      apart = (states_distinct (without_centre rs)).apart;
      first = states_first (without_centre rs);
      moves = λ i z h l.
          turned _ _ ((explored_simulation (without_centre rs) few_own).kept i (at own i) (record { below = h; is = refl }) z l);
    }
