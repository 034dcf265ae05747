-- CLAIMS: of an accepted call, the chain that the table runs on first signals on the same sequences as the plain chart; it has N states; and no
-- chart moved by zones alone that first signals on these sequences has fewer, whatever its states are.
use Rattle.std.specs.Prelude.{◌≤◌, ◌≡◌, List, [], length, Ok}
use Rattle.runlength.specs.Automaton.{Automaton}
use Rattle.runlength.specs.Sum.{tab}
use Rattle.runlength.specs.TabLaws.{length_tab}
use Rattle.runlength.specs.Future.{EqualFuture, SameFirstSignals}
use Rattle.runlength.proofs.FutureLaws.{future_first, first_future}
use Rattle.runlength.specs.Fewest.{HoldsStates}
use Rattle.states.specs.Automata.{reference_automaton}
use Rattle.table.specs.declared.TableFigures.{TableFigures}
use Rattle.chain.specs.TableChain.{table_automaton}
use Rattle.table.specs.Table.{TableCall, rules_of, table_of}
use Rattle.chain.specs.TableChainLaws.{chain_future, chain_holds}
use Rattle.chain.specs.FuturesLaws.{chain_fewest}
use Rattle.table.specs.AcceptedTable.{AcceptedTable}
use Rattle.table.proofs.AcceptedTableLaws.{accepted_table}
use Rattle.claims.specs.Counted.{NoneFewer}

module _ (t : TableCall) (f : TableFigures) (accepted : (table_of t).answer ≡ Ok f) where
  call : AcceptedTable t f
  call = accepted_table t f accepted

  -- The chain has the future of the plain chart from an empty row: every sequence of zones first signals at the same point of both.
  pub merged_chain_future : EqualFuture (reference_automaton (rules_of t)) (table_automaton (rules_of t)) [] (table_automaton (rules_of t)).start
  merged_chain_future = chain_future (rules_of t) call.chain.few call.chain.bounds

  -- So it first signals on the same sequences.
  pub merged_chain_first : SameFirstSignals (reference_automaton (rules_of t)) (table_automaton (rules_of t)) [] (table_automaton (rules_of t)).start
  merged_chain_first = future_first (reference_automaton (rules_of t)) (table_automaton (rules_of t)) merged_chain_future

  -- Its states are the N numbers from 0: they hold its start, and no quiet move leaves them.
  pub merged_chain_states : HoldsStates (table_automaton (rules_of t)) (tab f.state_count (λ i. i))
  merged_chain_states = rw call.count_is (chain_holds (rules_of t))

  pub merged_chain_size : length (tab f.state_count (λ i. i)) ≡ f.state_count
  merged_chain_size = length_tab f.state_count (λ i. i)

  -- Every chart moved by zones alone, its states of any type, with a list of states that holds its start and all that quiet moves lead to, which
  -- first signals on the same sequences as the plain chart: the list is at least N long.
  pub fewest_states : {B : Type 0} (b : Automaton B) (xs : List B) → HoldsStates b xs
      → SameFirstSignals (reference_automaton (rules_of t)) b [] b.start → f.state_count ≤ length xs
  fewest_states b xs holds same =
      rw call.count_is
      (chain_fewest (rules_of t) call.chain.few call.chain.bounds b xs holds (first_future (reference_automaton (rules_of t)) b same))

  -- In one word: no such chart has fewer than N states.
  pub none_fewer_states : NoneFewer (rules_of t) f.state_count
  none_fewer_states = record {
    longer = λ {B} b xs holds same.
        rw call.count_is
        (chain_fewest (rules_of t) call.chain.few call.chain.bounds b xs holds (first_future (reference_automaton (rules_of t)) b same));
  }
