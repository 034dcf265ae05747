-- A chain given by the list of its moves is proper, and its states are the numbers below n. Laws.
use Rattle.std.specs.Prelude.{◌≡◌, Bool, true, false, cond, List, ℕ, ◌+◌, ◌*◌, ◌<◌, T, ltb, get_or}
use Rattle.std.proofs.Common.{arith, ltb→lt}
use Rattle.runlength.specs.Scale.{weight_total}
use Rattle.runlength.specs.Sum.{sum, tab}
use Rattle.runlength.specs.Automaton.{Move, quiet, signal}
use Rattle.runlength.specs.Chain.{Proper}
use Rattle.runlength.specs.Listed.{entry_move, listed_automaton, listed_chain}
use Rattle.runlength.specs.Fewest.{HoldsStates}
use Rattle.runlength.specs.PigeonholeLaws.{in_numbers}

-- the state that an entry leads to is one of the n states
pub entry_in : (n x t : ℕ) → entry_move n x ≡ quiet t → t < n
entry_in n x t e = go (ltb x n) (ltb→lt x n) e
  where
    go : (b : Bool) → (T b → x < n) → cond {A = Move ℕ} b (quiet x) signal ≡ quiet t → t < n
    go true f p = let i : x ≡ t = cc in omega (arith, f tt)
    go false f p = absurd (let i : ◌≡◌ {A = ℕ} 0 1 = cc in omega arith)

module _ (zones n : ℕ) (moves : List ℕ) (weight : ℕ → ℕ) (some-state : 0 < n) (weights : sum zones weight ≡ weight_total) where
  -- whatever the list is, its chain is proper
  pub listed_proper : Proper (listed_chain zones n moves weight)
  listed_proper = record {
    start_in = some-state;
    closed = λ s z t l i. entry_in n (get_or moves (zones * s + z) 0) t;
    weights = weights;
    base_pos = omega arith;
    whole_pos = omega arith;
  }

pub listed_holds : (zones n : ℕ) (moves : List ℕ) → 0 < n → HoldsStates (listed_automaton zones n moves) (tab n (λ i. i))
listed_holds zones n moves some = record {
  has_start = in_numbers n 0 some;
  has_next = λ s m z h t e. in_numbers n t (entry_in n (get_or moves (zones * s + z) 0) t e);
}
