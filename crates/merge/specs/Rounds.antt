-- The rounds that find the first state of each class: what one looks at, and what its parts ask for. Working definitions.
use Rattle.std.specs.Prelude.{ℕ, ◌+◌, ◌*◌, ◌≤◌, ◌<◌, ◌≡◌, Bool, false, cond, List, eqb, ltb, length}
use Rattle.rules.specs.Bounds.{zone_count, max_states}
use Rattle.runlength.specs.Sum.{at}
use Rattle.runlength.specs.Lowest.{lowest}
use Rattle.runlength.specs.Apart.{all_of}
use Rattle.runlength.specs.Merged.{leader_for}
use Rattle.merge.specs.Merge.{given_automaton}

-- what the list says of the state that an entry leads to, or `max_states` for a signal
abbrev pub label_of : ℕ → List ℕ → ℕ → ℕ
label_of n labels x = cond (ltb x n) (at labels x) max_states

module _ (n : ℕ) (m leaders : List ℕ) where
  -- every zone leads from both states to the same leader so far, or to a signal
  unfoldable pub agreeing : ℕ → ℕ → Bool
  agreeing i j = all_of zone_count (λ z. eqb (label_of n leaders (at m (zone_count * i + z))) (label_of n leaders (at m (zone_count * j + z))))

  -- the first state that agrees with i
  unfoldable pub next_leader : ℕ → ℕ
  next_leader i = lowest (λ j. agreeing j i) i

  -- no state before its leader so far agrees with i
  pub record Skips (i : ℕ) : Type 0 where
    pub most : at leaders i ≤ i
    pub skip : (j : ℕ) → j < at leaders i → agreeing j i ≡ false

  -- the leaders by continuations of up to k points
  pub record HoldsLeaders (k : ℕ) : Type 0 where
    pub is : (i : ℕ) → i < n → at leaders i ≡ leader_for (given_automaton n m) k i

-- not too many states, and their moves
pub record HasRoom (n : ℕ) (m : List ℕ) : Type 0 where
  pub few : n ≤ max_states
  pub moves : zone_count * n ≤ length m

-- what a round asks for: leaders that skip none
pub record SkipNone (m leaders : List ℕ) : Type 0 where
  pub skips : (i : ℕ) → i < length leaders → Skips (length leaders) m leaders i

-- the next leaders of the first i states
pub record NextLeaders (m leaders next : List ℕ) (i : ℕ) : Type 0 where
  pub is : (s : ℕ) → s < i → at next s ≡ next_leader (length leaders) m leaders s
