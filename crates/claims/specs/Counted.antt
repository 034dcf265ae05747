-- TO BELIEVE: what N counts: the futures that the rows of zone sequences with no signal have; and what refusal 10 looks at: the states of these
-- rows. Definitions.
use Rattle.std.specs.Prelude.{ℕ, ◌+◌, ◌≤◌, ◌<◌, ◌≡◌, List, [], ◌∷◌, length}
use Rattle.rules.specs.declared.Rule.{Rule}
use Rattle.rules.specs.Bounds.{zone_count, max_states}
use Rattle.runlength.specs.Sum.{at}
use Rattle.runlength.specs.Automaton.{Automaton}
use Rattle.runlength.specs.Future.{EqualFuture, SameFirstSignals}
use Rattle.runlength.specs.Fewest.{HoldsStates}
use Rattle.window.specs.ReferenceChart.{row_mask}
use Rattle.window.specs.RowState.{state_of_row}
use Rattle.runlength.specs.Index.{Distinct}
use Rattle.states.specs.Automata.{reference_automaton}

-- a row of zones, the newest first, at none of whose points some rule holds
pub data QuietRow (rs : List Rule) : List ℕ → Type 0 where
  empty : QuietRow rs []
  point : {row : List ℕ} (z : ℕ) → QuietRow rs row → z < zone_count → row_mask rs (z ∷ row) ≡ 0 → QuietRow rs (z ∷ row)

-- the state of some quiet row
pub record OfQuietRow (rs : List Rule) (s : ℕ) : Type 0 where
  pub row : List ℕ
  pub quiet_row : QuietRow rs row
  pub state : s ≡ state_of_row rs row

-- n counts exactly the states of quiet rows: a list of n different ones, each of some quiet row, and the state of every quiet row among them
pub record CountsStates (rs : List Rule) (n : ℕ) : Type 0 where
  pub list : List ℕ
  pub count : n ≡ length list
  pub distinct : Distinct list
  pub each : (i : ℕ) → i < length list → OfQuietRow rs (at list i)
  pub all : (row : List ℕ) → QuietRow rs row → (i : ℕ) × (i < length list) × (at list i ≡ state_of_row rs row)

-- the same of the list that is given: it has exactly the states of quiet rows, and n counts them
pub record ListsStates (rs : List Rule) (list : List ℕ) (n : ℕ) : Type 0 where
  pub count : n ≡ length list
  pub distinct : Distinct list
  pub each : (i : ℕ) → i < length list → OfQuietRow rs (at list i)
  pub all : (row : List ℕ) → QuietRow rs row → (i : ℕ) × (i < length list) × (at list i ≡ state_of_row rs row)

-- there are more states of quiet rows than are taken: a list of one too many, all different, each of some quiet row
pub record TooManyStates (rs : List Rule) : Type 0 where
  pub list : List ℕ
  pub count : length list ≡ max_states + 1
  pub distinct : Distinct list
  pub each : (i : ℕ) → i < length list → OfQuietRow rs (at list i)

-- from both rows every continuation first signals at the same point of the plain chart
abbrev pub SameFuture : List Rule → List ℕ → List ℕ → Type 0
SameFuture rs = EqualFuture (reference_automaton rs) (reference_automaton rs)

-- n counts exactly the futures of quiet rows: n quiet rows, no two with the same future, and every quiet row has the future of one of them
pub record CountsFutures (rs : List Rule) (n : ℕ) : Type 0 where
  pub row : (i : ℕ) → i < n → List ℕ
  pub quiet_row : (i : ℕ) (h : i < n) → QuietRow rs (row i h)
  pub differ : (i j : ℕ) (h : i < n) (l : j < n) → i < j → SameFuture rs (row i h) (row j l) → ⊥
  pub all : (r : List ℕ) → QuietRow rs r → (i : ℕ) × (h : i < n) × SameFuture rs r (row i h)

-- one quiet row of each future, n of them in all: no two with the same future, and every quiet row has the future of one of them
pub record OneOfEach (rs : List Rule) (rows : ℕ → List ℕ) (n : ℕ) : Type 0 where
  pub quiet_row : (i : ℕ) → i < n → QuietRow rs (rows i)
  pub differ : (i j : ℕ) → i < j → j < n → SameFuture rs (rows i) (rows j) → ⊥
  pub all : (r : List ℕ) → QuietRow rs r → (i : ℕ) × (i < n) × SameFuture rs r (rows i)

-- n counts exactly the futures of quiet rows: there are such rows, numbered from 0
pub record CountsRows (rs : List Rule) (n : ℕ) : Type 0 where
  pub rows : ℕ → List ℕ
  pub each : OneOfEach rs rows n

-- no chart moved by zones alone that first signals on the plain chart's sequences has fewer than n states, whatever its states are: every list
-- that holds its start and all that quiet moves lead to is at least n long
pub record NoneFewer (rs : List Rule) (n : ℕ) : Type 1 where
  pub longer : {B : Type 0} (b : Automaton B) (xs : List B) → HoldsStates b xs
      → SameFirstSignals (reference_automaton rs) b [] b.start → n ≤ length xs
