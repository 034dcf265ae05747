-- TO BELIEVE: the states of a chart merged where no continuation tells them apart, and the chart that is left. Definitions.
use Rattle.std.specs.Prelude.{ℕ, Bool, eqb}
use Rattle.runlength.specs.Sum.{sum, only}
use Rattle.runlength.specs.Automaton.{Automaton, Move, quiet, signal, after}
use Rattle.runlength.specs.Lowest.{lowest}
use Rattle.runlength.specs.Apart.{alike_for}

-- how many of the numbers below i lead, where each is led by a number
unfoldable pub lead_before : (ℕ → ℕ) → ℕ → ℕ
lead_before leader i = sum i (λ j. only (eqb (leader j) j) 1)

module _ (a : Automaton ℕ) (k : ℕ) where
  -- the first of the states that continuations of up to k points do not tell from i
  unfoldable pub leader_for : ℕ → ℕ
  leader_for i = lowest (λ j. alike_for a k j i) i

  -- i is the first of its class
  abbrev pub leads_for : ℕ → Bool
  leads_for i = eqb (leader_for i) i

  -- how many of the states below i are the first of their class
  abbrev pub leaders_for : ℕ → ℕ
  leaders_for i = lead_before leader_for i

-- the states of the chart are the numbers below n: as many points as there are states tell apart all that differ
module _ (a : Automaton ℕ) (n : ℕ) where
  -- how many classes there are
  unfoldable pub class_count : ℕ
  class_count = leaders_for a n n

  -- the class of a state: classes are numbered in the order of their first states
  unfoldable pub class_of : ℕ → ℕ
  class_of i = leaders_for a n (leader_for a n i)

  -- the first state of a class
  unfoldable pub first_of : ℕ → ℕ
  first_of c = lowest (λ i. eqb (class_of i) c) n

  -- a class moves as its first state does, to the class of the state that this one goes on to
  unfoldable pub merged_move : ℕ → ℕ → Move ℕ
  merged_move c z = after (a.move (first_of c) z) signal (λ t. quiet (class_of t))

  abbrev pub merged_automaton : Automaton ℕ
  merged_automaton = record { start = class_of a.start; move = merged_move; zones = a.zones }
