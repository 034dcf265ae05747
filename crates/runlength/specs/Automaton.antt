-- TO BELIEVE: a chart as an automaton moved by zones, and the exact distribution of its run length: sums over all sequences of zones, in whole
-- numbers. Its states may be infinitely many. Definitions.
use Rattle.std.specs.Prelude.{ℕ, suc, ◌*◌, Bool, true, false, not, List, [], ◌∷◌}
use Rattle.runlength.specs.Sum.{only, sum_sequences}

-- what one point does: the chart stays quiet and goes on to a state, or it signals
pub data Move (A : Type 0) : Type 0 where
  quiet : A → Move A
  signal : Move A

-- b where the move signals, and f of the next state where it does not
abbrev pub after : {A B : Type 0} → Move A → B → (A → B) → B
after (quiet t) b f = f t
after signal b f = b

pub record Automaton (A : Type 0) : Type 0 where
  -- the state of a chart that was just reset
  pub start : A
  -- by state and zone
  pub move : A → ℕ → Move A
  -- how many zones there are: they are the numbers below it
  pub zones : ℕ

-- the product of a sequence's weights: its probability, over base ^ length
unfoldable pub product : (ℕ → ℕ) → List ℕ → ℕ
product weight [] = 1
product weight (z ∷ q) = weight z * product weight q

module _ {A : Type 0} (a : Automaton A) where
  -- the chart signals at some point of the sequence
  unfoldable pub signals : A → List ℕ → Bool
  signals s [] = false
  signals s (z ∷ q) = after (a.move s z) true (λ t. signals t q)

  -- the number of the first signalling point, from 1; where there is none, the length
  unfoldable pub run_length : A → List ℕ → ℕ
  run_length s [] = 0
  run_length s (z ∷ q) = suc (after (a.move s z) 0 (λ t. run_length t q))

  module _ (weight : ℕ → ℕ) where
    -- the probability of a signal by point n, over base ^ n
    unfoldable pub exact_cdf : ℕ → ℕ
    exact_cdf n = sum_sequences a.zones n (λ q. only (signals a.start q) (product weight q))

    -- the probability of no signal in n points from a state, and from the start, over base ^ n
    unfoldable pub exact_survival_from : ℕ → A → ℕ
    exact_survival_from n s = sum_sequences a.zones n (λ q. only (not (signals s q)) (product weight q))

    unfoldable pub exact_survival : ℕ → ℕ
    exact_survival n = exact_survival_from n a.start

    -- the mean of the run length cut at h, E min(T, h), over base ^ h
    unfoldable pub exact_restricted_mean : ℕ → ℕ
    exact_restricted_mean h = sum_sequences a.zones h (λ q. product weight q * run_length a.start q)
