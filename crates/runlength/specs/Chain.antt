-- TO BELIEVE: a chart with finitely many states, and document 01's round-down table of its run length. Definitions.
use Rattle.std.specs.Prelude.{ℕ, zero, suc, ◌-◌, ◌*◌, ◌/◌, ◌<◌, ◌≡◌, eqb, List}
use Rattle.runlength.specs.Sum.{at, sum, only}
use Rattle.runlength.specs.Automaton.{Automaton, quiet, after}

pub record Chain : Type 0 where
  pub automaton : Automaton ℕ
  -- its states are the numbers below it
  pub size : ℕ
  -- by zone
  pub weight : ℕ → ℕ
  -- what the weights sum to: 2^30 in document 01
  pub base : ℕ
  -- probability one, in units: 2^60 in document 01
  pub whole : ℕ

-- what is asked of a chain: no quiet move leaves its states, and its weights sum to the base
pub record Proper (c : Chain) : Type 0 where
  pub start_in : c.automaton.start < c.size
  pub closed : (s z t : ℕ) → s < c.size → z < c.automaton.zones → c.automaton.move s z ≡ quiet t → t < c.size
  pub weights : sum c.automaton.zones c.weight ≡ c.base
  pub base_pos : 0 < c.base
  pub whole_pos : 0 < c.whole

-- the error bound (document 01's allowed shortfall) of the mean cut at h with so many states, in units
abbrev pub error_bound_of : ℕ → ℕ → ℕ
error_bound_of count h = count * h * (h - 1) / 2

module _ (c : Chain) where
  -- what reaches the state t in one point: the sum, over each state and zone that leads to t with no signal, of units × weight
  unfoldable pub inflow : (ℕ → ℕ) → ℕ → ℕ
  inflow units t =
      sum c.size (λ s. sum c.automaton.zones (λ z. after (c.automaton.move s z) 0 (λ r. only (eqb r t) (units s * c.weight z))))

  -- what signals in one point: the same sum over the signalling moves
  unfoldable pub signalled : (ℕ → ℕ) → ℕ
  signalled units =
      sum c.size (λ s. sum c.automaton.zones (λ z. after (c.automaton.move s z) (units s * c.weight z) (λ r. 0)))

  -- the units of a state after n points: all in the start; then each state's whole sum, divided once and rounded down
  unfoldable pub units : ℕ → ℕ → ℕ
  units zero t = only (eqb c.automaton.start t) c.whole
  units (suc n) t = inflow (units n) t / c.base

  -- document 01's chance at n: the probability mass of run length n, divided once and rounded down
  unfoldable pub pmf : ℕ → ℕ
  pmf zero = 0
  pmf (suc n) = signalled (units n) / c.base

  -- document 01's by: the running sum of the rounded chances
  unfoldable pub cdf : ℕ → ℕ
  cdf n = sum n (λ k. pmf (suc k))

  -- document 01's left: the sum of the rounded units over the states
  unfoldable pub survival : ℕ → ℕ
  survival n = sum c.size (units n)

  -- document 01's cut mean, in units: the sum of left from 0 to h - 1
  unfoldable pub restricted_mean : ℕ → ℕ
  restricted_mean h = sum h survival

  -- document 01's allowed shortfall of the cut mean, in units
  unfoldable pub mean_error_bound : ℕ → ℕ
  mean_error_bound h = error_bound_of c.size h

-- document 01's by of a list of chances: the sum of the first n
unfoldable pub cdf_of : List ℕ → ℕ → ℕ
cdf_of pmf n = sum n (at pmf)
