-- One point of a chart forwards and backwards: what flows on from the states, and what a state is worth by where it leads. Working definitions.
use Rattle.std.specs.Prelude.{ℕ, zero, suc, ◌*◌, eqb}
use Rattle.runlength.specs.Sum.{sum, only, sum_sequences}
use Rattle.runlength.specs.Automaton.{Automaton, after, product, run_length}
use Rattle.runlength.specs.Chain.{Chain, inflow}

-- one step back of g: the mean, over base, of g at the state that the next point leads to, a signal counting 0
unfoldable pub step_back : {A : Type 0} → Automaton A → (ℕ → ℕ) → (A → ℕ) → A → ℕ
step_back a weight g s = sum a.zones (λ z. weight z * after (a.move s z) 0 g)

-- the unrounded units of a state after n points: the probability to be there with no signal, over base ^ n
unfoldable pub exact_units : Chain → ℕ → ℕ → ℕ
exact_units c zero t = only (eqb c.automaton.start t) 1
exact_units c (suc n) t = inflow c (exact_units c n) t

-- the mean of the run length from a state, cut at h, over base ^ h
unfoldable pub exact_restricted_mean_from : {A : Type 0} → Automaton A → (ℕ → ℕ) → ℕ → A → ℕ
exact_restricted_mean_from a weight h s = sum_sequences a.zones h (λ q. product weight q * run_length a s q)
