-- `sum_fits` meets its contract. The invariant: the chances so far and what is left make probability one.
use Rattle.std.proofs.Common.{◌≡◌, ◌+◌}
use Rattle.runlength.specs.Scale.{units_per_one}
use Rattle.runlength.specs.Chain.{cdf_of}
use Rattle.bracket.proofs.sum_fits.Given as goal

abbrev pub invariant-loop-chance : goal.invariant-loop-chance
invariant-loop-chance l = cdf_of l.pmf l.chance-index + l.rest ≡ units_per_one
