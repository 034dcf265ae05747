-- `search::upper` meets its contract: the search it makes is the search for high.
use Rattle.std.proofs.Common.{◌∙◌, arith, length}
use Rattle.bracket.proofs.CrossingLaws.{search_high}
use Rattle.bracket.proofs.search.upper.Goals as goal

pub returns : goal.returns
returns c =
    c.first_reaching.ensures ∙ search_high c.args.pmf.now _ c.hundredth-goal.result c.args.percent (length c.args.pmf.now) (omega arith) (omega (arith, c.hundredth-goal.ensures))
