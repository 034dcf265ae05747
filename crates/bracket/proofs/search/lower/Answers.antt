-- `search::lower` meets its contract: the search it makes is the search for low.
use Rattle.std.proofs.Common.{◌∙◌, arith, length}
use Rattle.bracket.proofs.CrossingLaws.{search_low}
use Rattle.bracket.proofs.search.lower.Goals as goal

pub returns : goal.returns
returns c =
    c.first_reaching.ensures ∙ search_low c.args.pmf.now _ c.hundredth-goal.result c.args.state_count c.args.percent (length c.args.pmf.now) (omega arith) (omega (arith, c.hundredth-goal.ensures))
