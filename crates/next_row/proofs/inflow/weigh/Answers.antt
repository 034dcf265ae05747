-- `inflow::weigh` meets its contract.
use Rattle.next_row.specs.ArrivalsLaws.{weigh_done}
use Rattle.next_row.proofs.inflow.weigh.Goals as goal

pub returns : goal.returns
returns c = weigh_done c.requires c.from-w.ensures c.gather-sum.ensures
