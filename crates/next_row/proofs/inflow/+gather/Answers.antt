-- `inflow::gather` meets its contract: it asks no more of the rest of the group than of the whole.
use Rattle.std.proofs.Common.{rules}
use Rattle.next_row.specs.ArrivalsLaws.{gather_rest}
use Rattle.next_row.proofs.inflow.+gather.Goals as goal

pub gather-requires : goal.gather-requires
gather-requires t c = (search rules, gather_rest c.requires)
