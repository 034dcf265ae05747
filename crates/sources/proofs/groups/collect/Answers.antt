-- `groups::collect` meets its contract: after s turns the first s states are looked at.
use Rattle.sources.specs.SourcesLaws.{collect_start, collect_can, collect_more}
use Rattle.sources.proofs.groups.collect.Goals as goal

pub loop-s-init : goal.loop-s-init
loop-s-init c = search collect_start

pub take-e-requires : goal.take-e-requires
take-e-requires c = search collect_can

pub loop-s-preserved : goal.loop-s-preserved
loop-s-preserved c = search collect_more
