-- `groups::take` meets its contract.
use Rattle.sources.specs.SourcesLaws.{take_more}
use Rattle.sources.proofs.groups.take.Goals as goal

pub returns-then-entry-t : goal.returns-then-entry-t
returns-then-entry-t c = search take_more
