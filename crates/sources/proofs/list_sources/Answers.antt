-- `list_sources` meets its contract.
use Rattle.sources.specs.ListSourcesLaws.{list_of, listed_of}
use Rattle.sources.proofs.list_sources.Goals as goal

pub list_groups-requires : goal.list_groups-requires
list_groups-requires c = search list_of

pub returns : goal.returns
returns c = search listed_of
