-- `groups::group_state` meets its contract: after z turns the groups of the first z zones stand.
use Rattle.sources.specs.GroupingLaws.{state_start, state_can, state_more}
use Rattle.sources.proofs.groups.group_state.Goals as goal

pub loop-z-init : goal.loop-z-init
loop-z-init c = search state_start

pub group_zone-g-requires : goal.group_zone-g-requires
group_zone-g-requires c = search state_can

pub loop-z-preserved : goal.loop-z-preserved
loop-z-preserved c = search state_more
