-- CLAIM: the table of the normal area, over all its entries.
use Rattle.shift.specs.Area.{NormalTable}
use Rattle.shift.proofs.AreaLaws.{normal_table as normal_table_proved}

pub normal_table : NormalTable
normal_table = normal_table_proved
