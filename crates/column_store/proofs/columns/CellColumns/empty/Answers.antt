use Rattle.column_store.proofs.FrontLaws.{room_none}
use Rattle.column_store.proofs.MoveLaws.{no_height}
use Rattle.column_store.proofs.columns.CellColumns.empty.Goals as goal

pub invariant_of-result : goal.invariant_of-result
invariant_of-result c = (no_height c.in_ok-columns.columns.items c.in_ok-columns.ensures.rooms, room_none c.in_ok-columns.columns.items)
