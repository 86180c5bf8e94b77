use Rattle.std.proofs.Common.{◌≡◌, map, take}
use Rattle.std.specs.Option.{option_copied}
use Rattle.column_store.specs.Kept.{kept_at}
use Rattle.column_store.proofs.table.ColumnTable.column_cells.Given as goal

abbrev pub invariant-loop-row : goal.invariant-loop-row
invariant-loop-row l = map option_copied l.cells.items ≡ map (kept_at l.self.grid l.place) (take l.row-index l.rows)
