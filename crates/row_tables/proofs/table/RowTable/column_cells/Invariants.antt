use Rattle.std.proofs.Common.{◌≡◌, map, take}
use Rattle.std.specs.Option.{option_copied}
use Rattle.row_tables.specs.Kept.{kept}
use Rattle.row_tables.proofs.table.RowTable.column_cells.Given as goal

abbrev pub invariant-loop-row : goal.invariant-loop-row
invariant-loop-row l = map option_copied l.cells.items ≡ map (kept l.self.grid l.column) (take l.row-index l.rows)
