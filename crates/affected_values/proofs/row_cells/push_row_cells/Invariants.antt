use Rattle.std.proofs.Common.{◌-◌, ◌≡◌, true, false, length}
use Rattle.std.specs.Str.{bytes_eq}
use Rattle.cell_types.specs.declared.cell.CellId.{CellId}
use Rattle.doc_model.specs.Rows.{has}
use Rattle.doc_readers.specs.Parts.{grid_at}
use Rattle.recalc.specs.Stack.{on}
use Rattle.recalc.proofs.Progress.{EachOf}
use Rattle.affected_values.specs.Carried.{HasCellsOfColumn}
use Rattle.affected_values.proofs.row_cells.push_row_cells.Given as goal

abbrev pub invariant-loop-column : goal.invariant-loop-column
invariant-loop-column g l = record {
  stays : (c : CellId) → on l.initial.cells.items c ≡ true → on l.cells.items c ≡ true;
  each : EachOf (HasCellsOfColumn l.table l.rows l.cells.items) (grid_at (g.D.DocReader.document l.tables) l.table).columns l.index;
  only : (c : CellId) → on l.cells.items c ≡ true → on l.initial.cells.items c ≡ false → bytes_eq c.table l.table ≡ true;
  rows : (c : CellId) → on l.cells.items c ≡ true → on l.initial.cells.items c ≡ false → has l.rows c.row ≡ true;
}

abbrev pub decreases-loop-column : goal.decreases-loop-column
decreases-loop-column g l = length (grid_at (g.D.DocReader.document l.tables) l.table).columns - l.index
