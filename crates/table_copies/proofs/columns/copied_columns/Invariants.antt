use Rattle.std.proofs.Common.{◌≡◌, ◌-◌, length, map, take}
use Rattle.doc_model.specs.declared.column.ColDef.{ColDef}
use Rattle.doc_model.specs.Column.{column_id}
use Rattle.doc_model.specs.Grid.{cell}
use Rattle.doc_readers.specs.Parts.{grid_at}
use Rattle.table_copies.specs.declared.columns.CopiedColumn.{CopiedColumn}
use Rattle.table_copies.proofs.columns.copied_columns.Given as goal

-- the columns so far, each with its cells
abbrev pub invariant-loop-column : goal.invariant-loop-column
invariant-loop-column g l =
    (map (λ (c : CopiedColumn). c.column) l.columns.items ≡ take l.index (grid_at (g.D.DocReader.document l.tables) l.table).columns)
    × (map (λ (c : CopiedColumn). c.cells.items) l.columns.items
    ≡ map (λ (d : ColDef). map (cell column_id (grid_at (g.D.DocReader.document l.tables) l.table) (column_id d)) l.rows) (take l.index (grid_at (g.D.DocReader.document l.tables) l.table).columns))

abbrev pub decreases-loop-column : goal.decreases-loop-column
decreases-loop-column g l = length (grid_at (g.D.DocReader.document l.tables) l.table).columns - l.index
