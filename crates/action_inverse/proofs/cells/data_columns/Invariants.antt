use Rattle.std.proofs.Common.{◌≡◌, not, map, filter, take}
use Rattle.doc_model.specs.declared.column.ColDef.{ColDef}
use Rattle.doc_model.specs.Column.{column_id}
use Rattle.doc_model.specs.Records.{column_of}
use Rattle.doc_readers.specs.Parts.{grid_at}
use Rattle.action_inverse.proofs.cells.data_columns.Given as goal

-- the cells of the data columns so far
abbrev pub invariant-loop-column : goal.invariant-loop-column
invariant-loop-column g l =
    l.data.items
    ≡ map (λ (d : ColDef). column_of column_id (grid_at (g.D.DocReader.document l.tables) l.table) l.rows d.id)
    (filter (λ (d : ColDef). not d.info.is_formula) (take l.column-index l.columns))
