use Rattle.std.proofs.Common.{◌≡◌, map, take, unwrap_or}
use Rattle.doc_model.specs.declared.column.ColDef.{ColDef}
use Rattle.doc_model.specs.Column.{start_of}
use Rattle.doc_model.specs.Records.{given}
use Rattle.row_tables.proofs.added.cells_of_new.Given as goal

-- the cells of the rows so far
abbrev pub invariant-loop-index : goal.invariant-loop-index
invariant-loop-index l = l.lists.items ≡ map (λ r. map (λ (d : ColDef). unwrap_or (given l.rows l.values d.id r) (start_of d)) l.columns) (take l.index l.rows)
