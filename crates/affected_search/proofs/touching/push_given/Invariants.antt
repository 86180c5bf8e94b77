use Rattle.std.proofs.Common.{map, take}
use Rattle.doc_model.specs.declared.column.CellColumn.{CellColumn}
use Rattle.affected_cells.specs.Touched.{cells_written}
use Rattle.affected_search.specs.Touches.{AddsTouches}
use Rattle.affected_search.proofs.touching.push_given.Given as goal

-- the cells of the columns so far
abbrev pub invariant-loop-column : goal.invariant-loop-column
invariant-loop-column l =
    AddsTouches l.graph.names (map (λ (k : CellColumn). cells_written l.table k.id l.rows) (take l.column-index l.columns)) l.initial.touches.items l.touches.items
