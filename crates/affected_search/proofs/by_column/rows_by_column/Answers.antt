use Rattle.std.proofs.Common.{get_or}
use Rattle.std.proofs.lemmas.List.{get_or_default}
use Rattle.affected_search.proofs.ColumnLaws.{no_rows, row_put}
use Rattle.affected_search.proofs.SearchLaws.{no_cell}
use Rattle.affected_search.proofs.by_column.rows_by_column.Goals as goal

pub loop-cell-init : goal.loop-cell-init
loop-cell-init c = no_rows c.new-rows.result c.new-rows.ensures

pub loop-cell-preserved : goal.loop-cell-preserved
loop-cell-preserved c =
    let i = c.loop-cell.cell-index in
    let cells = c.cells-cells.result.now in
    row_put c.loop-cell.rows c.insert.new.self cells i (get_or cells i no_cell) c.loop-cell-test.true (get_or_default cells i no_cell (get_or cells i no_cell) c.loop-cell-test.true) c.loop-cell.invariant c.in_ok-insert.ensures.ok
