use Rattle.std.proofs.Common.{reverse, sym, ◌∙◌}
use Rattle.recalc.proofs.Turns.{on_ok}
use Rattle.affected_values.proofs.RowCellLemmas.{has_reverse, pushed_only, pushed_rows, pushed_stays, pushed_there}
use Rattle.affected_values.proofs.row_cells.push_where.Goals as goal

pub returns-clause-stays : goal.returns-clause-stays
returns-clause-stays c =
    on_ok _ _ c.push_column_cells.result (pushed_stays c.args.cells.now.items c.push_column_cells.new.cells.items c.args.table.now c.args.column.now.id (reverse c.args.rows.now)) c.push_column_cells.ensures

pub returns-clause-pushed : goal.returns-clause-pushed
returns-clause-pushed c =
    on_ok _ _ c.push_column_cells.result (λ is _ r h. pushed_there c.args.cells.now.items c.push_column_cells.new.cells.items c.args.table.now c.args.column.now.id (reverse c.args.rows.now) is r (has_reverse c.args.rows.now r ∙ h)) c.push_column_cells.ensures

pub returns-clause-only : goal.returns-clause-only
returns-clause-only c =
    on_ok _ _ c.push_column_cells.result (pushed_only c.args.cells.now.items c.push_column_cells.new.cells.items c.args.table.now c.args.column.now.id (reverse c.args.rows.now)) c.push_column_cells.ensures

pub returns-clause-rows : goal.returns-clause-rows
returns-clause-rows c =
    on_ok _ _ c.push_column_cells.result (λ is d h isnt. sym (has_reverse c.args.rows.now d.row) ∙ pushed_rows c.args.cells.now.items c.push_column_cells.new.cells.items c.args.table.now c.args.column.now.id (reverse c.args.rows.now) is d h isnt) c.push_column_cells.ensures
