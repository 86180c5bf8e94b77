use Rattle.std.proofs.Common.{subst}
use Rattle.affected_values.specs.Carried.{HasCellsOfColumn}
use Rattle.affected_values.proofs.FormulaCells.{column_pushed, on_ok_3}
use Rattle.affected_values.proofs.altered_cells.push_of_column.Goals as goal

pub returns-in-Some : goal.returns-in-Some
returns-in-Some g c =
    let s = g.D.DocReader.document c.args.tables.now in
    let old = c.args.cells.now.items in
    let new = c.push_where.new.cells.items in
    on_ok_3 _ _ _ _ c.push_where.result
    (λ stays pushed only. column_pushed s old new stays c.args.table.now c.args.column.now c.in-Some.found.now c.in-Some.ensures
    (subst (λ rows. HasCellsOfColumn c.args.table.now rows new c.in-Some.found.now) c.rows_in.ensures.value pushed) only)
    c.push_where.ensures.stays c.push_where.ensures.pushed c.push_where.ensures.only
