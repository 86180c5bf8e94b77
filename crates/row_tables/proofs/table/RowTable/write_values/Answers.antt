use Rattle.std.proofs.Common.{sym, ap, subst, ◌∙◌}
use Rattle.doc_model.specs.declared.column.ColDef.{ColDef}
use Rattle.doc_model.specs.Column.{column_id}
use Rattle.doc_model.specs.Document.{Table, on_grid}
use Rattle.doc_model.specs.Grid.{Grid, IsGrid}
use Rattle.doc_model.specs.Records.{update_rows}
use Rattle.row_tables.specs.contracts.table.RowTable.{the_view}
use Rattle.row_tables.specs.InPlace.{all_writes, written}
use Rattle.row_tables.proofs.WrittenLaws.{updated}
use Rattle.row_tables.proofs.table.RowTable.write_values.Goals as goal

pub returns-clause-ok : goal.returns-clause-ok
returns-clause-ok c =
    let t : Table = the_view c.self.inside in
    let grid : IsGrid column_id t.grid = subst (λ (t : Table). IsGrid column_id t.grid) (sym c.self.view_is) c.requires in
    ap (λ cells. let u : Table = record { id = t.id; row = t.row; grid = record { columns = t.grid.columns; rows = t.grid.rows; cells = cells } } in u)
    (c.swap_cells.ensures.done ∙ ap (λ ws. written ws t.grid.cells) (c.in_ok-writes.ensures ∙ ap (λ (u : Table). all_writes u.grid c.args.rows.now c.args.given.now) (sym c.self.view_is)))
    ∙ ap (λ (g : Grid ColDef). let u : Table = record { id = t.id; row = t.row; grid = g } in u) (updated t.grid grid c.args.rows.now c.args.given.now)
    ∙ ap (on_grid (update_rows column_id c.args.rows.now c.args.given.now)) c.self.view_is
