use Rattle.std.proofs.Common.{ap, ◌∙◌}
use Rattle.doc_model.specs.declared.column.ColDef.{ColDef}
use Rattle.doc_model.specs.Document.{Table, on_grid}
use Rattle.doc_model.specs.Grid.{Grid}
use Rattle.row_tables.specs.InPlace.{on_rows, written}
use Rattle.row_tables.proofs.WrittenLaws.{updated}
use Rattle.column_store.proofs.table.ColumnTable.write_values.Goals as goal

pub returns-clause-ok : goal.returns-clause-ok
returns-clause-ok c =
    let t : Table = c.args.self.now in
    c.write_all.ensures.done ∙ ap (λ ws. on_grid (on_rows (λ rows. rows) (written ws)) t) c.in_ok-writes.ensures
    ∙ ap (λ (g : Grid ColDef). let u : Table = record { id = t.id; row = t.row; grid = g } in u) (updated t.grid c.requires c.args.rows.now c.args.given.now)
