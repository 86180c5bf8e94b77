use Rattle.std.proofs.Common.{refl, ◌∙◌}
use Rattle.doc_model.specs.Document.{Table}
use Rattle.row_tables.specs.InPlace.{beside_left, rows_left}
use Rattle.row_tables.proofs.TakenLaws.{taken_table}
use Rattle.column_store.proofs.table.ColumnTable.remove_rows.Goals as goal

pub returns-clause-ok : goal.returns-clause-ok
returns-clause-ok c =
    let t : Table = c.args.self.now in
    c.in_ok-take_rows.ensures.ok
    ∙ taken_table t c.args.gone.now (rows_left c.args.gone.now t.grid.rows) (beside_left c.args.gone.now t.grid.rows t.grid.cells) c.requires refl refl
