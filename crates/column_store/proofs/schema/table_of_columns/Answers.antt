use Rattle.std.proofs.Common.{List, map, refl, sym, ap, subst, ◌∙◌}
use Rattle.doc_model.specs.declared.column.ColDef.{ColDef}
use Rattle.doc_model.specs.Document.{Table}
use Rattle.doc_model.specs.Grid.{Grid}
use Rattle.doc_model.specs.NewDocument.{no_rows}
use Rattle.doc_model.specs.Schema.{Described, all_columns, columns_columns, describe, described_row, in_order}
use Rattle.doc_model.proofs.DescribedRows.{described-in_order}
use Rattle.doc_model.proofs.SchemaLaws.{IsAscending-in_order}
use Rattle.column_store.specs.Changes.{told_fits, told_grid}
use Rattle.column_store.proofs.ComeLaws.{come_fits, come_grid, columns_distinct, each_of}
use Rattle.column_store.proofs.schema.table_of_columns.Goals as goal

pub filled-requires : goal.filled-requires
filled-requires c =
    subst (λ cs. told_fits c.in_ok-told.told (no_rows cs)) (sym c.requires.columns)
    (come_fits described_row describe columns_columns c.in_ok-told.told (all_columns c.args.plain.now) c.in_ok-told.ensures columns_distinct
    c.requires.once (each_of _ (λ e. refl) (all_columns c.args.plain.now)))

pub returns : goal.returns
returns c =
    let u : Table = c.args.table.now in
    let es : List Described = all_columns c.args.plain.now in
    c.in_ok-filled.ensures
    ∙ ap (λ (cs : List ColDef). let t : Table = record { id = u.id; row = u.row; grid = told_grid c.in_ok-told.told (no_rows cs) } in t) c.requires.columns
    ∙ ap (λ (g : Grid ColDef). let t : Table = record { id = u.id; row = u.row; grid = g } in t)
    (come_grid described_row describe columns_columns c.in_ok-told.told es (in_order es) c.in_ok-told.ensures c.requires.once (IsAscending-in_order es) (described-in_order es))
