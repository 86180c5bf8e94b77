use Rattle.std.proofs.Common.{List, [], ◌∷◌, map, refl, sym, ap, subst, ◌∙◌}
use Rattle.cell_types.specs.declared.value.CellValue.{CellValue}
use Rattle.cell_types.specs.declared.value.CellValue.TheVariants.{Text}
use Rattle.doc_model.specs.declared.column.ColDef.{ColDef}
use Rattle.doc_model.specs.Document.{Table, table_row}
use Rattle.doc_model.specs.Grid.{Grid}
use Rattle.doc_model.specs.NewDocument.{no_rows}
use Rattle.doc_model.specs.Schema.{tables_columns}
use Rattle.column_store.specs.Changes.{told_fits, told_grid}
use Rattle.column_store.proofs.ComeLaws.{come_fits, come_grid, each_of, once_ascending, tables_distinct}
use Rattle.column_store.proofs.schema.table_of_tables.Goals as goal

pub filled-requires : goal.filled-requires
filled-requires c =
    subst (λ cs. told_fits c.in_ok-told.told (no_rows cs)) (sym c.requires.columns)
    (come_fits table_row (λ (t : Table). Text t.id ∷ []) tables_columns c.in_ok-told.told c.args.plain.now c.in_ok-told.ensures tables_distinct
    (once_ascending (map table_row c.args.plain.now) c.requires.ascending) (each_of _ (λ t. refl) c.args.plain.now))

pub returns : goal.returns
returns c =
    let u : Table = c.args.table.now in
    c.in_ok-filled.ensures
    ∙ ap (λ (cs : List ColDef). let t : Table = record { id = u.id; row = u.row; grid = told_grid c.in_ok-told.told (no_rows cs) } in t) c.requires.columns
    ∙ ap (λ (g : Grid ColDef). let t : Table = record { id = u.id; row = u.row; grid = g } in t)
    (come_grid table_row (λ (t : Table). Text t.id ∷ []) tables_columns c.in_ok-told.told c.args.plain.now c.args.plain.now c.in_ok-told.ensures
    (once_ascending (map table_row c.args.plain.now) c.requires.ascending) c.requires.ascending (λ r. refl))
