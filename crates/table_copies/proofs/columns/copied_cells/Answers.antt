use Rattle.std.proofs.Common.{rules, ◌≡◌, Option, Bor, map, unwrap_or, ap, ◌∙◌}
use Rattle.std.proofs.lemmas.Result.{IfOk-weaker}
use Rattle.std.specs.Option.{option_copied}
use Rattle.cell_types.specs.declared.value.CellValue.{CellValue}
use Rattle.cell_types.specs.declared.value.CellValue.TheVariants.{Null}
use Rattle.doc_model.specs.Column.{column_id}
use Rattle.doc_model.specs.Grid.{cell}
use Rattle.doc_model.proofs.Choices.{map-map}
use Rattle.doc_readers.specs.Parts.{grid_at}
use Rattle.table_copies.proofs.ColumnLemmas.{cells_told}
use Rattle.table_copies.proofs.columns.copied_cells.Goals as goal

pub returns : goal.returns
returns g c =
    let s = g.D.DocReader.document c.args.tables.now in
    let id = c.args.table.now in
    let made : Option (Bor CellValue) → CellValue = λ o. unwrap_or (option_copied o) Null in
    let told = c.in_ok-told.told.items in
    IfOk-weaker c.all_made.result (λ v. v.items ≡ map made c.as_slice.result.now) (λ v. v.items ≡ map (cell column_id (grid_at s id) c.args.column.now) c.args.rows.now)
    (λ v is. is ∙ ap (map made) c.as_slice.ensures.value ∙ map-map (λ (o : Option CellValue). unwrap_or o Null) option_copied told
    ∙ cells_told s id c.args.column.now c.args.rows.now (map option_copied told) c.in_ok-told.ensures)
    (c.all_made.ensures made (λ x y r. search rules))
