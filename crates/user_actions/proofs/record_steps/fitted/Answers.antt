use Rattle.std.proofs.Common.{◌≡◌, ◌∙◌, Some, List, ℕ, ap, map, rules}
use Rattle.cell_types.specs.declared.value.CellValue.{CellValue}
use Rattle.cell_types.specs.Conversion.{fit}
use Rattle.doc_model.specs.declared.column.CellColumn.{CellColumn}
use Rattle.doc_model.specs.ByIds.{find_id}
use Rattle.doc_model.specs.Column.{column_id}
use Rattle.doc_readers.specs.Parts.{grid_at}
use Rattle.user_actions.proofs.FittedLemmas.{fitted_found}
use Rattle.user_actions.proofs.record_steps.fitted.Goals as goal

pub returns : goal.returns
returns g c =
    let s = g.D.DocReader.document c.args.tables.now in
    let found : find_id column_id c.args.column.now.id (grid_at s c.args.table.now).columns ≡ Some c.in-Some.known.now = search rules in
    let ids : c.in_ok-id.id ≡ c.in-Some.known.now.id = search rules in
    let values : c.in_ok-values.values ≡ map (fit c.in-Some.known.now.info.ty) c.args.column.now.values = search rules in
    ap (λ (id : List ℕ). let x : CellColumn = record { id = id; values = c.in_ok-values.values } in x) ids
    ∙ ap (λ (vs : List CellValue). let x : CellColumn = record { id = c.in-Some.known.now.id; values = vs } in x) values
    ∙ fitted_found (grid_at s c.args.table.now) c.args.column.now c.in-Some.known.now found
