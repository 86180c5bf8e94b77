use Rattle.std.proofs.Common.{◌∙◌, ap, Option, ℕ}
use Rattle.std.specs.Str.{bytes_eq}
use Rattle.cell_types.specs.declared.value.CellValue.TheVariants.{Null}
use Rattle.doc_model.specs.declared.view.ViewCol.{ViewCol}
use Rattle.plain_view.specs.Cells.{value_in}
use Rattle.plain_view.proofs.CellIndexes.{beside_index}
use Rattle.user_objections.proofs.rule_rows.cell_of.Goals as goal

pub returns : goal.returns
returns c =
    c.in_ok-value.ensures ∙ c.value_in.ensures
    ∙ ap (λ (index : Option ℕ). value_in c.args.cells.now index Null) c.index_of-index.ensures
    ∙ beside_index (λ (d : ViewCol). bytes_eq d.id c.args.column.now) c.args.columns.now c.args.cells.now Null
