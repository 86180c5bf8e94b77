use Rattle.std.proofs.Common.{◌≡◌, ℕ, IfOk, ap, subst, ◌∙◌}
use Rattle.cell_types.specs.declared.value.CellValue.{CellValue}
use Rattle.doc_model.specs.declared.column.ColDef.{ColDef}
use Rattle.doc_model.specs.ByIds.{without_id}
use Rattle.doc_model.specs.Grid.{cell}
use Rattle.doc_model.specs.Column.{column_id}
use Rattle.doc_model.specs.Document.{Table}
use Rattle.row_tables.proofs.Built.{built, carried}
use Rattle.row_tables.proofs.table.RowTable.without_column.Goals as goal

pub returns : goal.returns
returns c =
    let from : Table → ColDef → ℕ → CellValue = λ t d r. cell column_id t.grid d.id r in
    let f : ColDef → ℕ → CellValue = from c.args.self.now in
    let P : Table → Type 0 = λ t. IfOk c.refilled.result (λ u. u ≡ built c.args.self.now c.in_ok-left.left.items c.in_ok-rows_copy.field-0.items (from t)) in
    carried (λ cs rs. IfOk c.refilled.result (λ t. t ≡ built c.args.self.now cs rs f)) c.in_ok-left.left.items (without_id column_id c.args.id.now c.args.self.now.grid.columns)
    c.in_ok-rows_copy.field-0.items c.args.self.now.grid.rows (c.in_ok-left.ensures ∙ ap (without_id column_id c.args.id.now) c.columns.ensures) c.in_ok-rows_copy.ensures (subst P c.of.ensures c.refilled.ensures)
