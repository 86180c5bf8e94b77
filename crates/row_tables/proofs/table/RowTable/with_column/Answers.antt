use Rattle.std.proofs.Common.{◌≡◌, ℕ, cond, IfOk, ap, subst, ◌∙◌}
use Rattle.std.specs.Str.{bytes_eq}
use Rattle.cell_types.specs.declared.value.CellValue.{CellValue}
use Rattle.doc_model.specs.declared.column.ColDef.{ColDef}
use Rattle.doc_model.specs.Grid.{cell}
use Rattle.doc_model.specs.Column.{column_id, column_row, start_of}
use Rattle.doc_model.specs.Document.{Table, put_by_row}
use Rattle.row_tables.proofs.Built.{built, carried}
use Rattle.row_tables.proofs.table.RowTable.with_column.Goals as goal

pub returns : goal.returns
returns c =
    let from : Table → ColDef → ℕ → CellValue = λ t d r. cond (bytes_eq d.id c.args.new.now.id) (start_of c.args.new.now) (cell column_id t.grid d.id r) in
    let f : ColDef → ℕ → CellValue = from c.args.self.now in
    let P : Table → Type 0 = λ t. IfOk c.refilled.result (λ u. u ≡ built c.args.self.now c.put_column.new.columns.items c.in_ok-rows_copy.field-0.items (from t)) in
    carried (λ cs rs. IfOk c.refilled.result (λ t. t ≡ built c.args.self.now cs rs f)) c.put_column.new.columns.items (put_by_row column_row c.args.new.now c.args.self.now.grid.columns)
    c.in_ok-rows_copy.field-0.items c.args.self.now.grid.rows
    (c.in_ok-put_column.ensures ∙ ap (λ d. put_by_row column_row d c.in_ok-columns.columns.items) c.in_ok-copy_of_column.ensures ∙ ap (put_by_row column_row c.args.new.now) c.in_ok-columns.ensures)
    c.in_ok-rows_copy.ensures (subst P c.of.ensures c.refilled.ensures)
