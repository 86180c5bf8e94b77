use Rattle.std.proofs.Common.{◌≡◌, ◌≤◌, List, OnOk, insert, length, sym, ap, subst, ◌∙◌, arith}
use Rattle.doc_model.specs.Apply.{new_table}
use Rattle.doc_model.specs.Document.{Table, table_row, put_by_row}
use Rattle.row_tables.specs.Steps.{table_index}
use Rattle.row_tables.proofs.StepLaws.{table_within, put_by_row-table_index}
use Rattle.column_store.proofs.plain_change.add_table.Goals as goal

pub insert_table-requires : goal.insert_table-requires
insert_table-requires c =
    let within : table_index c.args.row c.deref.result.now ≤ length c.deref.result.now = table_within c.args.row c.deref.result.now in
    omega (arith, c.index_by_row-index.ensures, c.deref.ensures.len)

pub returns-clause-done : goal.returns-clause-done
returns-clause-done c =
    let s : List Table = c.args.tables.now.items in
    let new : Table = new_table c.args.id.now c.args.row c.args.columns.now in
    let at : insert s c.index_by_row-index.result c.in_ok-new.new ≡ put_by_row table_row new s
    = ap (insert s c.index_by_row-index.result) c.in_ok-new.ensures
    ∙ ap (λ i. insert s i new) (c.index_by_row-index.ensures ∙ ap (table_index c.args.row) c.deref.ensures.value)
    ∙ sym (put_by_row-table_index new s) in
    subst (λ z. OnOk c.insert_table.result (c.insert_table.new.tables.items ≡ z)) at c.insert_table.ensures.done
