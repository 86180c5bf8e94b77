use Rattle.std.proofs.Common.{◌≤◌, insert, length, sym, ap, ◌∙◌, arith}
use Rattle.doc_model.specs.Indexes.{column_index}
use Rattle.doc_model.proofs.ByRowLaws.{put_by_row-column_index}
use Rattle.row_tables.proofs.Indexes.{index_within}
use Rattle.column_store.proofs.plain_change.put_column.Goals as goal

pub insert-requires : goal.insert-requires
insert-requires c =
    let within : column_index c.args.column.row c.deref.result.now ≤ length c.deref.result.now = index_within c.args.column.row c.deref.result.now in
    omega (arith, c.index_of_column-index.ensures, c.deref.ensures.len)

pub returns : goal.returns
returns c =
    c.in_ok-insert.ensures.items
    ∙ ap (λ index. insert c.args.columns.now.items index c.args.column) (c.index_of_column-index.ensures ∙ ap (column_index c.args.column.row) c.deref.ensures.value)
    ∙ sym (put_by_row-column_index c.args.column c.args.columns.now.items)
