use Rattle.std.proofs.Common.{sym, ap, ◌∙◌}
use Rattle.doc_model.specs.Column.{column_row}
use Rattle.doc_model.specs.Document.{by_row, put_by_row}
use Rattle.row_tables.proofs.Indexes.{drop_back}
use Rattle.column_store.proofs.plain_change.columns_by_row.Goals as goal

pub loop-passed-preserved : goal.loop-passed-preserved
loop-passed-preserved c =
    c.in_ok-put_column.ensures ∙ ap (λ d. put_by_row column_row d c.loop-passed.sorted.items) c.in_ok-column.ensures
    ∙ ap (put_by_row column_row c.index-columns-columns.result) c.loop-passed.invariant
    ∙ ap (by_row column_row) (sym (drop_back c.args.columns.now c.loop-passed.passed c.index-columns-columns.result c.loop-passed-test.true c.index-columns-columns.is))
