use Rattle.std.proofs.Common.{sym, ap, drop, length, ◌-◌, ◌∙◌}
use Rattle.doc_model.specs.Document.{Table}
use Rattle.doc_model.specs.Schema.{all_columns, in_order}
use Rattle.row_tables.specs.Spots.{columns_of, put_all}
use Rattle.row_tables.proofs.Indexes.{drop_back}
use Rattle.row_tables.proofs.SpotLaws.{put_all-in_order}
use Rattle.row_tables.proofs.described.columns_in_order.Goals as goal

pub loop-passed-preserved : goal.loop-passed-preserved
loop-passed-preserved c =
    let t : Table = c.index-plain-plain.result in
    c.in_ok-put_columns.ensures ∙ ap (put_all (columns_of t.row t.grid.columns)) c.loop-passed.invariant
    ∙ put_all-in_order (columns_of t.row t.grid.columns) (all_columns (drop (length c.args.plain.now - c.loop-passed.passed) c.args.plain.now))
    ∙ ap (λ ts. in_order (all_columns ts)) (sym (drop_back c.args.plain.now c.loop-passed.passed t c.loop-passed-test.true c.index-plain-plain.is))
