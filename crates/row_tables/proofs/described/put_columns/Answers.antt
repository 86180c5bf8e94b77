use Rattle.std.proofs.Common.{sym, ap, ◌∙◌}
use Rattle.doc_model.specs.Schema.{Described, put_described}
use Rattle.row_tables.specs.Spots.{columns_of, put_all}
use Rattle.row_tables.proofs.Indexes.{drop_back}
use Rattle.row_tables.proofs.described.put_columns.Goals as goal

pub loop-passed-preserved : goal.loop-passed-preserved
loop-passed-preserved c =
    let e : Described = record { parent = c.row-parent.result; column = c.index-columns-columns.result } in
    c.in_ok-put_described.ensures ∙ ap (λ d. put_described d c.loop-passed.sorted.items) c.in_ok-of.ensures ∙ ap (put_described e) c.loop-passed.invariant
    ∙ ap (λ ds. put_all (columns_of c.row-parent.result ds) c.args.sorted.now.items) (sym (drop_back c.columns-columns.result.now c.loop-passed.passed c.index-columns-columns.result c.loop-passed-test.true c.index-columns-columns.is))
