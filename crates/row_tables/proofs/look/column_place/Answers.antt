use Rattle.std.proofs.Common.{sym, ap, ◌∙◌, drop, arith}
use Rattle.std.proofs.lemmas.List.{drop_all}
use Rattle.std.specs.Str.{bytes_eq}
use Rattle.doc_model.specs.Column.{column_id}
use Rattle.row_tables.specs.Kept.{found_beside}
use Rattle.row_tables.proofs.Walks.{found_at, found_skip}
use Rattle.row_tables.proofs.look.column_place.Goals as goal

pub loop-index-preserved : goal.loop-index-preserved
loop-index-preserved c cells =
    found_skip (λ d. bytes_eq (column_id d) c.args.id.now) c.args.columns.now cells c.loop-index.index c.index-columns-index.result c.loop-index-test.true
    c.index-columns-index.is
    (sym c.is_same_id.ensures ∙ c.if-is_same_id.false)
    ∙ c.loop-index.invariant cells

pub returns-then-is_same_id : goal.returns-then-is_same_id
returns-then-is_same_id c cells =
    found_at (λ d. bytes_eq (column_id d) c.args.id.now) c.args.columns.now cells c.loop-index.index c.index-columns-index.result c.loop-index-test.true
    c.index-columns-index.is
    (sym c.is_same_id.ensures ∙ c.if-is_same_id.true)
    ∙ c.loop-index.invariant cells

pub returns : goal.returns
returns c cells =
    sym (ap (λ ks. found_beside (λ d. bytes_eq (column_id d) c.args.id.now) ks (drop c.loop-index.index cells)) (drop_all c.loop-index.index c.args.columns.now (omega arith)))
    ∙ c.loop-index.invariant cells
