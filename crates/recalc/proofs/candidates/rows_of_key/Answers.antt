use Rattle.std.proofs.Common.{◌∙◌, sym, ap, subst}
use Rattle.lookup_index.specs.Under.{under}
use Rattle.recalc.specs.Indexes.{IsRowAlone}
use Rattle.recalc.specs.Sheet.{over}
use Rattle.recalc.proofs.NarrowedRows.{found_index, index_candidates, row_candidates}
use Rattle.recalc.proofs.candidates.rows_of_key.Goals as goal

pub returns-then-is_id : goal.returns-then-is_id
returns-then-is_id c s k there a =
    row_candidates (over s k) c.args.table.now c.args.key.now c.args.rows.now c.row_alone.result.now c.requires.whole (sym c.is_id.ensures ∙ c.if-is_id.true)
    (subst (λ q. IsRowAlone c.args.rows.now q c.row_alone.result.now) c.bucket_of-bucket.ensures c.row_alone.ensures)

pub returns : goal.returns
returns c s k there a =
    index_candidates s k c.args.table.now c.args.key.now c.args.rows.now c.rows_for.result.now c.in_ok-found.found.now.index c.requires.whole (sym c.is_id.ensures ∙ c.if-is_id.false) there
    (found_index s c.args.indexes.now c.args.table.now c.args.key.now.column c.in_ok-found.found.now a (sym c.in_ok-found.ensures))
    (c.rows_for.ensures.rows ∙ ap (under c.in_ok-found.found.now.index) c.bucket_of-bucket.ensures) c.rows_for.ensures.ascending
