use Rattle.std.proofs.Common.{◌∙◌, ap, get_or, map, unwrap_or}
use Rattle.doc_model.specs.Rows.{has}
use Rattle.doc_readers.specs.Parts.{grid_at}
use Rattle.censored_view.specs.Readable.{row_of}
use Rattle.action_censor.specs.Back.{grid_back}
use Rattle.action_censor.specs.Step.{step_of}
use Rattle.action_censor.specs.Touched.{first_there}
use Rattle.action_censor.specs.TouchedTables.{kept_row}
use Rattle.action_censor.proofs.CellLemmas.{old_next}
use Rattle.action_censor.proofs.RowLemmas.{first_there-has, kept_next}
use Rattle.action_censor.proofs.old_rows.old_rows.Goals as goal

pub loop-row-preserved : goal.loop-row-preserved
loop-row-preserved g c =
    let ks = map step_of c.args.steps.now in
    let t = c.args.table.now in
    let its = grid_at (g.D.DocReader.document c.args.tables.now) t in
    let r = get_or c.args.touched.now c.loop-row.row-index 0 in
    let now = c.holds_row-is_there.result in
    kept_next (has (grid_back ks t its).rows) (row_of (grid_back ks t its)) c.args.touched.now c.loop-row.row-index
    (map kept_row c.loop-row.rows.items) (map kept_row c.add_old_row.new.rows.items) c.loop-row-test.true c.loop-row.invariant
    (old_next ks t its r c.cells_of-cells.result.now c.was_there-there.result (map kept_row c.loop-row.rows.items) (map kept_row c.add_old_row.new.rows.items)
    (c.cells_of-cells.ensures ∙ c.in_ok-told.ensures r)
    (c.was_there-there.ensures ∙ ap (λ o. unwrap_or o now) (c.in_ok-before.ensures r)
    ∙ ap (unwrap_or (first_there ks t r)) (c.holds_row-is_there.ensures ∙ ap (λ l. has l r) c.rows_in.ensures.value)
    ∙ first_there-has ks t its.rows r)
    c.in_ok-add_old_row.ensures.rows)
