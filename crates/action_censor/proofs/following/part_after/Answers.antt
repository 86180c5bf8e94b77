use Rattle.std.proofs.Common.{◌∙◌, map, ap}
use Rattle.doc_readers.specs.Parts.{grid_at}
use Rattle.censored_view.specs.Rows.{row_told, rows_at}
use Rattle.censored_view.specs.View.{shown_columns, shown_rows}
use Rattle.action_censor.proofs.following.part_after.Goals as goal

pub returns : goal.returns
returns g c =
    let s = g.D.DocReader.document c.args.tables.now in
    let id = c.args.touched.now.id in
    let x = g.X.Lets.lets c.args.ctx.now id in
    c.in_ok-table.ensures
    ∙ ap (λ ds. shown_rows x id ds (map (row_told g.D.DocReader.document) c.as_slice-2.result.now)) c.in_ok-columns.ensures
    ∙ ap (λ l. shown_rows x id (shown_columns x (grid_at s id).columns) (map (row_told g.D.DocReader.document) l)) c.as_slice-2.ensures.value
    ∙ ap (shown_rows x id (shown_columns x (grid_at s id).columns)) (c.in_ok-rows.ensures ∙ ap (rows_at s id) c.as_slice.ensures.value)
