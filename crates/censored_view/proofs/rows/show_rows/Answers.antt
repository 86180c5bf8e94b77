use Rattle.std.proofs.Common.{◌≡◌, ◌∙◌, ◌++◌, ◌∷◌, [], List, ap, cond, map}
use Rattle.doc_model.specs.declared.view.ViewCol.{ViewCol}
use Rattle.censored_view.specs.Ruled.{columns_in}
use Rattle.censored_view.specs.View.{is_row_shown, shown_value}
use Rattle.censored_view.proofs.RowWalk.{cells_next, rows_next}
use Rattle.censored_view.proofs.rows.show_rows.Goals as goal

pub loop-row-preserved : goal.loop-row-preserved
loop-row-preserved g c =
    let x = g.X.Lets.lets c.args.ctx.now c.args.table.now in
    let row = g.W.RowReader.told c.row-item.result in
    let same : columns_in c.in_ok-ruled.ruled.columns.items ≡ c.args.columns.now = c.in_ok-ruled.ensures.columns in (
      rows_next g.W.RowReader.told x c.args.table.now c.args.columns.now c.args.rows.now c.loop-row.row-index c.row-item.result c.loop-row-test.true c.row-item.is
          c.loop-row.shown.rows.items c.show_row.new.shown.rows.items c.loop-row.invariant.0
          (c.in_ok-show_row.ensures.rows ∙ ap (λ (ds : List ViewCol). c.loop-row.shown.rows.items ++ cond (is_row_shown x ds row) (row.id ∷ []) []) same),
      cells_next g.W.RowReader.told x c.args.table.now c.args.columns.now c.args.rows.now c.loop-row.row-index c.row-item.result c.loop-row-test.true c.row-item.is
          c.loop-row.shown.cells.items c.show_row.new.shown.cells.items c.loop-row.invariant.1
          (c.in_ok-show_row.ensures.cells ∙ ap (λ (ds : List ViewCol). c.loop-row.shown.cells.items ++ cond (is_row_shown x ds row) (map (shown_value x row) ds ∷ []) []) same),
    )
