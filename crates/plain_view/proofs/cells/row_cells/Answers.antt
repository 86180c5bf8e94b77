use Rattle.std.proofs.Common.{[], sym, ap, ◌∙◌}
use Rattle.doc_model.specs.Rows.{has}
use Rattle.plain_view.proofs.RowIndexes.{found_cells, beside_absent}
use Rattle.plain_view.proofs.cells.row_cells.Goals as goal

pub returns-in-Some : goal.returns-in-Some
returns-in-Some c =
    found_cells c.args.table.now.rows c.as_slice.result.now c.args.table.now.cells c.as_slice-in-Some.result.now c.args.row c.in-Some.index c.index-as_slice-index.result c.as_slice-in-Some-2.result.now
    c.requires.is_grid.ascending c.as_slice.ensures c.as_slice-in-Some.ensures c.in-Some.ensures c.requires.is_grid.height c.index-as_slice-index.is c.as_slice-in-Some-2.ensures

pub returns-in-None : goal.returns-in-None
returns-in-None c = sym (beside_absent c.args.table.now.rows c.args.table.now.cells [] c.args.row (ap (λ rows. has rows c.args.row) (sym c.as_slice.ensures) ∙ c.in-None.ensures))
