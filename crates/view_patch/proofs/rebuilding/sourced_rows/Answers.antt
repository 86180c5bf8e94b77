use Rattle.std.proofs.Common.{map, rules, ◌∙◌}
use Rattle.doc_model.specs.Changes.{grid}
use Rattle.plain_view.specs.Cells.{row_cells}
use Rattle.view_patch.specs.Given.{last_row}
use Rattle.view_patch.specs.Sources.{sourced_cell}
use Rattle.view_patch.proofs.rebuilding.sourced_rows.Goals as goal

pub returns : goal.returns
returns c = c.from.ensures ∙ c.in_ok-cells.ensures (λ r. map (sourced_cell (row_cells (grid c.args.table.now) r) c.args.given.now.columns.now (last_row c.args.given.now.rows.now r)) c.args.sources.now) (λ x y r. search rules)
