use Rattle.std.proofs.Common.{◌∙◌}
use Rattle.row_tables.proofs.look.cell_in_row.Goals as goal

pub returns : goal.returns
returns c = c.cell_at_place.ensures ∙ c.column_place.ensures c.args.cells.now
