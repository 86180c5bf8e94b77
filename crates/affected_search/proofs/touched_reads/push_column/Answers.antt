use Rattle.std.proofs.Common.{sym, ◌∙◌}
use Rattle.doc_readers.specs.Parts.{grid_at}
use Rattle.affected_search.specs.Touches.{tells}
use Rattle.affected_search.proofs.TouchedWalk.{unread_cells}
use Rattle.affected_search.proofs.touched_reads.push_column.Goals as goal

pub returns-in_default : goal.returns-in_default
returns-in_default g c =
    unread_cells (tells c.args.touches.now) c.args.graph.now c.args.table.now (grid_at (g.R.DocReader.document c.args.tables.now) c.args.table.now) c.args.column.now c.args.found.now
    (sym c.column_number.ensures ∙ c.in_default.is)
