use Rattle.affected_cells.proofs.RowsLaw.{rows_law}
use Rattle.affected_cells.proofs.actions.rows_law.Goals as goal

pub returns : goal.returns
returns c = rows_law
