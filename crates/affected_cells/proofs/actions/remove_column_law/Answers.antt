use Rattle.affected_cells.proofs.RemovedColumn.{remove_column_law}
use Rattle.affected_cells.proofs.actions.remove_column_law.Goals as goal

pub returns : goal.returns
returns c = remove_column_law
