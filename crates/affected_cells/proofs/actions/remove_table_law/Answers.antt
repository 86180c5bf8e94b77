use Rattle.affected_cells.proofs.RemovedTable.{remove_table_law}
use Rattle.affected_cells.proofs.actions.remove_table_law.Goals as goal

pub returns : goal.returns
returns c = remove_table_law
