use Rattle.affected_cells.proofs.AddedTable.{add_table_law}
use Rattle.affected_cells.proofs.actions.add_table_law.Goals as goal

pub returns : goal.returns
returns c = add_table_law
