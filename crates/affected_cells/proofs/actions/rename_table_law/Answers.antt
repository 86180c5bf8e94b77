use Rattle.affected_cells.proofs.RenamedTable.{rename_table_law}
use Rattle.affected_cells.proofs.actions.rename_table_law.Goals as goal

pub returns : goal.returns
returns c = rename_table_law
