use Rattle.affected_cells.proofs.RenamedColumn.{rename_column_law}
use Rattle.affected_cells.proofs.actions.rename_column_law.Goals as goal

pub returns : goal.returns
returns c = rename_column_law
