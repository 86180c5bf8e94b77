use Rattle.affected_cells.proofs.ModifiedColumn.{modify_column_law}
use Rattle.affected_cells.proofs.actions.modify_column_law.Goals as goal

pub returns : goal.returns
returns c = modify_column_law
