use Rattle.affected_cells.proofs.AddedColumn.{add_column_law}
use Rattle.affected_cells.proofs.actions.add_column_law.Goals as goal

pub returns : goal.returns
returns c = add_column_law
