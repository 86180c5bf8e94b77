use Rattle.affected_values.proofs.RowsOver.{rows_left}
use Rattle.affected_values.proofs.laws.rows_left_law.Goals as goal

pub returns : goal.returns
returns c = rows_left
