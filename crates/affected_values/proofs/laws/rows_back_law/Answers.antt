use Rattle.affected_values.proofs.RowsOver.{rows_back}
use Rattle.affected_values.proofs.laws.rows_back_law.Goals as goal

pub returns : goal.returns
returns c = rows_back
