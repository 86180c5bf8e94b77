use Rattle.affected_values.proofs.RowsOver.{leads_over_rows}
use Rattle.affected_values.proofs.laws.leads_over_rows_law.Goals as goal

pub returns : goal.returns
returns c = leads_over_rows
