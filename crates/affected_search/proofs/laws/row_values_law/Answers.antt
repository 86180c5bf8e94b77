use Rattle.affected_search.proofs.RowValueLaws.{row_values_law}
use Rattle.affected_search.proofs.laws.row_values_law.Goals as goal

pub returns : goal.returns
returns c = row_values_law
