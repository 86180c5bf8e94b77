use Rattle.audited_columns.proofs.InfoLemmas.{column_told}
use Rattle.audited_columns.proofs.laws.columns_law.Goals as goal

pub returns : goal.returns
returns c = column_told
