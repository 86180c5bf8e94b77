use Rattle.renamed_rules.proofs.RowLemmas.{following_rows}
use Rattle.renamed_rules.proofs.laws.following_rows_law.Goals as goal

pub returns : goal.returns
returns c = following_rows
