use Rattle.renamed_values.proofs.PlainNameLemmas.{formula_plain}
use Rattle.renamed_values.proofs.laws.plain_names_law.Goals as goal

pub returns : goal.returns
returns c = formula_plain
