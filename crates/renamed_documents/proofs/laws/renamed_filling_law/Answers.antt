use Rattle.renamed_documents.proofs.RenamedFillings.{renamed_filling}
use Rattle.renamed_documents.proofs.laws.renamed_filling_law.Goals as goal

pub returns : goal.returns
returns c = renamed_filling c.renamed_value_law.ensures
