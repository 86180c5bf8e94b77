use Rattle.renamed_documents.proofs.RenamedFillings.{renamed_value}
use Rattle.renamed_documents.proofs.laws.renamed_value_law.Goals as goal

pub returns : goal.returns
returns c = renamed_value c.same_sheet_law.ensures.value c.renamed_sheet_law.ensures
