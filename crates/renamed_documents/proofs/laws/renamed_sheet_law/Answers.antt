use Rattle.renamed_documents.proofs.RenamedSheets.{renamed_sheet}
use Rattle.renamed_documents.proofs.laws.renamed_sheet_law.Goals as goal

pub returns : goal.returns
returns c = renamed_sheet
