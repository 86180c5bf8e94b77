use Rattle.renamed_documents.proofs.StepTables.{renaming_steps}
use Rattle.renamed_documents.proofs.laws.renaming_steps_law.Goals as goal

pub returns : goal.returns
returns c = renaming_steps
