use Rattle.affected_documents.proofs.SetLemmas.{kept_cells}
use Rattle.affected_documents.proofs.laws.kept_cells_law.Goals as goal

pub returns : goal.returns
returns c = kept_cells
