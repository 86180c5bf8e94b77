use Rattle.doc_model.proofs.NewDocumentLaws.{IsWhole-new_document}
use Rattle.doc_model.proofs.laws.new_document_law.Goals as goal

pub returns : goal.returns
returns c = IsWhole-new_document
