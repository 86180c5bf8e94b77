use Rattle.renamed_documents.proofs.TypedDocuments.{typed_document}
use Rattle.renamed_documents.proofs.laws.typed_document_law.Goals as goal

pub returns : goal.returns
returns c = typed_document
