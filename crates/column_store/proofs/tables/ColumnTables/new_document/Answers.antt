use Rattle.std.proofs.Common.{sym, subst}
use Rattle.doc_model.specs.DocumentLaws.{IsWhole}
use Rattle.doc_model.proofs.NewDocumentLaws.{IsWhole-new_document}
use Rattle.column_store.proofs.tables.ColumnTables.new_document.Goals as goal

pub invariant_of-result : goal.invariant_of-result
invariant_of-result c = subst IsWhole (sym c.in_ok-tables.ensures) IsWhole-new_document
