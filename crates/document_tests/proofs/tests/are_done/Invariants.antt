use Rattle.doc_model.specs.DocumentLaws.{IsWhole}
use Rattle.document_tests.proofs.tests.are_done.Given as goal

-- the document stays whole
abbrev pub invariant-loop-action : goal.invariant-loop-action
invariant-loop-action l = IsWhole l.document
