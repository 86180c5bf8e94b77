use Rattle.doc_model.specs.DocumentLaws.{IsWhole}
use Rattle.document_tests.proofs.tests.go_and_come.Given as goal

-- the document stays whole
abbrev pub invariant-loop-row : goal.invariant-loop-row
invariant-loop-row l = IsWhole l.document
