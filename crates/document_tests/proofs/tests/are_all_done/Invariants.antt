use Rattle.doc_model.specs.DocumentLaws.{IsWhole}
use Rattle.document_tests.proofs.tests.are_all_done.Given as goal

-- the document stays whole
abbrev pub invariant-loop-change : goal.invariant-loop-change
invariant-loop-change l = IsWhole l.document
