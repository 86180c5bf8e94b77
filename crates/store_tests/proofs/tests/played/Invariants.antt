use Rattle.doc_model.specs.DocumentLaws.{IsWhole}
use Rattle.store_tests.proofs.tests.played.Given as goal

-- both documents stay whole
abbrev pub invariant-loop-turn : goal.invariant-loop-turn
invariant-loop-turn l = IsWhole l.rows × IsWhole l.columns
