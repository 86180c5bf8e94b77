-- The rows of an action on records, for which indexes are left on its way back.
use Rattle.std.proofs.Common.{true, Option, Some, None, IfSome, ◌≡◌}
use Rattle.doc_model.specs.declared.action.DocAction.{DocAction}
use Rattle.doc_model.specs.Apply.{apply}
use Rattle.doc_model.specs.Document.{Document}
use Rattle.doc_model.specs.Valid.{valid}
use Rattle.evaluated_doc.specs.declared.indexing.GoneRows.{GoneRows}
use Rattle.evaluated_doc.specs.Gone.{IsGone, IsRemovalOf}

pub is_gone : (s now : Document) (a : DocAction) (o : Option GoneRows) → valid s a ≡ true → now ≡ apply s a → IfSome o (λ gone. IsRemovalOf a gone.removal) → IsGone s now o
is_gone s now a None ok done of = tt
is_gone s now a (Some gone) ok done of = (a, ok, done, of)
