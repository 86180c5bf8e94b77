-- Documents that show a user the same.
use Rattle.std.specs.Prelude.{◌≡◌}
use Rattle.doc_model.specs.declared.user.User.{User}
use Rattle.doc_model.specs.Document.{Document}
use Rattle.doc_model.specs.DocumentLaws.{IsWhole}
use Rattle.rule_audit.specs.Closed.{IsClosed}
use Rattle.rule_contexts.specs.Context.{context, view}

-- two whole documents that show a closed user the same, under the same rules
pub record SeeAlike (user : User) (s t : Document) : Type 0 where
  pub whole : IsWhole s
  pub other : IsWhole t
  pub contexts : context user s ≡ context user t
  pub views : view user s ≡ view user t
  pub closed : IsClosed (context user s) (view user s)
