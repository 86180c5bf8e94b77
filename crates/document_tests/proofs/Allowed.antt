-- What may be done in a document.
use Rattle.std.proofs.Common.{◌≡◌, None, true, refl, List, ℕ}
use Rattle.doc_model.specs.declared.user_action.UserAction.{UserAction}
use Rattle.doc_model.specs.Document.{Document}
use Rattle.doc_model.specs.DocumentLaws.{IsWhole}
use Rattle.doc_model.proofs.LaidOutLaws.{laid_out}
use Rattle.user_actions.specs.Allowed.{is_allowed}
use Rattle.user_objections.specs.Objections.{objection_to}
use Rattle.censored_view.specs.Readable.{Readable, whole}
use Rattle.censored_view.specs.View.{view}
use Rattle.view_refusals.specs.RefusalLaws.{AllowedLaw}

-- a whole document allows what nothing stands against where everything is seen
pub allowed_here : AllowedLaw → (s : Document) (a : UserAction) → IsWhole s
    → objection_to (view (λ table. whole) s) a ≡ None → is_allowed s a ≡ true
allowed_here law s a is none = law (λ table. whole) s s a refl (laid_out s is) none
