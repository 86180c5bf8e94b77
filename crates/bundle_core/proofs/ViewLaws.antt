-- Views of a document, and the changes between them.
use Rattle.std.proofs.Common.{◌≡◌, []}
use Rattle.doc_model.specs.declared.user.User.{User}
use Rattle.doc_model.specs.Changes.{changes, IsView}
use Rattle.doc_model.specs.Document.{Document}
use Rattle.doc_model.specs.DocumentLaws.{IsWhole}
use Rattle.doc_model.proofs.ChangesLaws.{changes_none, changes_empty}
use Rattle.recalc.specs.Evaluated.{filled}
use Rattle.recalc.proofs.FilledLaws.{laid_out_law}
use Rattle.acl_reading.specs.RulesLet.{rules_let}
use Rattle.censored_view.proofs.ViewLemmas.{IsView-view}
use Rattle.rule_contexts.specs.Context.{context, view}

pub is_view : (user : User) (s : Document) → IsWhole s → IsView (view user s)
is_view user s w = IsView-view (rules_let (context user s)) (filled s) (laid_out_law s w)

-- what did not change shows no changes
pub changes-again : (user : User) (s : Document) → IsWhole s → changes (view user s) (view user s) ≡ []
changes-again user s w = changes_none (view user s) (is_view user s w)

-- what shows no changes did not change
pub same_view : (user : User) (s s' : Document) → IsWhole s → IsWhole s' → changes (view user s) (view user s') ≡ [] → view user s ≡ view user s'
same_view user s s' w w' e = changes_empty (view user s) (view user s') (is_view user s w) (is_view user s' w') e
