-- What the refusal of a user action rests on, and what it tells of documents.
use Rattle.std.specs.Prelude.{ℕ, true, List, ◌≡◌, None}
use Rattle.doc_model.specs.declared.user_action.UserAction.{UserAction}
use Rattle.doc_model.specs.declared.view.ViewTable.{ViewTable}
use Rattle.doc_model.specs.Document.{Document}
use Rattle.doc_model.specs.LaidOut.{HaveSameParts, IsLaidOut}
use Rattle.user_actions.specs.Allowed.{is_allowed}
use Rattle.user_objections.specs.Objections.{objection_to}
use Rattle.censored_view.specs.Readable.{Readable}
use Rattle.censored_view.specs.View.{view}
use Rattle.view_refusals.specs.Parts.{requested_part}

-- what stands against a user action rests on the tables and the rows alone that it asks for
abbrev pub RequestedLaw : Type 0
RequestedLaw = (v : List ViewTable) (a : UserAction) → objection_to (requested_part a v) a
    ≡ objection_to v a

-- a document allows what nothing stands against in what any context shows of it, or of what it
-- evaluates to: that has the same tables, columns and rows
abbrev pub AllowedLaw : Type 0
AllowedLaw =
    (x : List ℕ → Readable) (s t : Document) (a : UserAction) → HaveSameParts s t → IsLaidOut t
    → objection_to (view x t) a ≡ None
    → is_allowed s a ≡ true
