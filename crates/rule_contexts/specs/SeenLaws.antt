-- What may be relied on of what contexts show.
use Rattle.std.specs.Prelude.{true, ◌≡◌, None}
use Rattle.doc_model.specs.declared.user_action.UserAction.{UserAction}
use Rattle.doc_model.specs.Changes.{IsView}
use Rattle.doc_model.specs.Document.{Document}
use Rattle.doc_model.specs.DocumentLaws.{IsWhole}
use Rattle.user_actions.specs.Allowed.{is_allowed}
use Rattle.user_objections.specs.Objections.{objection_to}
use Rattle.acl_rules.specs.declared.decision.Ctx.{Ctx}
use Rattle.acl_reading.specs.RulesLet.{rules_let}
use Rattle.action_censor.specs.FollowLaws.{HidesSchema}
use Rattle.rule_contexts.specs.Context.{view_in}

-- a context hides the schema tables
abbrev pub HiddenSchemaLaw : Type 0
HiddenSchemaLaw = (x : Ctx) → HidesSchema (rules_let x)

-- what a context shows of a whole document is a view
abbrev pub ViewLaw : Type 0
ViewLaw = (x : Ctx) (s : Document) → IsWhole s → IsView (view_in x s)

-- a document allows what nothing stands against in what a context shows of it
abbrev pub AllowedLaw : Type 0
AllowedLaw =
    (x : Ctx) (s : Document) (a : UserAction) → IsWhole s → objection_to (view_in x s) a ≡ None
    → is_allowed s a ≡ true
