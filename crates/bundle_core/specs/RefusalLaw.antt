-- A bundle is refused for its first action by what the session's user sees, and by nothing else.
use Rattle.std.specs.Prelude.{ℕ, ◌≡◌, ◌↔◌, false, nat_lt, length, List, [], ◌∷◌, Option, Some, None, if◌then◌else◌}
use Rattle.doc_model.specs.declared.entry.Entry.{Entry}
use Rattle.doc_model.specs.declared.limit.LimitKind.TheVariants.{Actions}
use Rattle.doc_model.specs.declared.refusal.Refusal.{Refusal}
use Rattle.doc_model.specs.declared.request.Request.TheVariants.{Apply}
use Rattle.doc_model.specs.declared.user.User.{User}
use Rattle.doc_model.specs.declared.user_action.UserAction.{UserAction}
use Rattle.doc_model.specs.declared.view.ViewTable.{ViewTable}
use Rattle.doc_model.specs.Counts.{bound_of}
use Rattle.user_objections.specs.Objections.{objection_to}
use Rattle.rule_contexts.specs.Context.{view}
use Rattle.bundle_judge.specs.declared.bare_verdict.BareVerdict.TheVariants.{Refused}
use Rattle.bundle_core.specs.Mailbox.{says}
use Rattle.bundle_core.specs.State.{Open, State, session_of, verdicts}

-- the session is open and keeps up, and this is what its user sees
pub record Sees (st : State) (name : List ℕ) (shown : List ViewTable) : Type 0 where
  pub holds : Open
  pub found : session_of name st ≡ Some holds
  pub keeps_up : holds.mailbox.lagging ≡ false
  pub sees : view holds.holder.user st.document ≡ shown

-- an entry asks for a bundle in a session whose user sees this
pub record AsksSeeing (st : State) (e : Entry) (actions : List UserAction)
    (shown : List ViewTable) : Type 0 where
  pub asks : e.request ≡ Apply actions
  pub sees : Sees st e.session shown

-- what stands against the first action of a bundle in a view, where it has not too many actions
abbrev pub first_objection : List ViewTable → List UserAction → Option Refusal
first_objection shown [] = None
first_objection shown (a ∷ as') =
    if nat_lt (bound_of Actions) (length (a ∷ as')) then None else objection_to shown a

-- the bundle is refused for its first action, and this is why: a limit and a denial by a rule are
-- other verdicts, and the keeper's failure has no action
abbrev pub IsRefusedFirst : List User → State → Entry → Refusal → Type 0
IsRefusedFirst users st e why = (verdicts users st e).outcome ≡ says (Refused why (Some 0))

-- it is refused so exactly where that stands against it in the view
abbrev pub ObjectionLaw : Type 0
ObjectionLaw =
    (users : List User) (st : State) (e : Entry) (actions : List UserAction)
    (shown : List ViewTable) (why : Refusal) → AsksSeeing st e actions shown
    → IsRefusedFirst users st e why ↔ (first_objection shown actions ≡ Some why)

-- so in any two states in which the view is the same, it is refused so in both or in neither
abbrev pub RefusalLaw : Type 0
RefusalLaw =
    (users users' : List User) (st st' : State) (e e' : Entry) (actions : List UserAction)
    (shown : List ViewTable) (why : Refusal) → AsksSeeing st e actions shown
    → AsksSeeing st' e' actions shown
    → IsRefusedFirst users st e why ↔ IsRefusedFirst users' st' e' why
