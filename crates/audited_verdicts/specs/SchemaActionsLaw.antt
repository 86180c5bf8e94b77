-- What rules say of an action on tables or columns, in documents that show a closed user the same.
use Rattle.std.specs.Prelude.{false, ◌≡◌, None}
use Rattle.doc_model.specs.declared.user.User.{User}
use Rattle.doc_model.specs.declared.user_action.UserAction.{UserAction}
use Rattle.doc_model.specs.Document.{Document}
use Rattle.user_actions.specs.Kinds.{is_about_rows}
use Rattle.user_actions.specs.Steps.{steps_of}
use Rattle.rule_contexts.specs.Context.{context}
use Rattle.bundle_judge.specs.Denials.{denial_of}
use Rattle.bundle_judge.specs.Judgement.{opposed_at}
use Rattle.audited_records.specs.SeeAlike.{SeeAlike}

-- where nothing but a rule stands against the action, the same rule denies it in both, or none
abbrev pub SchemaActionsLaw : Type 0
SchemaActionsLaw =
    (user : User) (s t : Document) (a : UserAction) → SeeAlike user s t
    → is_about_rows a ≡ false
    → opposed_at (context user s) s 0 a ≡ None → opposed_at (context user t) t 0 a ≡ None
    → denial_of (context user s) s 0 (steps_of s a)
    ≡ denial_of (context user t) t 0 (steps_of t a)
