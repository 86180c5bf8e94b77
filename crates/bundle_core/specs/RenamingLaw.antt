-- A renaming is refused for what is unresolved in its plan by what the session's user sees, and for
-- nothing else but what the bundle of that plan is refused for.
use Rattle.std.specs.Prelude.{ℕ, suc, ◌≡◌, ◌↔◌, List}
use Rattle.doc_model.specs.declared.entry.Entry.{Entry}
use Rattle.doc_model.specs.declared.request.Request.TheVariants.{Apply, Rename}
use Rattle.doc_model.specs.declared.user.User.{User}
use Rattle.doc_model.specs.declared.user_action.UserAction.{UserAction}
use Rattle.doc_model.specs.declared.view.ViewTable.{ViewTable}
use Rattle.rename_marks.specs.declared.column_rename.ColumnRename.{ColumnRename}
use Rattle.rename_flow.specs.Plan.{plan_of}
use Rattle.bundle_judge.specs.declared.bare_verdict.BareVerdict.TheVariants.{Unresolved}
use Rattle.bundle_core.specs.Mailbox.{says}
use Rattle.bundle_core.specs.RefusalLaw.{Sees}
use Rattle.bundle_core.specs.State.{State, verdicts}

-- an entry asks for a renaming in a session whose user sees this
pub record RenamesSeeing (st : State) (e : Entry) (r : ColumnRename) (shown : List ViewTable)
    : Type 0 where
  pub asks : e.request ≡ Rename r.table r.old r.new
  pub sees : Sees st e.session shown

-- an entry that asks for a bundle of these actions in its place
abbrev pub asking : List UserAction → Entry → Entry
asking actions e =
    record { session = e.session; request = Apply actions; size = e.size; kept = e.kept }

-- it is told that so many uses are unresolved
abbrev pub IsUnresolved : List User → State → Entry → ℕ → Type 0
IsUnresolved users st e n = (verdicts users st e).outcome ≡ says (Unresolved n)

-- it is told so exactly where the plan by the view counts so many, and they are not none
abbrev pub UnresolvedLaw : Type 0
UnresolvedLaw =
    (users : List User) (st : State) (e : Entry) (r : ColumnRename) (shown : List ViewTable)
    (n : ℕ) → RenamesSeeing st e r shown
    → IsUnresolved users st e (suc n) ↔ ((plan_of shown r).unresolved ≡ suc n)

-- where it counts none, all is as after the bundle of the planned actions
abbrev pub ResolvedLaw : Type 0
ResolvedLaw =
    (users : List User) (st : State) (e : Entry) (r : ColumnRename) (shown : List ViewTable)
    → RenamesSeeing st e r shown → (plan_of shown r).unresolved ≡ 0
    → verdicts users st e ≡ verdicts users st (asking (plan_of shown r).actions e)
