-- What users are told of bundles, beside the contexts that are known.
use Rattle.std.specs.Prelude.{true, List, [], ◌∷◌, ◌≡◌, map}
use Rattle.std.specs.List.{AllByRecursion}
use Rattle.cell_types.specs.declared.cell.CellOld.{CellOld}
use Rattle.doc_model.specs.declared.action.DocAction.{DocAction}
use Rattle.doc_model.specs.declared.user.User.{User}
use Rattle.doc_model.specs.declared.view.ViewAction.{ViewAction}
use Rattle.doc_model.specs.Document.{Document}
use Rattle.recalc.specs.Evaluated.{filled}
use Rattle.acl_formula.specs.declared.user_info.UserInfo.{UserInfo}
use Rattle.acl_rules.specs.declared.decision.Ctx.{Ctx}
use Rattle.action_censor.specs.Step.{Step}
use Rattle.rule_contexts.specs.ChangedContexts.{HaveOneBook}
use Rattle.context_changes.specs.Known.{is_known, told_by}
use Rattle.context_changes.specs.Renewal.{users_now}
use Rattle.context_changes.specs.Told.{told_of}
use Rattle.bundle_judge.specs.JudgedBundles.{told_changes}
use Rattle.bundle_core.specs.SessionState.{SessionState}

-- actions, each with the cells that it changed
abbrev pub with_cells : List DocAction → List (List CellOld) → List Step
with_cells [] told = []
with_cells (a ∷ actions) [] = []
with_cells (a ∷ actions) (cells ∷ told) =
    record { action = a; cells = cells } ∷ with_cells actions told

-- the context of each session's user is among these
abbrev pub AreAllKnown : List Ctx → List SessionState → Type 0
AreAllKnown xs sessions = AllByRecursion (λ x. is_known xs x.holder.user ≡ true) sessions

-- beside these contexts it is told what their users are told of the actions
abbrev pub IsToldOf : Document → List DocAction → List Ctx → List (List ViewAction) → Type 0
IsToldOf s actions xs told =
    (user : User) → is_known xs user ≡ true
    → told_by xs told user ≡ told_changes s actions user

-- of two documents with the same rules: what the rows that changed tell these contexts, and what
-- the rules of the second one know of their users
pub record AreRowsTold
    (s t : Document) (xs : List Ctx) (lists : List (List ViewAction)) (infos : List UserInfo)
    : Type 0 where
  pub rules : HaveOneBook t s
  pub told : lists ≡ map (λ x. told_of (filled s) (filled t) x x) xs
  pub users : infos ≡ users_now t xs
