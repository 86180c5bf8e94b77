-- Contexts that are carried along through the steps of a bundle.
use Rattle.std.specs.Prelude.{Bool, true, false, List, ◌≡◌}
use Rattle.std.specs.List.{list_any}
use Rattle.doc_model.specs.declared.action.Step.{Step}
use Rattle.doc_model.specs.declared.user_action.UserAction.{UserAction}
use Rattle.doc_model.specs.declared.user_action.UserAction.TheVariants.{RenameTable, RenameColumn}
use Rattle.acl_rules.specs.declared.decision.Ctx.{Ctx}
use Rattle.acl_rules.specs.Carried.{is_rename}
use Rattle.bundle_judge.specs.declared.carried_context.CarriedContext.{CarriedContext}
use Rattle.bundle_judge.specs.declared.carried_context.CarriedContext.TheVariants.{Kept, Own}

-- the context as far as it is carried
abbrev pub carried_context : CarriedContext → Ctx
carried_context (Kept x) = x.now
carried_context (Own x) = x

-- whether it is one that is kept
abbrev pub is_kept : CarriedContext → Bool
is_kept (Kept x) = true
is_kept (Own x) = false

-- whether a step renames what rules are about
abbrev pub renames : Step → Bool
renames e = is_rename e.action

-- whether a user action asks for a rename: no other comes to a step that renames
abbrev pub asks_rename : UserAction → Bool
asks_rename (RenameTable table new) = true
asks_rename (RenameColumn table column new) = true
asks_rename a = false

-- it is carried through these steps: a context that is kept stays as it is, so none of them renames
abbrev pub MayCarry : CarriedContext → List Step → Type 0
MayCarry x steps = is_kept x ≡ true → list_any renames steps ≡ false

-- the same of the steps of these user actions
abbrev pub MayCarryAll : CarriedContext → List UserAction → Type 0
MayCarryAll x requested = is_kept x ≡ true → list_any asks_rename requested ≡ false
