-- Where the steps of user actions are valid.
use Rattle.std.specs.Prelude.{ℕ, false, List, [], ◌∷◌, ◌++◌, ◌≡◌}
use Rattle.std.specs.Str.{bytes_eq}
use Rattle.doc_model.specs.declared.action.DocAction.{DocAction}
use Rattle.doc_model.specs.declared.action.Step.{Step}
use Rattle.doc_model.specs.declared.user_action.UserAction.{UserAction}
use Rattle.doc_model.specs.declared.user_action.UserAction.TheVariants.{AddTable, RenameTable, AddColumn, RenameColumn}
use Rattle.doc_model.specs.declared.user_action.UserCol.{UserCol}
use Rattle.doc_model.specs.Document.{Document}
use Rattle.name_rules.specs.FreeName.{IsFresh, free_name}
use Rattle.user_actions.specs.Steps.{column_ids, table_ids}

abbrev pub action_of : Step → DocAction
action_of step = step.action

-- each of several new ids is a name that is free, beside those before it
abbrev pub AreFresh : List (List ℕ) → List UserCol → Type 0
AreFresh taken [] = Unit {0}
AreFresh taken (c ∷ cs) = IsFresh taken c.id × AreFresh (taken ++ free_name taken c.id ∷ []) cs

-- the new ids of an action are such ones; a rename to the own id makes none
abbrev pub HasFresh : Document → UserAction → Type 0
HasFresh s (AddTable table cs) = IsFresh (table_ids s) table × AreFresh [] cs
HasFresh s (RenameTable table new) = bytes_eq table new ≡ false → IsFresh (table_ids s) new
HasFresh s (AddColumn table c) = IsFresh (column_ids s table) c.id
HasFresh s (RenameColumn table column new) =
    bytes_eq column new ≡ false → IsFresh (column_ids s table) new
HasFresh s _ = Unit {0}
