-- New ids are free, and the steps of actions valid, for every document.
use Rattle.std.specs.Prelude.{ℕ, true, ◌≤◌, ◌^◌, map, length, ◌≡◌}
use Rattle.doc_model.specs.declared.user_action.UserAction.{UserAction}
use Rattle.doc_model.specs.declared.user_action.UserAction.TheVariants.{AddTable}
use Rattle.doc_model.specs.Apply.{all_valid}
use Rattle.doc_model.specs.Document.{Document}
use Rattle.doc_model.specs.DocumentLaws.{IsWhole}
use Rattle.doc_model.specs.WellFormed.{has_whole_columns}
use Rattle.user_actions.specs.Allowed.{is_allowed}
use Rattle.user_actions.specs.Kinds.{table_of}
use Rattle.user_actions.specs.StepLaws.{HasFresh, action_of}
use Rattle.user_actions.specs.Steps.{column_ids, steps_of, table_ids}

-- how many columns an action gives to a new table
abbrev pub new_columns_of : UserAction → ℕ
new_columns_of (AddTable table cs) = length cs
new_columns_of _ = 0

-- there are at most 2^60 tables, columns of the table and new columns, so that new ids can be told
-- apart by numbers of 64 bits
pub record HasFewIds (s : Document) (a : UserAction) : Type 0 where
  pub tables : length (table_ids s) ≤ 2 ^ 60
  pub columns : length (column_ids s (table_of a)) ≤ 2 ^ 60
  pub new : new_columns_of a ≤ 2 ^ 60

-- each new id of an action is a name that is free
abbrev pub FreshIdsLaw : Type 0
FreshIdsLaw =
    (s : Document) (a : UserAction) → IsWhole s → is_allowed s a ≡ true → HasFewIds s a
    → HasFresh s a

-- each step of an action that a document allows is valid at its index
abbrev pub StepsLaw : Type 0
StepsLaw =
    (s : Document) (a : UserAction) → IsWhole s → is_allowed s a ≡ true → has_whole_columns a ≡ true
    → HasFewIds s a → all_valid s (map action_of (steps_of s a)) ≡ true
