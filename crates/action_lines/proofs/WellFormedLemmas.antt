-- What is read is well formed.
use Rattle.std.proofs.Common.{◌≡◌, ℕ, List, [], ◌∷◌, Bool, true, false, ◌&&◌, length, nat_eq, Option, Some, None, refl, sym, ap, ◌∙◌}
use Rattle.std.specs.List.{list_all}
use Rattle.serde_json.specs.Data.{Data, Items, no_items, item, Members}
use Rattle.cell_types.specs.declared.value.CellValue.{CellValue}
use Rattle.doc_model.specs.declared.user_action.UserAction.{UserAction}
use Rattle.doc_model.specs.declared.user_action.UserAction.TheVariants.{Add, Update, Remove, AddTable, RemoveTable, RenameTable, AddColumn, RemoveColumn, RenameColumn, ModifyColumn}
use Rattle.doc_model.specs.declared.user_action.UserColumn.{UserColumn}
use Rattle.doc_model.specs.ByIds.{precedes}
use Rattle.doc_model.specs.WellFormed.{are_by_id, have_values, is_for_one, is_well_formed}
use Rattle.doc_model.proofs.Choices.{both_true}
use Rattle.action_lines.specs.Actions.{AreActions, IsAction}
use Rattle.action_lines.specs.Columns.{AreColumns, filled, more, none}
use Rattle.action_lines.specs.Items.{AreAll, AreGiven}
use Rattle.action_lines.specs.Numbers.{IsInt, IsNewRow}

alone : {X : Type 0} (stands : X → Data → Type 0) (single : Bool) (xs : List X) (d : Data) → AreGiven stands single xs d → is_for_one single (length xs) ≡ true
alone stands true xs d h = ap (λ l. is_for_one true (length l)) h.1
alone stands false xs d h = refl

module _ (single : Bool) (count : ℕ) where
  behind_by_id : {before : List ℕ} {cs : List UserColumn} {ms : Members} → AreColumns single count (Some before) cs ms → (vs : List CellValue) → are_by_id (filled before vs ∷ cs) ≡ true
  behind_by_id none vs = refl
  behind_by_id {before} (more {name = name} {vs = ws} {cs = cs} after cells rest) vs = both_true (precedes before name) (are_by_id (filled name ws ∷ cs)) after (behind_by_id rest ws)

  by_id : {cs : List UserColumn} {ms : Members} → AreColumns single count None cs ms → are_by_id cs ≡ true
  by_id none = refl
  by_id (more {vs = vs} after cells rest) = behind_by_id rest vs

  valued : {before : Option (List ℕ)} {cs : List UserColumn} {ms : Members} → AreColumns single count before cs ms → have_values count cs ≡ true
  valued none = refl
  valued (more {vs = vs} {cs = cs} after cells rest) = both_true (nat_eq (length vs) count) (have_values count cs) cells.1 (valued rest)

  columns_formed : (cs : List UserColumn) (ms : Members) → is_for_one single count ≡ true → AreColumns single count None cs ms → (is_for_one single count && (are_by_id cs && have_values count cs)) ≡ true
  columns_formed cs ms one h = both_true (is_for_one single count) (are_by_id cs && have_values count cs) one (both_true (are_by_id cs) (have_values count cs) (by_id h) (valued h))

action_formed : (a : UserAction) (d : Data) → IsAction a d → is_well_formed a ≡ true
action_formed (Add t single count has_row_ids cs) d h =
    let is = h.1 in
    columns_formed single count cs is.members (sym (ap (is_for_one single) is.counted) ∙ alone IsNewRow single is.ids is.rows is.given) is.filled
action_formed (Update t single ids cs) d h =
    let is = h.1 in
    columns_formed single (length ids) cs is.members (alone IsInt single ids is.rows is.given) is.filled
action_formed (Remove t single ids) d h = alone IsInt single ids h.1.rows h.1.given
action_formed (AddTable t cs) d h = refl
action_formed (RemoveTable t) d h = refl
action_formed (RenameTable t new) d h = refl
action_formed (AddColumn t c) d h = refl
action_formed (RemoveColumn t c) d h = refl
action_formed (RenameColumn t c new) d h = refl
action_formed (ModifyColumn t c) d h = refl

all_formed : (actions : List UserAction) (ds : Items) → AreAll IsAction actions ds → list_all is_well_formed actions ≡ true
all_formed [] ds h = refl
all_formed (a ∷ actions) no_items h = absurd h
all_formed (a ∷ actions) (item d ds) h = both_true (is_well_formed a) (list_all is_well_formed actions) (action_formed a d h.0) (all_formed actions ds h.1)

-- what stands for actions gives well-formed ones
pub actions_formed : (actions : List UserAction) (d : Data) → AreActions actions d → list_all is_well_formed actions ≡ true
actions_formed actions d h = all_formed actions h.0 h.1
