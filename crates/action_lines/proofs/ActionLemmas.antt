-- User actions are read exactly from the JSON that stands for them.
use Rattle.std.proofs.Common.{◌≡◌, ℕ, List, Bool, true, false, Some, refl, sym, ap, ◌∙◌, subst}
use Rattle.serde_json.specs.Data.{Data, string, array, Items, item}
use Rattle.serde_json.specs.Find.{as_array}
use Rattle.doc_model.specs.declared.user_action.UserAction.{UserAction}
use Rattle.doc_model.specs.declared.user_action.UserAction.TheVariants.{Add, Update, Remove, AddTable, RemoveTable, RenameTable, AddColumn, RemoveColumn, RenameColumn, ModifyColumn}
use Rattle.action_lines.specs.declared.kinds.ActionKind.{ActionKind}
use Rattle.action_lines.specs.declared.kinds.ActionKind.TheVariants as kind
use Rattle.action_lines.specs.Items.{item_text, only_text, text_beside}
use Rattle.action_lines.specs.Kinds.{kind_from}
use Rattle.action_lines.specs.Infos.{IsColumn, column_from}
use Rattle.action_lines.specs.RecordActions.{add_from, update_from, remove_from}
use Rattle.action_lines.specs.SchemaActions.{add_table_from, remove_table_from, rename_table_from, add_column_from, remove_column_from, rename_column_from, modify_column_from}
use Rattle.action_lines.specs.Actions.{action_data, add_kind, update_kind, remove_kind, IsAction, AreActions, kind_action_from, action_from, actions_from}
use Rattle.action_lines.proofs.StepLemmas.{bind_some}
use Rattle.action_lines.proofs.FieldLemmas.{array_takes, item_text_takes}
use Rattle.action_lines.proofs.ItemLemmas.{all_again, given_takes, given_again}
use Rattle.action_lines.proofs.KindLemmas.{kind_takes}
use Rattle.action_lines.proofs.InfoLemmas.{column_again}
use Rattle.action_lines.proofs.RecordLemmas.{add_takes, add_again, update_takes, update_again, remove_takes, remove_again}
use Rattle.action_lines.proofs.SchemaLemmas.{add_table_takes, remove_table_takes, rename_table_takes, beside_again, add_column_takes, remove_column_takes, rename_column_takes, modify_column_takes}

kind_action_takes : (k : ActionKind) (t : List ℕ) (rest : Items) (a : UserAction) → kind_action_from k t rest ≡ Some a → IsAction a (action_data k t rest)
kind_action_takes kind.AddRecord t rest a e = add_takes true t rest a e
kind_action_takes kind.BulkAddRecord t rest a e = add_takes false t rest a e
kind_action_takes kind.UpdateRecord t rest a e = update_takes true t rest a e
kind_action_takes kind.BulkUpdateRecord t rest a e = update_takes false t rest a e
kind_action_takes kind.RemoveRecord t rest a e = remove_takes true t rest a e
kind_action_takes kind.BulkRemoveRecord t rest a e = remove_takes false t rest a e
kind_action_takes kind.AddTable t rest a e = add_table_takes t rest a e
kind_action_takes kind.RemoveTable t rest a e = remove_table_takes t rest a e
kind_action_takes kind.RenameTable t rest a e = rename_table_takes t rest a e
kind_action_takes kind.AddColumn t rest a e = add_column_takes t rest a e
kind_action_takes kind.RemoveColumn t rest a e = remove_column_takes t rest a e
kind_action_takes kind.RenameColumn t rest a e = rename_column_takes t rest a e
kind_action_takes kind.ModifyColumn t rest a e = modify_column_takes t rest a e

pub action_takes : (d : Data) (a : UserAction) → action_from d ≡ Some a → IsAction a d
unfolding action_from
action_takes d a e =
    let items = bind_some (as_array d) _ a e in
    let word = bind_some (item_text items.0) _ a items.2 in
    let table = bind_some (item_text word.0.1) _ a word.2 in
    let k = bind_some (kind_from word.0.0) _ a table.2 in
    let whole : d ≡ action_data k.0 table.0.0 table.0.1 =
    array_takes d items.0 items.1
    ∙ ap array (item_text_takes items.0 word.0.0 word.0.1 word.1
    ∙ (λ i. item (string (kind_takes word.0.0 k.0 k.1 i)) (item_text_takes word.0.1 table.0.0 table.0.1 table.1 i))) in
    subst (λ x. IsAction a x) (sym whole) (kind_action_takes k.0 table.0.0 table.0.1 a k.2)

-- the words of one record and of many
add_word : (single : Bool) (t : List ℕ) (rest : Items) → action_from (action_data (add_kind single) t rest) ≡ add_from single t rest
unfolding action_from
add_word true t rest = refl
add_word false t rest = refl

update_word : (single : Bool) (t : List ℕ) (rest : Items) → action_from (action_data (update_kind single) t rest) ≡ update_from single t rest
unfolding action_from
update_word true t rest = refl
update_word false t rest = refl

remove_word : (single : Bool) (t : List ℕ) (rest : Items) → action_from (action_data (remove_kind single) t rest) ≡ remove_from single t rest
unfolding action_from
remove_word true t rest = refl
remove_word false t rest = refl

pub action_again : (a : UserAction) (d : Data) → IsAction a d → action_from d ≡ Some a
unfolding action_from add_table_from remove_table_from rename_table_from add_column_from remove_column_from rename_column_from modify_column_from only_text text_beside
action_again (Add t single count has_row_ids cs) d h = ap action_from h.2 ∙ add_word single t h.0 ∙ add_again single t count has_row_ids cs h.0 h.1
action_again (Update t single ids cs) d h = ap action_from h.2 ∙ update_word single t h.0 ∙ update_again single t ids cs h.0 h.1
action_again (Remove t single ids) d h = ap action_from h.2 ∙ remove_word single t h.0 ∙ remove_again single t ids h.0 h.1
action_again (AddTable t cs) d h = ap action_from h.2 ∙ rw (all_again column_from IsColumn column_again cs h.0 h.1) refl
action_again (RemoveTable t) d h = ap action_from h
action_again (RenameTable t new) d h = ap action_from h
action_again (AddColumn t c) d h = ap action_from h ∙ rw (beside_again c) refl
action_again (RemoveColumn t c) d h = ap action_from h
action_again (RenameColumn t c new) d h = ap action_from h
action_again (ModifyColumn t c) d h = ap action_from h ∙ rw (beside_again c) refl

pub actions_take : (d : Data) (actions : List UserAction) → actions_from d ≡ Some actions → AreActions actions d
actions_take d actions e = given_takes action_from IsAction action_takes false d actions e

pub actions_again : (actions : List UserAction) (d : Data) → AreActions actions d → actions_from d ≡ Some actions
actions_again actions d h = given_again action_from IsAction action_again false actions d h
