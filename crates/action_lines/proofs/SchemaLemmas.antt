-- Actions on tables and columns are read exactly from what stands behind their tables.
use Rattle.std.proofs.Common.{◌≡◌, ℕ, List, false, Some, ap, ◌∙◌, subst}
use Rattle.serde_json.specs.Data.{string, Items, no_items, item}
use Rattle.serde_json.specs.Find.{as_str}
use Rattle.doc_model.specs.declared.user_action.UserAction.{UserAction}
use Rattle.doc_model.specs.declared.user_action.UserAction.TheVariants.{AddTable, RemoveTable, RenameTable, AddColumn, RemoveColumn, RenameColumn, ModifyColumn}
use Rattle.doc_model.specs.declared.user_action.UserCol.{UserCol}
use Rattle.action_lines.specs.declared.kinds.ActionKind.TheVariants as kind
use Rattle.action_lines.specs.Items.{is_last, only_item, only_text, text_beside, given_from}
use Rattle.action_lines.specs.Infos.{info_data, IsColumn, column_from}
use Rattle.action_lines.specs.SchemaActions.{add_table_from, remove_table_from, rename_table_from, beside_from, add_column_from, remove_column_from, rename_column_from, modify_column_from}
use Rattle.action_lines.specs.Actions.{action_data, IsAction}
use Rattle.action_lines.proofs.StepLemmas.{bind_some, guard_some, some_same}
use Rattle.action_lines.proofs.FieldLemmas.{text_takes, last_takes}
use Rattle.action_lines.proofs.ItemLemmas.{only_takes, only_text_takes, text_beside_takes, given_takes}
use Rattle.action_lines.proofs.InfoLemmas.{info_takes, info_again, column_takes}

pub add_table_takes : (t : List ℕ) (rest : Items) (a : UserAction) → add_table_from t rest ≡ Some a → IsAction a (action_data kind.AddTable t rest)
unfolding add_table_from
add_table_takes t rest a e =
    let infos = bind_some (only_item rest) _ a e in
    let cs = bind_some (given_from column_from false infos.0) _ a infos.2 in
    let items = given_takes column_from IsColumn column_takes false infos.0 cs.0 cs.1 in
    let whole = only_takes rest infos.0 infos.1 ∙ ap (λ x. item x no_items) items.2 in
    subst (λ x. IsAction x (action_data kind.AddTable t rest)) (some_same (AddTable t cs.0) a cs.2) (items.0, items.1, ap (action_data kind.AddTable t) whole)

pub remove_table_takes : (t : List ℕ) (rest : Items) (a : UserAction) → remove_table_from t rest ≡ Some a → IsAction a (action_data kind.RemoveTable t rest)
unfolding remove_table_from
remove_table_takes t rest a e =
    let g = guard_some (is_last rest) (RemoveTable t) a e in
    subst (λ x. IsAction x (action_data kind.RemoveTable t rest)) g.1 (ap (action_data kind.RemoveTable t) (last_takes rest g.0))

pub rename_table_takes : (t : List ℕ) (rest : Items) (a : UserAction) → rename_table_from t rest ≡ Some a → IsAction a (action_data kind.RenameTable t rest)
unfolding rename_table_from
rename_table_takes t rest a e =
    let new = bind_some (only_text rest) _ a e in
    subst (λ x. IsAction x (action_data kind.RenameTable t rest)) (some_same (RenameTable t new.0) a new.2)
    (ap (action_data kind.RenameTable t) (only_text_takes rest new.0 new.1))

pub remove_column_takes : (t : List ℕ) (rest : Items) (a : UserAction) → remove_column_from t rest ≡ Some a → IsAction a (action_data kind.RemoveColumn t rest)
unfolding remove_column_from
remove_column_takes t rest a e =
    let column = bind_some (only_text rest) _ a e in
    subst (λ x. IsAction x (action_data kind.RemoveColumn t rest)) (some_same (RemoveColumn t column.0) a column.2)
    (ap (action_data kind.RemoveColumn t) (only_text_takes rest column.0 column.1))

pub rename_column_takes : (t : List ℕ) (rest : Items) (a : UserAction) → rename_column_from t rest ≡ Some a → IsAction a (action_data kind.RenameColumn t rest)
unfolding rename_column_from
rename_column_takes t rest a e =
    let two = bind_some (text_beside rest) _ a e in
    let new = bind_some (as_str two.0.1) _ a two.2 in
    let whole = text_beside_takes rest two.0.0 two.0.1 two.1 ∙ ap (λ x. item (string two.0.0) (item x no_items)) (text_takes two.0.1 new.0 new.1) in
    subst (λ x. IsAction x (action_data kind.RenameColumn t rest)) (some_same (RenameColumn t two.0.0 new.0) a new.2) (ap (action_data kind.RenameColumn t) whole)

-- a column's id, and beside it what is said of it
beside_takes : (rest : Items) (c : UserCol) → beside_from rest ≡ Some c → rest ≡ item (string c.id) (item (info_data c) no_items)
unfolding beside_from
beside_takes rest c e =
    let two = bind_some (text_beside rest) _ c e in
    let is = info_takes two.0.0 two.0.1 c two.2 in
    text_beside_takes rest two.0.0 two.0.1 two.1 ∙ (λ i. item (string (is.0 i)) (item (is.1 i) no_items))

pub beside_again : (c : UserCol) → beside_from (item (string c.id) (item (info_data c) no_items)) ≡ Some c
unfolding beside_from text_beside
beside_again c = info_again c

pub add_column_takes : (t : List ℕ) (rest : Items) (a : UserAction) → add_column_from t rest ≡ Some a → IsAction a (action_data kind.AddColumn t rest)
unfolding add_column_from
add_column_takes t rest a e =
    let c = bind_some (beside_from rest) _ a e in
    subst (λ x. IsAction x (action_data kind.AddColumn t rest)) (some_same (AddColumn t c.0) a c.2) (ap (action_data kind.AddColumn t) (beside_takes rest c.0 c.1))

pub modify_column_takes : (t : List ℕ) (rest : Items) (a : UserAction) → modify_column_from t rest ≡ Some a → IsAction a (action_data kind.ModifyColumn t rest)
unfolding modify_column_from
modify_column_takes t rest a e =
    let c = bind_some (beside_from rest) _ a e in
    subst (λ x. IsAction x (action_data kind.ModifyColumn t rest)) (some_same (ModifyColumn t c.0) a c.2) (ap (action_data kind.ModifyColumn t) (beside_takes rest c.0 c.1))
