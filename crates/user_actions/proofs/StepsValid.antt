-- The steps of user actions are valid, each at its place.
use Rattle.std.proofs.Common.{ℕ, Bool, true, false, cond, ◌&&◌, List, [], ◌∷◌, map, ◌≡◌, refl, sym, ◌∙◌, Some}
use Rattle.std.proofs.lemmas.Bool.{and_parts}
use Rattle.std.specs.List.{list_all}
use Rattle.std.specs.Str.{bytes_eq}
use Rattle.cell_types.specs.NameRule.{is_name}
use Rattle.doc_model.specs.declared.action.DocAction.{DocAction}
use Rattle.doc_model.specs.declared.action.DocAction.TheVariants as action
use Rattle.doc_model.specs.declared.action.Step.{Step}
use Rattle.doc_model.specs.declared.user_action.UserAction.{UserAction}
use Rattle.doc_model.specs.declared.user_action.UserAction.TheVariants.{Add, Update, Remove, AddTable, RemoveTable, RenameTable, AddColumn, RemoveColumn, RenameColumn, ModifyColumn}
use Rattle.doc_model.specs.Apply.{all_valid, apply, apply_all}
use Rattle.doc_model.specs.Document.{Document, Table, table_id}
use Rattle.doc_model.specs.DocumentLaws.{IsWhole}
use Rattle.doc_model.specs.Valid.{schema_table, valid}
use Rattle.doc_model.specs.ViewEdits.{if_any}
use Rattle.doc_model.specs.WellFormed.{has_whole_columns}
use Rattle.doc_model.proofs.Choices.{both_true}
use Rattle.doc_model.proofs.DocumentParts.{passes_parts}
use Rattle.doc_model.proofs.InverseLaws.{IsWhole-apply, IsWhole-apply_all}
use Rattle.name_rules.specs.FreeName.{free_name}
use Rattle.user_actions.specs.Allowed.{is_allowed}
use Rattle.user_actions.specs.Columns.{may_be_new}
use Rattle.user_actions.specs.StepLaws.{action_of, HasFresh}
use Rattle.user_actions.specs.Marked.{direct}
use Rattle.user_actions.specs.Given.{has_good_id}
use Rattle.user_actions.specs.References.{clearings, led_to, referrers}
use Rattle.user_actions.specs.ResourceSteps.{columns_moved, tables_moved}
use Rattle.user_actions.specs.Steps.{all_fitted, column_ids, column_renaming, column_said, last_row, numbers_after, renaming, row_ids, steps_of, table_ids, table_said}
use Rattle.user_actions.proofs.ClearedLemmas.{valid_clearings}
use Rattle.user_actions.proofs.LedLemmas.{valid-renaming}
use Rattle.user_actions.proofs.FitLemmas.{all_base-fit, is_base-fit}
use Rattle.user_actions.proofs.RecordStepLemmas.{valid-add, valid-update, valid-remove}
use Rattle.user_actions.proofs.ModifiedLemmas.{valid-modified}
use Rattle.user_actions.proofs.ResourceLemmas.{kept-led, kept-rename_column, kept-rename_table, valid-behind, valid-columns_moved, valid-tables_moved}
use Rattle.user_actions.proofs.SchemaStepLemmas.{is_taken-ids, valid-add_table, valid-remove_table, valid-rename_table, valid-add_column, valid-remove_column, valid-rename_column}

-- one action
one_valid : (s : Document) (a : DocAction) → valid s a ≡ true → all_valid s (a ∷ []) ≡ true
one_valid s a h = both_true (valid s a) true h refl

-- none, or one
any_valid : (s : Document) (rows : List ℕ) (a : DocAction) → valid s a ≡ true → all_valid s (map action_of (if_any rows (direct a))) ≡ true
any_valid s [] a h = refl
any_valid s (r ∷ rows) a h = one_valid s a h

-- none where the ids are the same
unless_valid : (s : Document) (b : Bool) (steps : List Step) → (b ≡ false → all_valid s (map action_of steps) ≡ true) → all_valid s (map action_of (cond b [] steps)) ≡ true
unless_valid s true steps h = refl
unless_valid s false steps h = h refl

pub all_valid-steps_of : (s : Document) → IsWhole s → (a : UserAction) → is_allowed s a ≡ true → has_whole_columns a ≡ true → HasFresh s a → all_valid s (map action_of (steps_of s a)) ≡ true
all_valid-steps_of s w (Add table single count has_row_ids ks) h whole fresh = one_valid s (action.BulkAdd table (numbers_after (last_row s table) count) (all_fitted s table ks)) (valid-add all_base-fit s table count ks h whole)
all_valid-steps_of s w (Update table single rows ks) h whole fresh =
    any_valid s (row_ids rows) (action.BulkUpdate table (row_ids rows) (all_fitted s table ks)) (valid-update all_base-fit s w table rows ks h whole)
all_valid-steps_of s w (Remove table single rows) h whole fresh =
    let a : DocAction = action.BulkRemove table (row_ids rows) in
    let v : valid s a ≡ true = valid-remove all_base-fit s table rows h in
    both_true (valid s a) (all_valid (apply s a) (map action_of (clearings s table (row_ids rows) (referrers s table table false)))) v (valid_clearings s w table (row_ids rows) v)
all_valid-steps_of s w (AddTable table cs) h whole fresh =
    one_valid s (table_said s table cs) (valid-add_table s table cs fresh.0.0 fresh.0.1 fresh.1 (and_parts (is_name table && list_all has_good_id cs) (list_all may_be_new cs) h).1)
all_valid-steps_of s w (RemoveTable table) h whole fresh = one_valid s (action.RemoveTable table) (valid-remove_table s table (λ t. true) h)
all_valid-steps_of s w (RenameTable table new) h whole fresh =
    unless_valid s (bytes_eq table new) (renaming s table (free_name (table_ids s) new))
    (λ differs.
    let n : List ℕ = free_name (table_ids s) new in
    let a : DocAction = action.RenameTable table n in
    let led : List Step = map (led_to n) (referrers s table n true) in
    let v : valid s a ≡ true = valid-rename_table s table n (λ t. is_name new) h (fresh differs).0 (fresh differs).1 in
    let vs : all_valid s (map action_of (direct a ∷ led)) ≡ true = both_true (valid s a) (all_valid (apply s a) (map action_of led)) v
    (valid-renaming s w table n (λ t. is_name new) h (fresh differs).1 (sym (is_taken-ids table_id s n) ∙ (fresh differs).0) v) in
    valid-behind s (direct a ∷ led) (tables_moved s table n) vs
    (valid-tables_moved s (apply_all s (map action_of (direct a ∷ led))) w (IsWhole-apply_all s (map action_of (direct a ∷ led)) w vs)
    (kept-led n (apply s a) (referrers s table n true) ∙ kept-rename_table s table n) table n (fresh differs).1))
all_valid-steps_of s w (AddColumn table c) h whole fresh =
    let p : (t : Table) × ((schema_table s table ≡ Some t) × ((is_name c.id && may_be_new c) ≡ true)) = passes_parts (schema_table s table) (λ t. is_name c.id && may_be_new c) h in
    one_valid s (action.AddColumn table (column_said s table c))
    (valid-add_column s table c (λ t. is_name c.id && may_be_new c) h (and_parts (is_name c.id) (may_be_new c) p.1.1).1 fresh.0 fresh.1)
all_valid-steps_of s w (RemoveColumn table column) h whole fresh = one_valid s (action.RemoveColumn table column) (valid-remove_column s table column h)
all_valid-steps_of s w (RenameColumn table column new) h whole fresh =
    unless_valid s (bytes_eq column new) (column_renaming s table column (free_name (column_ids s table) new))
    (λ differs.
    let n : List ℕ = free_name (column_ids s table) new in
    let a : DocAction = action.RenameColumn table column n in
    let v : valid s a ≡ true = valid-rename_column s table column new n h (fresh differs).0 (fresh differs).1 in
    both_true (valid s a) (all_valid (apply s a) (map action_of (columns_moved s table column n))) v
    (valid-columns_moved s (apply s a) w (IsWhole-apply s a w v) (kept-rename_column s table column n) table column n))
all_valid-steps_of s w (ModifyColumn table c) h whole fresh = valid-modified is_base-fit s w table c h
