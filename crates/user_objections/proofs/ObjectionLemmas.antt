-- What stands against an action is told by the tables that it asks for.
use Rattle.std.proofs.Common.{ℕ, suc, zero, ℤ, Bool, true, false, cond, not, ◌&&◌, ◌||◌, codes, List, [], ◌∷◌, length, ◌≡◌, refl, sym, ap, ◌∙◌, Option, Some, None, option_map}
use Rattle.std.proofs.lemmas.Bool.{or_right}
use Rattle.std.proofs.lemmas.Slice.Eq.{bytes_eq-Decides}
use Rattle.std.specs.Str.{bytes_eq}
use Rattle.cell_types.specs.declared.value.CellValue.{CellValue}
use Rattle.doc_model.specs.declared.user_action.UserAction.{UserAction}
use Rattle.doc_model.specs.declared.user_action.UserAction.TheVariants.{Add, Update, Remove, AddTable, RemoveTable, RenameTable, AddColumn, RemoveColumn, RenameColumn, ModifyColumn}
use Rattle.doc_model.specs.declared.user_action.UserColumn.{UserColumn}
use Rattle.doc_model.specs.declared.view.ViewTable.{ViewTable}
use Rattle.doc_model.specs.ByIds.{find_id}
use Rattle.doc_model.specs.Changes.{shown_table_id}
use Rattle.doc_model.specs.MetadataIds.{is_schema_id, is_acl_id, is_metadata_id, resources_id, rules_id}
use Rattle.doc_model.specs.declared.refusal.Refusal.{Refusal}
use Rattle.doc_model.specs.declared.refusal.Refusal.TheVariants as refusal
use Rattle.doc_model.proofs.ByIdsLaws.{found_id, bytes_itself}
use Rattle.acl_rows.specs.GoodRows.{are_permissions, has_good_texts, holds_text, is_formula, is_good_resource, is_good_rule, is_memo, is_position, names_resource, say_resource, is_attribute}
use Rattle.user_actions.specs.Kinds.{table_of}
use Rattle.user_objections.specs.ObjectionLaws.{asked, asks_for, AskedLaw, is_about_rules}
use Rattle.user_objections.specs.Objections.{against, in_table, in_records, in_schema, on_columns, on_rows, on_rules, on_values, to_records, to_schema}
use Rattle.user_objections.specs.RuleRows.{all_below, are_good_rows, is_good_row, resource_rows, row_after}
use Rattle.user_objections.proofs.ViewLemmas.{find_kept}

-- ---- rows of the access rules

all_below-same : (p q : ℕ → Bool) → ((n : ℕ) → p n ≡ q n) → (count : ℕ) → all_below p count ≡ all_below q count
all_below-same p q same zero = refl
all_below-same p q same (suc n) = ap (λ b. b && p n) (all_below-same p q same n) ∙ ap (λ b. all_below q n && b) (same n)

either_rules : (b c : Bool) → (b || c) ≡ true → b ≡ false → c ≡ true
either_rules true c h other = absurd (cc)
either_rules false c h other = h

and_same : (b x y : Bool) → (b ≡ true → x ≡ y) → (b && x) ≡ (b && y)
and_same true x y same = same refl
and_same false x y same = refl

-- rows with the same cells are good alike
module _ (f g : List ℕ → CellValue) (same : (column : List ℕ) → f column ≡ g column) where
  resource_alike : is_good_resource f ≡ is_good_resource g
  resource_alike = ap (λ x. say_resource x (f (codes "colIds"))) (same (codes "tableId")) ∙ ap (say_resource (g (codes "tableId"))) (same (codes "colIds"))

  texts_alike : has_good_texts f ≡ has_good_texts g
  texts_alike =
      ap (λ x. holds_text is_formula x && (holds_text are_permissions (f (codes "permissionsText")) && (holds_text is_attribute (f (codes "userAttributes")) && holds_text is_memo (f (codes "memo"))))) (same (codes "aclFormula"))
      ∙ ap (λ x. holds_text is_formula (g (codes "aclFormula")) && (holds_text are_permissions x && (holds_text is_attribute (f (codes "userAttributes")) && holds_text is_memo (f (codes "memo"))))) (same (codes "permissionsText"))
      ∙ ap (λ x. holds_text is_formula (g (codes "aclFormula")) && (holds_text are_permissions (g (codes "permissionsText")) && (holds_text is_attribute x && holds_text is_memo (f (codes "memo"))))) (same (codes "userAttributes"))
      ∙ ap (λ x. holds_text is_formula (g (codes "aclFormula")) && (holds_text are_permissions (g (codes "permissionsText")) && (holds_text is_attribute (g (codes "userAttributes")) && holds_text is_memo x))) (same (codes "memo"))

  rule_alike : (resources : List ℕ) → is_good_rule resources f ≡ is_good_rule resources g
  rule_alike resources =
      ap (λ x. names_resource resources x && (is_position (f (codes "rulePos")) && has_good_texts f)) (same (codes "resource"))
      ∙ ap (λ x. names_resource resources (g (codes "resource")) && (is_position x && has_good_texts f)) (same (codes "rulePos"))
      ∙ ap (λ x. names_resource resources (g (codes "resource")) && (is_position (g (codes "rulePos")) && x)) texts_alike

  row_alike : (v : List ViewTable) (table : List ℕ) → is_good_row v table f ≡ is_good_row v table g
  row_alike v table =
      ap (λ b. cond (bytes_eq resources_id table) b (is_good_rule (resource_rows v) f)) resource_alike
      ∙ ap (cond (bytes_eq resources_id table) (is_good_resource g)) (rule_alike (resource_rows v))

module _ (v w : List ViewTable) (table : List ℕ) (rows : bytes_eq rules_id table ≡ true → resource_rows w ≡ resource_rows v) where
  good_same : is_acl_id table ≡ true → (row : List ℕ → CellValue) → is_good_row w table row ≡ is_good_row v table row
  good_same acl row =
      elim (bytes_eq resources_id table) as (λ b. bytes_eq resources_id table ≡ b → cond b (is_good_resource row) (is_good_rule (resource_rows w) row) ≡ cond b (is_good_resource row) (is_good_rule (resource_rows v) row)) [
        | true ↦ λ _. refl
        | false ↦ λ no. ap (λ l. is_good_rule l row) (rows (either_rules (bytes_eq resources_id table) (bytes_eq rules_id table) acl no))
      ] refl

-- two tables of one id, in two views with the same rows of resources, whose rows result alike
module _ (v w : List ViewTable) (t u : ViewTable) (ks : List UserColumn) (rows : List ℤ) (count : ℕ) (named : u.id ≡ t.id)
    (resources : bytes_eq rules_id t.id ≡ true → resource_rows w ≡ resource_rows v) (after : (n : ℕ) (column : List ℕ) → row_after u ks rows n column ≡ row_after t ks rows n column) where
  pub on_rules-same : on_rules w u ks rows count ≡ on_rules v t ks rows count
  on_rules-same =
      ap (λ id. against (is_acl_id id && not (all_below (λ n. is_good_row w id (row_after u ks rows n)) count)) refusal.BadRule None) named
      ∙ ap (λ b. against b refusal.BadRule None)
      (and_same (is_acl_id t.id) (not (all_below (λ n. is_good_row w t.id (row_after u ks rows n)) count)) (not (are_good_rows v t ks rows count))
      (λ acl. ap not (all_below-same (λ n. is_good_row w t.id (row_after u ks rows n)) (λ n. is_good_row v t.id (row_after t ks rows n))
      (λ n. row_alike (row_after u ks rows n) (row_after t ks rows n) (after n) w t.id ∙ good_same v w t.id resources acl (row_after t ks rows n)) count)))

-- ---- the table that an action names

-- where both views have it or none has, and what is asked of it is answered alike
module _ (v w : List ViewTable) (table : List ℕ) (rest kept : ViewTable → Option Refusal) (change : ViewTable → ViewTable)
    (found : find_id shown_table_id table w ≡ option_map change (find_id shown_table_id table v))
    (same : (t : ViewTable) → find_id shown_table_id table v ≡ Some t → kept (change t) ≡ rest t) where
  in_table-same : in_table w table kept ≡ in_table v table rest
  in_table-same =
      ap (λ (o : Option ViewTable). elim o as (λ _. Option Refusal) [ None ↦ Some refusal.NoSuchTable | Some t ↦ kept t ]) found
      ∙ elim (find_id shown_table_id table v) as (λ (o : Option ViewTable). find_id shown_table_id table v ≡ o
      → elim (option_map change o) as (λ _. Option Refusal) [ None ↦ Some refusal.NoSuchTable | Some t ↦ kept t ] ≡ elim o as (λ _. Option Refusal) [ None ↦ Some refusal.NoSuchTable | Some t ↦ rest t ]) [
        | None ↦ λ _. refl
        | Some t ↦ λ is. same t is
      ] refl

  pub in_records-same : in_records w table kept ≡ in_records v table rest
  in_records-same = ap (λ o. against (is_schema_id table) refusal.MetaTable o) in_table-same

  pub in_schema-same : in_schema w table kept ≡ in_schema v table rest
  in_schema-same = ap (λ o. against (is_metadata_id table) refusal.MetaTable o) in_table-same

-- ---- the tables that it asks for

pub asks_itself : (a : UserAction) → asks_for a (table_of a) ≡ true
asks_itself a = ap (λ b. b || (is_about_rules a && bytes_eq (table_of a) resources_id)) (bytes_itself (table_of a))

pub asks_resources : (a : UserAction) → is_about_rules a ≡ true → asks_for a resources_id ≡ true
asks_resources a h =
    or_right (bytes_eq resources_id (table_of a)) (is_about_rules a && bytes_eq resources_id resources_id) (ap (λ b. b && bytes_eq resources_id resources_id) h ∙ bytes_itself resources_id)

find-asked : (v : List ViewTable) (a : UserAction) (id : List ℕ) → asks_for a id ≡ true → find_id shown_table_id id (asked a v) ≡ find_id shown_table_id id v
find-asked v a id asks =
    find_kept (λ (t : ViewTable). bytes_eq t.id id) (λ (t : ViewTable). asks_for a t.id) v (λ t is. ap (asks_for a) ((bytes_eq-Decides t.id id).0 is) ∙ asks)

unchanged : (o : Option ViewTable) → o ≡ option_map (λ t. t) o
unchanged None = refl
unchanged (Some t) = refl

module _ (v : List ViewTable) (a : UserAction) where
  named-asked : find_id shown_table_id (table_of a) (asked a v) ≡ option_map (λ t. t) (find_id shown_table_id (table_of a) v)
  named-asked = find-asked v a (table_of a) (asks_itself a) ∙ unchanged (find_id shown_table_id (table_of a) v)

  resources-asked : is_about_rules a ≡ true → resource_rows (asked a v) ≡ resource_rows v
  resources-asked h = ap (λ (o : Option ViewTable). elim o as (λ _. List ℕ) [ None ↦ [] | Some t ↦ t.rows ]) (find-asked v a resources_id (asks_resources a h))

  records-asked : (rest : List ViewTable → ViewTable → Option Refusal) → ((t : ViewTable) → t.id ≡ table_of a → rest (asked a v) t ≡ rest v t) → in_records (asked a v) (table_of a) (rest (asked a v)) ≡ in_records v (table_of a) (rest v)
  records-asked rest same = in_records-same v (asked a v) (table_of a) (rest v) (rest (asked a v)) (λ t. t) named-asked (λ t is. same t (found_id shown_table_id (table_of a) v t is))

  schema-asked : (rest : ViewTable → Option Refusal) → in_schema (asked a v) (table_of a) rest ≡ in_schema v (table_of a) rest
  schema-asked rest = in_schema-same v (asked a v) (table_of a) rest rest (λ t. t) named-asked (λ t _. refl)

pub objection_to-asked : AskedLaw
objection_to-asked v (Add table single count has_row_ids ks) =
    let a : UserAction = Add table single count has_row_ids ks in
    records-asked v a (λ w t. to_records w t a)
    (λ t is. ap (λ o. on_columns t ks (against has_row_ids refusal.BadValue (on_values ks o)))
    (on_rules-same v (asked a v) t t ks [] count refl (λ about. resources-asked v a (ap (bytes_eq rules_id) (sym is) ∙ about)) (λ n column. refl)))
objection_to-asked v (Update table single rows ks) =
    let a : UserAction = Update table single rows ks in
    records-asked v a (λ w t. to_records w t a)
    (λ t is. ap (λ o. on_rows t rows (on_columns t ks (on_values ks o)))
    (on_rules-same v (asked a v) t t ks rows (length rows) refl (λ about. resources-asked v a (ap (bytes_eq rules_id) (sym is) ∙ about)) (λ n column. refl)))
objection_to-asked v (Remove table single rows) =
    let a : UserAction = Remove table single rows in
    records-asked v a (λ w t. to_records w t a) (λ t is. refl)
objection_to-asked v (AddTable table cs) = refl
objection_to-asked v (RemoveTable table) = schema-asked v (RemoveTable table) (λ t. to_schema t (RemoveTable table))
objection_to-asked v (RenameTable table new) = schema-asked v (RenameTable table new) (λ t. to_schema t (RenameTable table new))
objection_to-asked v (AddColumn table c) = schema-asked v (AddColumn table c) (λ t. to_schema t (AddColumn table c))
objection_to-asked v (RemoveColumn table column) = schema-asked v (RemoveColumn table column) (λ t. to_schema t (RemoveColumn table column))
objection_to-asked v (RenameColumn table column new) = schema-asked v (RenameColumn table column new) (λ t. to_schema t (RenameColumn table column new))
objection_to-asked v (ModifyColumn table c) = schema-asked v (ModifyColumn table c) (λ t. to_schema t (ModifyColumn table c))
