-- The steps that move resources are valid at their places.
use Rattle.std.proofs.Common.{ℕ, Bool, true, false, cond, not, ◌||◌, List, [], ◌∷◌, ◌++◌, map, ◌≡◌, refl, sym, ap, ◌∙◌, codes, Option, Some, None}
use Rattle.std.proofs.lemmas.Bool.{and_parts}
use Rattle.std.proofs.lemmas.List.{map-append}
use Rattle.std.specs.Str.{bytes_eq}
use Rattle.cell_types.specs.NameRule.{is_name}
use Rattle.cell_types.specs.declared.column_type.ColType.TheVariants.{Text}
use Rattle.cell_types.specs.declared.value.CellValue.{CellValue}
use Rattle.doc_model.specs.declared.action.DocAction.{DocAction}
use Rattle.doc_model.specs.declared.action.DocAction.TheVariants.{BulkUpdate, ModifyColumn, RenameColumn, RenameTable}
use Rattle.doc_model.specs.declared.action.Step.{Step}
use Rattle.doc_model.specs.declared.column.ColDef.{ColDef}
use Rattle.doc_model.specs.Apply.{all_valid, apply, apply_all, effect}
use Rattle.doc_model.specs.ByIds.{find_id}
use Rattle.doc_model.specs.Column.{column_id, is_base}
use Rattle.doc_model.specs.Document.{Document, Table, table_id}
use Rattle.doc_model.specs.DocumentLaws.{IsWhole}
use Rattle.doc_model.specs.Grid.{Grid, cell}
use Rattle.doc_model.specs.MetadataIds.{tables_id, columns_id, resources_id, rules_id, is_schema_id}
use Rattle.doc_model.specs.Rows.{IsAscending, has}
use Rattle.doc_model.specs.Schema.{columns_grid, metadata_column, metadata_table, no_grid, plain_tables, resources, resources_columns, rules, tables_grid, with_schema}
use Rattle.doc_model.specs.Sound.{IsSoundGrid}
use Rattle.doc_model.specs.Valid.{is_data, passes, record_table, valid}
use Rattle.doc_model.specs.ViewEdits.{if_any}
use Rattle.doc_model.proofs.ByIdsLaws.{bytes_itself, found_all}
use Rattle.doc_model.proofs.Choices.{both_true, cond_false, cond_true}
use Rattle.doc_model.proofs.RowsLaws.{has-filter, IsAscending-filter}
use Rattle.doc_model.proofs.SchemaLaws.{short_name}
use Rattle.doc_model.proofs.WholeLaws.{columns_resources_apart, tables_resources_apart}
use Rattle.doc_readers.specs.Parts.{grid_at}
use Rattle.renamed_resources.specs.Renamed.{columns_renamed, names_table, table_renamed}
use Rattle.renamed_resources.proofs.BaseLemmas.{columns_base, table_base}
use Rattle.user_actions.specs.declared.referrers.Referrer.{Referrer}
use Rattle.user_actions.specs.CellUpdates.{column_changed, rows_changed, update_changed}
use Rattle.user_actions.specs.Marked.{indirect}
use Rattle.user_actions.specs.References.{info_to, led_to}
use Rattle.user_actions.specs.ResourceSteps.{columns_moved, rows_about, tables_moved}
use Rattle.user_actions.specs.StepLaws.{action_of}
use Rattle.user_actions.proofs.ClearedLemmas.{valid_update}

-- ---- the table of resources in a whole document

in_schema : (r u : Grid ColDef) (p : List Table) → find_id table_id resources_id (with_schema r u p) ≡ Some (metadata_table resources_id r)
in_schema r u p =
    cond_false (bytes_eq tables_id resources_id) (Some (metadata_table tables_id (tables_grid p))) (find_id table_id resources_id (metadata_table columns_id (columns_grid p) ∷ metadata_table resources_id r ∷ metadata_table rules_id u ∷ p)) tables_resources_apart
    ∙ cond_false (bytes_eq columns_id resources_id) (Some (metadata_table columns_id (columns_grid p))) (find_id table_id resources_id (metadata_table resources_id r ∷ metadata_table rules_id u ∷ p)) columns_resources_apart
    ∙ cond_true (bytes_eq resources_id resources_id) (Some (metadata_table resources_id r)) (find_id table_id resources_id (metadata_table rules_id u ∷ p)) (bytes_itself resources_id)

pub find_resources : (s : Document) → IsWhole s → find_id table_id resources_id s ≡ Some (metadata_table resources_id (resources s))
find_resources s whole = ap (find_id table_id resources_id) whole.agrees.schema ∙ in_schema (resources s) (rules s) (plain_tables s)

pub grid_resources : (s : Document) → IsWhole s → grid_at s resources_id ≡ resources s
grid_resources s whole = ap (λ (o : Option Table). elim o as (λ _. Grid ColDef) [ None ↦ no_grid | Some t ↦ t.grid ]) (find_resources s whole)

record_resources : (s : Document) → IsWhole s → record_table s resources_id ≡ Some (metadata_table resources_id (resources s))
record_resources s whole =
    cond_false (is_schema_id resources_id) None (find_id table_id resources_id s) (ap (λ b. b || bytes_eq columns_id resources_id) tables_resources_apart ∙ columns_resources_apart)
    ∙ find_resources s whole

sound_resources : (s : Document) → IsWhole s → IsSoundGrid (resources s)
sound_resources s whole = found_all table_id (λ t. IsSoundGrid t.grid) resources_id s (metadata_table resources_id (resources s)) whole.sound.grids (find_resources s whole)

-- ---- an update of one of its columns

any_indirect : (d : Document) (rows : List ℕ) (a : DocAction) → valid d a ≡ true → all_valid d (map action_of (if_any rows (indirect a))) ≡ true
any_indirect d [] a h = refl
any_indirect d (r ∷ rows) a h = both_true (valid d a) true h refl

module _ (s d : Document) (whole : IsWhole s) (then' : IsWhole d) (same : resources d ≡ resources s) where
  moved_valid : (e : ColDef) → find_id column_id e.id resources_columns ≡ Some e → e.info.is_formula ≡ false → (f : CellValue → CellValue) → ((v : CellValue) → is_base v ≡ true → is_base (f v) ≡ true)
      → (rows : List ℕ) → IsAscending rows → ((q : ℕ) → has rows q ≡ true → has (resources s).rows q ≡ true) → all_valid d (map action_of (update_changed resources_id (resources s) e.id f rows)) ≡ true
  moved_valid e listed data' f fits rows ascend known =
      let g : Grid ColDef = resources s in
      let there : find_id column_id e.id g.columns ≡ Some e = ap (find_id column_id e.id) whole.agrees.resources_have ∙ listed in
      let is_given : is_data g e.id ≡ true = ap (λ o. passes o (λ (d : ColDef). not d.info.is_formula)) there ∙ ap not data' in
      let changed : List ℕ = rows_changed g e.id f rows in
      any_indirect d changed (BulkUpdate resources_id changed (column_changed g e.id f changed ∷ []))
      (valid_update g (sound_resources s whole) e there f fits rows ascend known d resources_id (metadata_table resources_id g)
      (record_resources d then' ∙ ap (λ g. Some (metadata_table resources_id g)) same) is_given known)

  ascending : IsAscending (resources s).rows
  ascending = (sound_resources s whole).is_grid.ascending

  pub valid-tables_moved : (old new : List ℕ) → is_name new ≡ true → all_valid d (map action_of (tables_moved s old new)) ≡ true
  valid-tables_moved old new named =
      ap (λ g. all_valid d (map action_of (update_changed resources_id g (codes "tableId") (table_renamed old new) g.rows))) (grid_resources s whole)
      ∙ moved_valid (metadata_column (codes "tableId") Text) refl refl (table_renamed old new) (table_base old new (short_name new named)) (resources s).rows ascending (λ q here. here)

  pub valid-columns_moved : (table old new : List ℕ) → all_valid d (map action_of (columns_moved s table old new)) ≡ true
  valid-columns_moved table old new =
      let about : ℕ → Bool = λ r. names_table table (cell column_id (resources s) (codes "tableId") r) in
      ap (λ g. all_valid d (map action_of (update_changed resources_id g (codes "colIds") (columns_renamed old new) (rows_about g table)))) (grid_resources s whole)
      ∙ moved_valid (metadata_column (codes "colIds") Text) refl refl (columns_renamed old new) (columns_base old new) (rows_about (resources s) table) (IsAscending-filter about (resources s).rows ascending)
      (λ q here. (and_parts (about q) (has (resources s).rows q) (sym (has-filter about (resources s).rows q) ∙ here)).1)

-- ---- no schema action changes the table of resources

kept_by : (b : Bool) (s e : Document) → resources e ≡ resources s → resources (cond b e s) ≡ resources s
kept_by true s e h = h
kept_by false s e h = refl

pub kept-rename_table : (s : Document) (table new : List ℕ) → resources (apply s (RenameTable table new)) ≡ resources s
kept-rename_table s table new = kept_by (valid s (RenameTable table new)) s (effect s (RenameTable table new)) refl

pub kept-rename_column : (s : Document) (table column new : List ℕ) → resources (apply s (RenameColumn table column new)) ≡ resources s
kept-rename_column s table column new = kept_by (valid s (RenameColumn table column new)) s (effect s (RenameColumn table column new)) refl

pub kept-led : (new : List ℕ) (s : Document) (ks : List Referrer) → resources (apply_all s (map action_of (map (led_to new) ks))) ≡ resources s
kept-led new s [] = refl
kept-led new s (k ∷ ks) =
    let a : DocAction = ModifyColumn k.table k.column.id (info_to new k.column.info) in
    kept-led new (apply s a) ks ∙ kept_by (valid s a) s (effect s a) refl

-- ---- steps behind steps

all_valid-append : (s : Document) (as' bs : List DocAction) → all_valid s as' ≡ true → all_valid (apply_all s as') bs ≡ true → all_valid s (as' ++ bs) ≡ true
all_valid-append s [] bs h k = k
all_valid-append s (a ∷ as') bs h k =
    let p : (valid s a ≡ true) × (all_valid (apply s a) as' ≡ true) = and_parts (valid s a) (all_valid (apply s a) as') h in
    both_true (valid s a) (all_valid (apply s a) (as' ++ bs)) p.0 (all_valid-append (apply s a) as' bs p.1 k)

pub valid-behind : (s : Document) (xs ys : List Step) → all_valid s (map action_of xs) ≡ true → all_valid (apply_all s (map action_of xs)) (map action_of ys) ≡ true → all_valid s (map action_of (xs ++ ys)) ≡ true
valid-behind s xs ys h k = ap (all_valid s) (map-append action_of xs ys) ∙ all_valid-append s (map action_of xs) (map action_of ys) h k
