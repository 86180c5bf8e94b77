-- The steps that change what a column is are valid at their places.
use Rattle.std.proofs.Common.{ℕ, Bool, true, false, cond, not, ◌&&◌, ◌||◌, List, [], ◌∷◌, ◌++◌, map, ◌≡◌, refl, sym, ap, subst, ◌∙◌, Option, Some, None, unwrap_or, option_map}
use Rattle.std.proofs.lemmas.Bool.{true≢false}
use Rattle.std.specs.Str.{bytes_eq}
use Rattle.cell_types.specs.declared.column_type.ColType.{ColType}
use Rattle.cell_types.specs.declared.value.CellValue.{CellValue}
use Rattle.cell_types.specs.declared.value.CellValue.TheVariants.{Null}
use Rattle.cell_types.specs.ColumnRange.{is_null}
use Rattle.cell_types.specs.Conversion.{default_value, fit}
use Rattle.doc_model.specs.declared.action.DocAction.{DocAction}
use Rattle.doc_model.specs.declared.action.DocAction.TheVariants as action
use Rattle.doc_model.specs.declared.action.Step.{Step}
use Rattle.doc_model.specs.declared.column.CellColumn.{CellColumn}
use Rattle.doc_model.specs.declared.column.ColDef.{ColDef}
use Rattle.doc_model.specs.declared.column.ColInfo.{ColInfo}
use Rattle.doc_model.specs.declared.user_action.UserAction.TheVariants as user
use Rattle.doc_model.specs.declared.user_action.UserCol.{UserCol}
use Rattle.doc_model.specs.Apply.{apply, all_valid, with_column, with_info}
use Rattle.doc_model.specs.ByIds.{find_id, has_id}
use Rattle.doc_model.specs.Column.{column_id, is_base, is_empty, is_short, is_sound_info, is_sound_type}
use Rattle.doc_model.specs.Document.{Table, Document, table_id, on_grid, with_table}
use Rattle.doc_model.specs.DocumentLaws.{IsWhole}
use Rattle.doc_model.specs.Grid.{Grid, cell}
use Rattle.doc_model.specs.MetadataIds.{is_metadata_id}
use Rattle.doc_model.specs.Records.{given, update_rows, value_for}
use Rattle.doc_model.specs.Rows.{has}
use Rattle.doc_model.specs.Same.{same_value}
use Rattle.doc_model.specs.Schema.{with_schema, resources, rules, plain_tables, no_grid}
use Rattle.doc_model.specs.Sound.{IsSoundGrid}
use Rattle.doc_model.specs.Valid.{all_null, is_data, passes, schema_table, valid}
use Rattle.doc_model.specs.ViewEdits.{if_any}
use Rattle.doc_model.proofs.ByIdsLaws.{bytes_itself, found_all, found_id, has_found}
use Rattle.doc_model.proofs.ByRowLaws.{find-with_id}
use Rattle.doc_model.proofs.Choices.{both_true, cond_true, parts_3, true_each}
use Rattle.doc_model.proofs.DocumentParts.{applied, find_plain, passes_parts, record_table_plain, schema_table_parts, schema_table_plain}
use Rattle.doc_model.proofs.GridLaws.{cell-grid_of}
use Rattle.doc_model.proofs.RecordsLaws.{value_for-map}
use Rattle.doc_model.proofs.RowsLaws.{each_has, has-filter}
use Rattle.doc_model.proofs.SameLaws.{same_value-Decides}
use Rattle.doc_model.proofs.SoundLaws.{base_default, null_held}
use Rattle.doc_model.proofs.WholeLaws.{IsGood, IsPlain, good_from}
use Rattle.doc_readers.specs.Parts.{grid_at}
use Rattle.user_actions.specs.Allowed.{is_allowed}
use Rattle.user_actions.specs.CellUpdates.{column_changed, rows_changed, update_changed}
use Rattle.user_actions.specs.Columns.{info_said, may_become}
use Rattle.user_actions.specs.Marked.{direct, indirect}
use Rattle.user_actions.specs.Modified.{modified, modified_to, same_info}
use Rattle.user_actions.specs.StepLaws.{action_of}
use Rattle.user_actions.proofs.ClearedLemmas.{valid_update}
use Rattle.user_actions.proofs.ColumnLemmas.{info_sound}

-- ---- a step beside another one that stands where there are rows

two_valid : (s : Document) (a b : DocAction) (rows : List ℕ) → valid s a ≡ true → valid (apply s a) b ≡ true → all_valid s (map action_of (direct a ∷ if_any rows (indirect b))) ≡ true
two_valid s a b [] va vb = both_true (valid s a) true va refl
two_valid s a b (q ∷ rows) va vb = both_true (valid s a) (valid (apply s a) b && true) va (both_true (valid (apply s a) b) true vb refl)

behind_valid : (s : Document) (b a : DocAction) (rows : List ℕ) → (rows ≡ [] → valid s a ≡ true) → valid s b ≡ true → valid (apply s b) a ≡ true → all_valid s (map action_of (if_any rows (indirect b) ++ direct a ∷ [] ++ [])) ≡ true
behind_valid s b a [] none vb va = both_true (valid s a) true (none refl) refl
behind_valid s b a (q ∷ rows) none vb va = both_true (valid s b) (valid (apply s b) a && true) vb (both_true (valid (apply s b) a) true va refl)

unless_valid : (s : Document) (b : Bool) (steps : List Step) → all_valid s (map action_of steps) ≡ true → all_valid s (map action_of (cond b [] steps)) ≡ true
unless_valid s true steps h = refl
unless_valid s false steps h = h

-- ---- the cells of a column that is emptied

module _ (g : Grid ColDef) (d : ColDef) (there : find_id column_id d.id g.columns ≡ Some d) where
  abbrev rows_emptied : List ℕ
  rows_emptied = rows_changed g d.id (λ _. Null) g.rows

  abbrev nulls : CellColumn
  nulls = column_changed g d.id (λ _. Null) rows_emptied

  abbrev g_emptied : Grid ColDef
  g_emptied = update_rows column_id rows_emptied (nulls ∷ []) g

  left_null : (r : ℕ) → has g.rows r ≡ true → has rows_emptied r ≡ false → cell column_id g d.id r ≡ Null
  left_null r here isnt =
      let same : ℕ → Bool = λ q. same_value (cell column_id g d.id q) Null in
      (same_value-Decides (cell column_id g d.id r) Null).0
      (is_same (same r) (ap (λ b. not (same r) && b) (sym here) ∙ sym (has-filter (λ q. not (same q)) g.rows r) ∙ isnt))
    where
      is_same : (b : Bool) → (not b && true) ≡ false → b ≡ true
      is_same true e = refl
      is_same false e = absurd (true≢false e)

  cell_emptied : (r : ℕ) → has g.rows r ≡ true → cell column_id g_emptied d.id r ≡ Null
  cell_emptied r here =
      let before : CellValue = cell column_id g d.id r in
      cell-grid_of column_id g.columns g.rows (λ e q. unwrap_or (given rows_emptied (nulls ∷ []) (column_id e) q) (cell column_id g (column_id e) q)) d r there here
      ∙ ap (λ b. unwrap_or (cond b (value_for rows_emptied nulls.values r) None) before) (bytes_itself d.id)
      ∙ ap (λ o. unwrap_or o before) (value_for-map rows_emptied (λ _. Null) r)
      ∙ elim (has rows_emptied r) as (λ b. has rows_emptied r ≡ b → unwrap_or (cond b (Some Null) None) before ≡ Null) [
        | true ↦ λ _. refl
        | false ↦ λ isnt. left_null r here isnt
      ] refl

  all_null-emptied : all_null g_emptied d.id ≡ true
  all_null-emptied = true_each (λ r. is_null (cell column_id g_emptied d.id r)) g.rows (each_has (λ r. is_null (cell column_id g_emptied d.id r) ≡ true) g.rows (λ r here. ap is_null (cell_emptied r here)))

  all_null-before : rows_emptied ≡ [] → all_null g d.id ≡ true
  all_null-before none = true_each (λ r. is_null (cell column_id g d.id r)) g.rows (each_has (λ r. is_null (cell column_id g d.id r) ≡ true) g.rows (λ r here. ap is_null (left_null r here (ap (λ rows. has rows r) none))))

-- the cells of a formula column are null
all_null-formula : (g : Grid ColDef) → IsSoundGrid g → (d : ColDef) → find_id column_id d.id g.columns ≡ Some d → d.info.is_formula ≡ true → all_null g d.id ≡ true
all_null-formula g sound d there formula =
    true_each (λ r. is_null (cell column_id g d.id r)) g.rows
    (each_has (λ r. is_null (cell column_id g d.id r) ≡ true) g.rows (λ r here. ap is_null (null_held d (cell column_id g d.id r) formula (sound.holds d r there here))))

-- ---- one step

-- a table of a schema action, changed
schema_with : (s : Document) (table : List ℕ) (f : Grid ColDef → Grid ColDef) (t : Table) → schema_table s table ≡ Some t → schema_table (with_table table (on_grid f) s) table ≡ Some (on_grid f t)
schema_with s table f t found =
    ap (λ o. cond (is_metadata_id table) None o) (find-with_id table_id table (on_grid f) (λ x. refl) s table ∙ cond_true (bytes_eq table table) (option_map (on_grid f) (find_id table_id table s)) (find_id table_id table s) (bytes_itself table))
    ∙ over (is_metadata_id table) (find_id table_id table s)
    ∙ ap (option_map (on_grid f)) found
  where
    over : (b : Bool) (o : Option Table) → cond b None (option_map (on_grid f) o) ≡ option_map (on_grid f) (cond b None o)
    over true o = refl
    over false o = refl

modify_valid : (s : Document) (table : List ℕ) (t : Table) (d : ColDef) (info : ColInfo) → schema_table s table ≡ Some t → find_id column_id d.id t.grid.columns ≡ Some d → is_sound_info info ≡ true → (not info.is_formula || all_null t.grid d.id) ≡ true
    → valid s (action.ModifyColumn table d.id info) ≡ true
modify_valid s table t d info found there sound null =
    ap (λ o. passes o (λ x. has_id column_id x.grid.columns d.id && is_sound_info info && (not info.is_formula || all_null x.grid d.id))) found
    ∙ both_true (has_id column_id t.grid.columns d.id && is_sound_info info) (not info.is_formula || all_null t.grid d.id)
    (both_true (has_id column_id t.grid.columns d.id) (is_sound_info info) (has_found column_id d.id t.grid.columns d there) sound) null

or_last : (a b : Bool) → b ≡ true → (a || b) ≡ true
or_last true b h = refl
or_last false b h = h

or_first : (a b : Bool) → a ≡ false → (not a || b) ≡ true
or_first true b h = absurd (true≢false h)
or_first false b h = refl

-- ---- a plain table's column of another info

module _ (r u : Grid ColDef) (p : List Table) (good : IsGood r u p) (table : List ℕ) (t : Table) (plain : IsPlain table) (found : find_id table_id table p ≡ Some t)
    (d : ColDef) (there : find_id column_id d.id t.grid.columns ≡ Some d) (info : ColInfo) (sound : is_sound_info info ≡ true) where
  abbrev whole : Document
  whole = with_schema r u p

  abbrev changed : Grid ColDef → Grid ColDef
  changed = with_column d.id (with_info info)

  abbrev after : Document
  after = with_schema r u (with_table table (on_grid changed) p)

  abbrev modify : DocAction
  modify = action.ModifyColumn table d.id info

  sound_t : IsSoundGrid t.grid
  sound_t = found_all table_id (λ t. IsSoundGrid t.grid) table p t good.grids found

  schema_found : schema_table whole table ≡ Some t
  schema_found = schema_table_plain r u p table plain ∙ found

  valid_info : (not info.is_formula || all_null t.grid d.id) ≡ true → valid whole modify ≡ true
  valid_info null = modify_valid whole table t d info schema_found there sound null

  found_after : find_id table_id table (with_table table (on_grid changed) p) ≡ Some (on_grid changed t)
  found_after =
      find-with_id table_id table (on_grid changed) (λ x. refl) p table
      ∙ cond_true (bytes_eq table table) (option_map (on_grid changed) (find_id table_id table p)) (find_id table_id table p) (bytes_itself table)
      ∙ ap (option_map (on_grid changed)) found

  data_after : info.is_formula ≡ false → is_data (changed t.grid) d.id ≡ true
  data_after data' =
      ap (λ o. passes o (λ (d : ColDef). not d.info.is_formula))
      (find-with_id column_id d.id (with_info info) (λ x. refl) t.grid.columns d.id
      ∙ cond_true (bytes_eq d.id d.id) (option_map (with_info info) (find_id column_id d.id t.grid.columns)) (find_id column_id d.id t.grid.columns) (bytes_itself d.id)
      ∙ ap (option_map (with_info info)) there)
      ∙ ap not data'

  -- a data column behind the change, and its cells
  valid_filled : (f : CellValue → CellValue) → ((v : CellValue) → is_base v ≡ true → is_base (f v) ≡ true) → info.is_formula ≡ false
      → all_valid whole (map action_of (direct modify ∷ update_changed table t.grid d.id f t.grid.rows)) ≡ true
  valid_filled f fits data' =
      let rows : List ℕ = rows_changed t.grid d.id f t.grid.rows in
      let b : DocAction = action.BulkUpdate table rows (column_changed t.grid d.id f rows ∷ []) in
      let first : valid whole modify ≡ true = valid_info (or_first info.is_formula (all_null t.grid d.id) data') in
      let second : valid after b ≡ true = valid_update t.grid sound_t d there f fits t.grid.rows sound_t.is_grid.ascending (λ q here. here)
      after table (on_grid changed t) (record_table_plain r u (with_table table (on_grid changed) p) table plain ∙ found_after) (data_after data') (λ q here. here) in
      let leads : apply whole modify ≡ after = applied whole modify first in
      two_valid whole modify b rows first (ap (λ s. valid s b) leads ∙ second)

  -- null cells, and a formula column behind them
  valid_emptied : d.info.is_formula ≡ false → all_valid whole (map action_of (update_changed table t.grid d.id (λ _. Null) t.grid.rows ++ direct modify ∷ [] ++ [])) ≡ true
  valid_emptied data' =
      let rows : List ℕ = rows_emptied t.grid d there in
      let b : DocAction = action.BulkUpdate table rows (nulls t.grid d there ∷ []) in
      let f : Grid ColDef → Grid ColDef = update_rows column_id rows (nulls t.grid d there ∷ []) in
      let given_data : is_data t.grid d.id ≡ true = ap (λ o. passes o (λ (d : ColDef). not d.info.is_formula)) there ∙ ap not data' in
      let first : valid whole b ≡ true = valid_update t.grid sound_t d there (λ _. Null) (λ v h. refl) t.grid.rows sound_t.is_grid.ascending (λ q here. here)
      whole table t (record_table_plain r u p table plain ∙ found) given_data (λ q here. here) in
      let second : valid (with_table table (on_grid f) whole) modify ≡ true = modify_valid (with_table table (on_grid f) whole) table (on_grid f t) d info (schema_with whole table f t schema_found) there sound
      (or_last (not info.is_formula) (all_null (f t.grid) d.id) (all_null-emptied t.grid d there)) in
      behind_valid whole b modify rows
      (λ none. valid_info (or_last (not info.is_formula) (all_null t.grid d.id) (all_null-before t.grid d there none)))
      first (ap (λ s. valid s modify) (applied whole b first) ∙ second)

  -- a formula column as before
  valid_alone : d.info.is_formula ≡ true → all_valid whole (map action_of (direct modify ∷ [])) ≡ true
  valid_alone formula =
      both_true (valid whole modify) true (valid_info (or_last (not info.is_formula) (all_null t.grid d.id) (all_null-formula t.grid sound_t d there formula))) refl

  each_valid : ((ty : ColType) (v : CellValue) → is_base v ≡ true → is_base (fit ty v) ≡ true) → (was is : Bool) → d.info.is_formula ≡ was → info.is_formula ≡ is
      → all_valid whole (map action_of (cond (is && not was) (update_changed table t.grid d.id (λ _. Null) t.grid.rows) [] ++ direct modify ∷ []
      ++ cond is [] (cond was (update_changed table t.grid d.id (λ _. default_value info.ty) t.grid.rows) (update_changed table t.grid d.id (fit info.ty) t.grid.rows)))) ≡ true
  each_valid fits true true was is = valid_alone was
  each_valid fits false true was is = valid_emptied was
  each_valid fits true false was is = valid_filled (λ _. default_value info.ty) (λ v h. base_default info.ty) is
  each_valid fits false false was is = valid_filled (fit info.ty) (fits info.ty) is

  valid_modified_to : ((ty : ColType) (v : CellValue) → is_base v ≡ true → is_base (fit ty v) ≡ true) → all_valid whole (map action_of (modified_to table t.grid d info)) ≡ true
  valid_modified_to fits = unless_valid whole (same_info d.info info) _ (each_valid fits d.info.is_formula info.is_formula refl refl)

-- ---- in a whole document

valid_parts : ((ty : ColType) (v : CellValue) → is_base v ≡ true → is_base (fit ty v) ≡ true) → (r u : Grid ColDef) (p : List Table) → IsGood r u p → (table : List ℕ) (c : UserCol)
    → is_allowed (with_schema r u p) (user.ModifyColumn table c) ≡ true → all_valid (with_schema r u p) (map action_of (modified table (grid_at (with_schema r u p) table) c)) ≡ true
valid_parts fits r u p good table c h =
    let s : Document = with_schema r u p in
    let parts : (t : Table) × ((schema_table s table ≡ Some t) × (passes (find_id column_id c.id t.grid.columns) (λ d. may_become d.info.is_formula c) ≡ true))
    = passes_parts (schema_table s table) (λ t. passes (find_id column_id c.id t.grid.columns) (λ d. may_become d.info.is_formula c)) h in
    let t : Table = parts.0 in
    let at : IsPlain table × (find_id table_id table p ≡ Some t) = schema_table_parts r u p table t parts.1.0 in
    let column : (d : ColDef) × ((find_id column_id c.id t.grid.columns ≡ Some d) × (may_become d.info.is_formula c ≡ true)) = passes_parts (find_id column_id c.id t.grid.columns) (λ d. may_become d.info.is_formula c) parts.1.1 in
    let d : ColDef = column.0 in
    let found : find_id column_id c.id t.grid.columns ≡ Some d = column.1.0 in
    let there : find_id column_id d.id t.grid.columns ≡ Some d = ap (λ n. find_id column_id n t.grid.columns) (found_id column_id c.id t.grid.columns d found) ∙ found in
    let sound_t : IsSoundGrid t.grid = found_all table_id (λ t. IsSoundGrid t.grid) table p t good.grids at.1 in
    let sound : is_sound_info d.info ≡ true = found_all column_id (λ d. is_sound_info d.info ≡ true) c.id t.grid.columns d sound_t.infos found in
    let known = parts_3 (is_sound_type d.info.ty) (is_short d.info.formula) (d.info.is_formula || is_empty d.info.formula) sound in
    let info : ColInfo = info_said d.info c in
    let told : grid_at s table ≡ t.grid = ap (λ (o : Option Table). elim o as (λ _. Grid ColDef) [ None ↦ no_grid | Some t ↦ t.grid ]) (find_plain r u p table at.0 ∙ at.1) in
    let steps : modified table t.grid c ≡ modified_to table t.grid d info = ap (λ (o : Option ColDef). elim o as (λ _. List Step) [ None ↦ [] | Some d ↦ modified_to table t.grid d (info_said d.info c) ]) found in
    ap (λ g. all_valid s (map action_of (modified table g c))) told
    ∙ ap (λ steps. all_valid s (map action_of steps)) steps
    ∙ valid_modified_to r u p good table t at.0 at.1 d there info (info_sound d.info known.0 known.1 c column.1.1) fits

-- the steps of a column that changes are valid at their places
pub valid-modified : ((ty : ColType) (v : CellValue) → is_base v ≡ true → is_base (fit ty v) ≡ true)
    → (s : Document) → IsWhole s → (table : List ℕ) (c : UserCol) → is_allowed s (user.ModifyColumn table c) ≡ true
    → all_valid s (map action_of (modified table (grid_at s table) c)) ≡ true
valid-modified fits s whole table c =
    subst (λ d. is_allowed d (user.ModifyColumn table c) ≡ true → all_valid d (map action_of (modified table (grid_at d table) c)) ≡ true) (sym whole.agrees.schema)
    (valid_parts fits (resources s) (rules s) (plain_tables s) (good_from s whole) table c)
