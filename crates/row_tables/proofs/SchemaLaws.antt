-- What a schema action makes of all tables.
use Rattle.std.proofs.Common.{ℕ, zero, suc, true, false, cond, not, ◌&&◌, ◌||◌, Bool, List, [], ◌∷◌, drop, get_or, set, length, ◌≡◌, ◌<◌, refl, sym, ap, subst, ◌∙◌, Some, None, is_some, slice_get, ltb, arith}
use Rattle.std.proofs.lemmas.Bool.{false≢true, true≢false, le-ltb}
use Rattle.std.proofs.lemmas.List.{set-set, set-get_or, get_or_default}
use Rattle.std.proofs.lemmas.Option.{slice_get_read}
use Rattle.std.proofs.lemmas.Slice.Eq.{bytes_eq-Decides}
use Rattle.std.specs.List.{AllByRecursion, remove}
use Rattle.std.specs.Str.{bytes_eq}
use Rattle.doc_model.specs.declared.action.DocAction.{DocAction}
use Rattle.doc_model.specs.declared.action.DocAction.TheVariants.{BulkAdd, BulkUpdate, BulkRemove, AddTable, RemoveTable, RenameTable, AddColumn, RemoveColumn, RenameColumn, ModifyColumn}
use Rattle.doc_model.specs.MetadataIds.{tables_id, columns_id, resources_id, rules_id, is_metadata_id}
use Rattle.doc_model.specs.ByIds.{find_id, has_id, AreDistinct, without_id}
use Rattle.doc_model.specs.Column.{column_id, is_sound_info}
use Rattle.doc_model.specs.Document.{Table, Document, table_id, table_row, with_table, put_by_row}
use Rattle.doc_model.specs.DocumentLaws.{IsWhole}
use Rattle.doc_model.specs.Grid.{Grid}
use Rattle.doc_model.specs.declared.column.ColDef.{ColDef}
use Rattle.doc_model.specs.Schema.{metadata_table, tables_grid, columns_grid, with_schema, resources, rules, plain_tables}
use Rattle.doc_model.specs.Valid.{passes, schema_table, is_new_table, is_new_column, are_free, all_null, valid}
use Rattle.doc_model.specs.Apply.{new_table, apply}
use Rattle.doc_model.proofs.Choices.{cond_true, cond_false, each_weaker, filter_all}
use Rattle.doc_model.proofs.ByIdsLaws.{bytes_apart, found_id, has_id-find}
use Rattle.doc_model.proofs.DocumentParts.{passes_parts, schema_table_parts, applied}
use Rattle.doc_model.proofs.WholeLaws.{IsPlain}
use Rattle.row_tables.specs.Back.{with_tables}
use Rattle.row_tables.specs.Steps.{is_record, table_named, table_change, plain_after}
use Rattle.row_tables.specs.declared.schema.SchemaTables.{SchemaTables}
use Rattle.row_tables.proofs.StepLaws.{each_index, with_table-at, schema_effect}

-- ---- tables by their indexes

-- another table written at an index, and the one before it written back
pub set_back : (s : List Table) (i : ℕ) (new : Table) → set (set s i new) i (get_or s i new) ≡ s
set_back s i new = set-set s i new (get_or s i new) ∙ set-get_or s i new

module _ (id : List ℕ) where
  -- a table of another id stays
  stays : (t : Table) (s : List Table) → bytes_eq t.id id ≡ false → without_id table_id id (t ∷ s) ≡ t ∷ without_id table_id id s
  stays t s apart = cond_true (not (bytes_eq t.id id)) (t ∷ without_id table_id id s) (without_id table_id id s) (ap not apart)

  goes : (t : Table) (s : List Table) → bytes_eq t.id id ≡ true → without_id table_id id (t ∷ s) ≡ without_id table_id id s
  goes t s is = cond_false (not (bytes_eq t.id id)) (t ∷ without_id table_id id s) (without_id table_id id s) (ap not is)

  others_stay : (s : List Table) → AllByRecursion (λ v. bytes_eq id v.id ≡ false) s → without_id table_id id s ≡ s
  others_stay s h =
      filter_all (λ v. not (bytes_eq (table_id v) id)) s
      (each_weaker (λ v. bytes_eq id v.id ≡ false) (λ v. not (bytes_eq (table_id v) id) ≡ true) (λ v apart. ap not (bytes_apart id v.id apart)) s h)

  -- what is left where the table of that id is taken out of its place
  pub without_id-at : (s : List Table) (i : ℕ) (t : Table) → AreDistinct table_id s → i < length s → t ≡ get_or s i t → t.id ≡ id → remove s i ≡ without_id table_id id s
  without_id-at [] i t d l e is = absurd (omega arith)
  without_id-at (u ∷ s) zero t d l e is =
      let name : u.id ≡ id = ap (λ v. v.id) (sym e) ∙ is in
      sym (goes u s ((bytes_eq-Decides u.id id).1 name) ∙ others_stay s (subst (λ n. AllByRecursion (λ v. bytes_eq n v.id ≡ false) s) name d.0))
  without_id-at (u ∷ s) (suc i) t d l e is =
      let apart : bytes_eq u.id id ≡ false = ap (bytes_eq u.id) (sym (ap (λ v. v.id) (sym e) ∙ is)) ∙ each_index (λ v. bytes_eq u.id v.id ≡ false) s i t d.0 (omega arith) in
      ap (λ r. u ∷ r) (without_id-at s i t d.1 (omega arith) e is) ∙ sym (stays u s apart)

-- what stands at an index
stands : (s : Document) (i : ℕ) → i < length s → (t : Table) × (t ≡ get_or s i t)
stands [] i l = absurd (omega arith)
stands (x ∷ s) i l = (get_or (x ∷ s) i x, get_or_default (x ∷ s) i x (get_or (x ∷ s) i x) l)

module _ (s read : Document) (id : List ℕ) (i : ℕ) (d : AreDistinct table_id s) (same : read ≡ s) (l : i < length read) (g : slice_get read i ≡ find_id table_id id read) where
  within : i < length s
  within = subst (λ z. i < length z) same l

  found : (t : Table) → t ≡ get_or s i t → t.id ≡ id
  found t e = found_id table_id id s t (sym (subst (λ z. slice_get z i ≡ find_id table_id id z) same g) ∙ slice_get_read s (length s) i t refl within e)

  -- the table of that id, found and taken out
  pub taken_found : remove s i ≡ without_id table_id id s
  taken_found =
      let t : (t : Table) × (t ≡ get_or s i t) = stands s i within in
      without_id-at id s i t.0 d within t.1 (found t.0 t.1)

  -- or changed
  pub changed_found : (f : Table → Table) (t : Table) → t ≡ get_or s i t → set s i (f t) ≡ with_table id f s
  changed_found f t e = with_table-at id f s i t d within e (found t e)

-- ---- the table that a schema action names

-- what is not found is not there
pub not_there : (s : Document) (id : List ℕ) → find_id table_id id s ≡ None → has_id table_id s id ≡ true → ⊥
not_there s id none there = false≢true (sym (has_id-find table_id id s ∙ ap is_some none) ∙ there)

there_found : (s : Document) (id : List ℕ) (t : Table) → find_id table_id id s ≡ Some t → has_id table_id s id ≡ true
there_found s id t found = has_id-find table_id id s ∙ ap is_some found

schema_found : (s : Document) (id : List ℕ) (t : Table) → schema_table s id ≡ Some t → find_id table_id id s ≡ Some t
schema_found s id t =
    elim (is_metadata_id id) as (λ b. cond b None (find_id table_id id s) ≡ Some t → find_id table_id id s ≡ Some t) [ true ↦ λ e. absurd (cc) | false ↦ λ e. e ]

-- the test that a table passes where it is named by a valid action, but for one that comes
abbrev pub asked : Document → DocAction → Table → Bool
asked s (RenameTable table new) t = is_new_table s new
asked s (AddColumn table d) t =
    is_new_column t.grid d.id && are_free s columns_id (d.row ∷ []) && is_sound_info d.info
asked s (RemoveColumn table column) t = has_id column_id t.grid.columns column
asked s (RenameColumn table column new) t =
    has_id column_id t.grid.columns column && is_new_column t.grid new
asked s (ModifyColumn table column info) t =
    has_id column_id t.grid.columns column && is_sound_info info
    && (not info.is_formula || all_null t.grid column)
asked s _ t = true

-- whether the table is one that comes
abbrev pub is_new : DocAction → Bool
is_new (AddTable table row columns) = true
is_new _ = false

-- what is not the action that adds a table
pub not_new : (a : DocAction) → ((table : List ℕ) (row : ℕ) (columns : List ColDef) → a ≡ AddTable table row columns → ⊥) → is_new a ≡ false
not_new (BulkAdd table rows ks) h = refl
not_new (BulkUpdate table rows ks) h = refl
not_new (BulkRemove table rows) h = refl
not_new (AddTable table row columns) h = absurd (h table row columns refl)
not_new (RemoveTable table) h = refl
not_new (RenameTable table new) h = refl
not_new (AddColumn table d) h = refl
not_new (RemoveColumn table column) h = refl
not_new (RenameColumn table column new) h = refl
not_new (ModifyColumn table column info) h = refl

asks : (s : Document) (a : DocAction) → is_record a ≡ false → is_new a ≡ false → valid s a ≡ true → passes (schema_table s (table_named a)) (asked s a) ≡ true
asks s (BulkAdd table rows ks) e n v = absurd (true≢false e)
asks s (BulkUpdate table rows ks) e n v = absurd (true≢false e)
asks s (BulkRemove table rows) e n v = absurd (true≢false e)
asks s (AddTable table row columns) e n v = absurd (true≢false n)
asks s (RemoveTable table) e n v = v
asks s (RenameTable table new) e n v = v
asks s (AddColumn table d) e n v = v
asks s (RemoveColumn table column) e n v = v
asks s (RenameColumn table column new) e n v = v
asks s (ModifyColumn table column info) e n v = v

module _ (s : Document) (a : DocAction) (e : is_record a ≡ false) (n : is_new a ≡ false) (v : valid s a ≡ true) where
  table_of : (t : Table) × ((schema_table s (table_named a) ≡ Some t) × (asked s a t ≡ true))
  table_of = passes_parts (schema_table s (table_named a)) (asked s a) (asks s a e n v)

  -- the table is there
  pub named_there : has_id table_id s (table_named a) ≡ true
  named_there = there_found s (table_named a) table_of.0 (schema_found s (table_named a) table_of.0 table_of.1.0)

named_plain : (r u : Grid ColDef) (p : List Table) (a : DocAction) → is_record a ≡ false → is_new a ≡ false → valid (with_schema r u p) a ≡ true → IsPlain (table_named a)
named_plain r u p a e n v =
    let found = table_of (with_schema r u p) a e n v in
    (schema_table_parts r u p (table_named a) found.0 found.1.0).0

-- ---- the metadata tables stay where they are

-- the metadata tables of these plain tables, above others
abbrev pub above : Grid ColDef → Grid ColDef → List Table → List Table → Document
above r u p q =
    metadata_table tables_id (tables_grid p) ∷ metadata_table columns_id (columns_grid p)
    ∷ metadata_table resources_id r ∷ metadata_table rules_id u ∷ q

-- what passes four tables over
passed : (f : List Table → List Table) (a b c d : Table) (p : List Table) → ((s : List Table) → f (a ∷ s) ≡ a ∷ f s) → ((s : List Table) → f (b ∷ s) ≡ b ∷ f s) → ((s : List Table) → f (c ∷ s) ≡ c ∷ f s) → ((s : List Table) → f (d ∷ s) ≡ d ∷ f s)
    → f (a ∷ b ∷ c ∷ d ∷ p) ≡ a ∷ b ∷ c ∷ d ∷ f p
passed f a b c d p ha hb hc hd = ha (b ∷ c ∷ d ∷ p) ∙ ap (λ s. a ∷ s) (hb (c ∷ d ∷ p)) ∙ ap (λ s. a ∷ b ∷ s) (hc (d ∷ p)) ∙ ap (λ s. a ∷ b ∷ c ∷ s) (hd p)

module _ (r u : Grid ColDef) (p : List Table) where
  at_plain : (f : List Table → List Table) (id : List ℕ) → IsPlain id → ((t : Table) (s : List Table) → bytes_eq t.id id ≡ false → f (t ∷ s) ≡ t ∷ f s) → f (with_schema r u p) ≡ above r u p (f p)
  at_plain f id h step =
      passed f (metadata_table tables_id (tables_grid p)) (metadata_table columns_id (columns_grid p)) (metadata_table resources_id r) (metadata_table rules_id u) p
      (λ s. step (metadata_table tables_id (tables_grid p)) s h.tables) (λ s. step (metadata_table columns_id (columns_grid p)) s h.columns)
      (λ s. step (metadata_table resources_id r) s h.resources) (λ s. step (metadata_table rules_id u) s h.rules)

  changed_plain : (id : List ℕ) (f : Table → Table) → IsPlain id → with_table id f (with_schema r u p) ≡ above r u p (with_table id f p)
  changed_plain id f h = at_plain (with_table id f) id h (λ t s apart. ap (λ x. x ∷ with_table id f s) (cond_false (bytes_eq t.id id) (f t) t apart))

  put_plain : (new : Table) → put_by_row table_row new (with_schema r u p) ≡ above r u p (put_by_row table_row new p)
  put_plain new =
      passed (put_by_row table_row new) (metadata_table tables_id (tables_grid p)) (metadata_table columns_id (columns_grid p)) (metadata_table resources_id r) (metadata_table rules_id u) p
      (past (metadata_table tables_id (tables_grid p)) refl) (past (metadata_table columns_id (columns_grid p)) refl) (past (metadata_table resources_id r) refl) (past (metadata_table rules_id u) refl)
    where
      past : (t : Table) → t.row ≡ 0 → (s : List Table) → put_by_row table_row new (t ∷ s) ≡ t ∷ put_by_row table_row new s
      past t zero' s = cond_false (ltb new.row t.row) (new ∷ t ∷ s) (t ∷ put_by_row table_row new s) (le-ltb new.row t.row (omega (arith, zero')))

  plain_of : (a : DocAction) → is_record a ≡ false → valid (with_schema r u p) a ≡ true → plain_after a (with_schema r u p) ≡ above r u p (plain_after a p)
  plain_of (BulkAdd table rows ks) e v = absurd (true≢false e)
  plain_of (BulkUpdate table rows ks) e v = absurd (true≢false e)
  plain_of (BulkRemove table rows) e v = absurd (true≢false e)
  plain_of (AddTable table row columns) e v = put_plain (new_table table row columns)
  plain_of (RemoveTable table) e v = at_plain (without_id table_id table) table (named_plain r u p (RemoveTable table) e refl v) (stays table)
  plain_of (RenameTable table new) e v = changed_plain table (table_change (RenameTable table new)) (named_plain r u p (RenameTable table new) e refl v)
  plain_of (AddColumn table d) e v = changed_plain table (table_change (AddColumn table d)) (named_plain r u p (AddColumn table d) e refl v)
  plain_of (RemoveColumn table column) e v = changed_plain table (table_change (RemoveColumn table column)) (named_plain r u p (RemoveColumn table column) e refl v)
  plain_of (RenameColumn table column new) e v = changed_plain table (table_change (RenameColumn table column new)) (named_plain r u p (RenameColumn table column new) e refl v)
  plain_of (ModifyColumn table column info) e v = changed_plain table (table_change (ModifyColumn table column info)) (named_plain r u p (ModifyColumn table column info) e refl v)

module _ (s : Document) (a : DocAction) (whole : IsWhole s) (e : is_record a ≡ false) (v : valid s a ≡ true) where
  moved : plain_after a s ≡ above (resources s) (rules s) (plain_tables s) (plain_after a (plain_tables s))
  moved =
      ap (plain_after a) whole.agrees.schema
      ∙ plain_of (resources s) (rules s) (plain_tables s) a e (subst (λ d. valid d a ≡ true) whole.agrees.schema v)

  -- with the schema tables that describe them they are the tables after the action
  pub schema_done : (schema : SchemaTables) → schema.tables ≡ metadata_table tables_id (tables_grid (drop 4 (plain_after a s))) → schema.columns ≡ metadata_table columns_id (columns_grid (drop 4 (plain_after a s)))
      → with_tables schema (plain_after a s) ≡ apply s a
  schema_done schema et ec =
      let q : List Table = plain_after a (plain_tables s) in
      let rest : List Table = metadata_table resources_id (resources s) ∷ metadata_table rules_id (rules s) ∷ q in
      ap (with_tables schema) moved
      ∙ ap (λ t. t ∷ schema.columns ∷ rest) (et ∙ ap (λ z. metadata_table tables_id (tables_grid (drop 4 z))) moved)
      ∙ ap (λ t. metadata_table tables_id (tables_grid q) ∷ t ∷ rest) (ec ∙ ap (λ z. metadata_table columns_id (columns_grid (drop 4 z))) moved)
      ∙ sym (schema_effect s a e) ∙ sym (applied s a v)
