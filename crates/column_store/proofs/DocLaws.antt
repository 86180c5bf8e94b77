-- What actions make of the tables of a document, and what takes that back.
use Rattle.std.proofs.Common.{ℕ, zero, suc, Bool, true, false, cond, not, ◌&&◌, ◌||◌, List, [], ◌∷◌, drop, get_or, set, length, ◌≡◌, ◌<◌, refl, sym, ap, subst, ◌∙◌, Option, Some, None, slice_get, ltb, arith}
use Rattle.std.proofs.lemmas.Bool.{false≢true, true≢false, and_parts, le-ltb}
use Rattle.std.proofs.lemmas.List.{length-set, get_or-set_same}
use Rattle.std.proofs.lemmas.Option.{slice_get_read}
use Rattle.std.specs.Str.{bytes_eq}
use Rattle.cell_types.specs.NameRule.{is_name}
use Rattle.doc_model.specs.declared.action.DocAction.{DocAction}
use Rattle.doc_model.specs.declared.action.DocAction.TheVariants.{BulkAdd, BulkUpdate, BulkRemove, AddTable, RemoveTable, RenameTable, AddColumn, RemoveColumn, RenameColumn, ModifyColumn}
use Rattle.doc_model.specs.declared.column.ColDef.{ColDef}
use Rattle.doc_model.specs.ByIds.{find_id, has_id}
use Rattle.doc_model.specs.Column.{column_id, is_sound_info}
use Rattle.doc_model.specs.Document.{Table, Document, table_id}
use Rattle.doc_model.specs.DocumentLaws.{IsWhole}
use Rattle.doc_model.specs.Grid.{Grid, IsGrid}
use Rattle.doc_model.specs.MetadataIds.{columns_id, is_metadata_id}
use Rattle.doc_model.specs.Sound.{IsSoundGrid}
use Rattle.doc_model.specs.Apply.{apply}
use Rattle.doc_model.specs.Valid.{passes, schema_table, is_new_column, are_free, all_null, valid}
use Rattle.doc_model.proofs.ByIdsLaws.{found_all}
use Rattle.doc_model.proofs.Choices.{not_true, parts_3}
use Rattle.doc_model.proofs.DocumentParts.{passes_parts}
use Rattle.doc_model.proofs.InverseLaws.{IsWhole-apply}
use Rattle.row_tables.specs.Steps.{is_record, table_change, table_named}
use Rattle.row_tables.proofs.StepLaws.{record_put, put_back}
use Rattle.column_store.specs.Back.{IfThere, there}
use Rattle.column_store.specs.Reshaped.{ReshapeAsks}

-- ---- the table at an index, changed and as it was

module _ (s : Document) (i : ℕ) (t new : Table) (l : i < length s) where
  read : slice_get (set s i new) i ≡ Some new
  read =
      let len : length (set s i new) ≡ length s = length-set s i new in
      slice_get_read (set s i new) (length (set s i new)) i new refl (subst (λ n. i < n) (sym len) l) (sym (get_or-set_same s i new new l))

  pub changed_back : (f : Table → Table) → t ≡ get_or s i t → f new ≡ t → there f i (slice_get (set s i new) i) (set s i new) ≡ s
  changed_back f e back = ap (λ o. there f i o (set s i new)) read ∙ ap (set (set s i new) i) back ∙ put_back s i t new e

  pub changed_fits : (P : Table → Type 0) → P new → IfThere P (slice_get (set s i new) i)
  changed_fits P fits = subst (IfThere P) (sym read) fits

pub there_read : (s : Document) (i : ℕ) (t : Table) (P : Table → Type 0) → i < length s → t ≡ get_or s i t → IfThere P (slice_get s i) → P t
there_read s i t P l e h = subst (IfThere P) (slice_get_read s (length s) i t refl l e) h

-- what a record action makes of the document
module _ (s found : Document) (a : DocAction) (i : ℕ) (id : List ℕ) (t : Table) (whole : IsWhole s) (v : valid s a ≡ true) (at : (i < length found) × (slice_get found i ≡ find_id table_id id found)) (ei : id ≡ table_named a) (es : found ≡ s) (e : t ≡ get_or s i t) where
  at_it : (i < length s) × (slice_get s i ≡ find_id table_id (table_named a) s)
  at_it = subst (λ d. (i < length d) × (slice_get d i ≡ find_id table_id (table_named a) d)) es (subst (λ n. (i < length found) × (slice_get found i ≡ find_id table_id n found)) ei at)

  pub record_makes : (f : Table → Table) (P : Table → Type 0) (new : Table) → is_record a ≡ true → new ≡ table_change a t → f new ≡ t → P new
      → (set s i new ≡ apply s a) × (IsWhole (there f i (slice_get (set s i new) i) (set s i new)) × IfThere P (slice_get (set s i new) i)) × (there f i (slice_get (set s i new) i) (set s i new) ≡ s)
  record_makes f P new r n back fits =
      let was : there f i (slice_get (set s i new) i) (set s i new) ≡ s = changed_back s i t new at_it.0 f e back in
      (record_put s a i t new whole.sound.distinct r v at_it.0 at_it.1 e n, (subst IsWhole (sym was) whole, changed_fits s i t new at_it.0 P fits), was)

-- ---- what a schema action asks of its table

plain_found : (s : Document) (id : List ℕ) (t : Table) → schema_table s id ≡ Some t → find_id table_id id s ≡ Some t
plain_found s id t =
    elim (is_metadata_id id) as (λ b. cond b None (find_id table_id id s) ≡ Some t → find_id table_id id s ≡ Some t) [ true ↦ λ e. absurd (cc) | false ↦ λ e. e ]

pub reshape_asks : (s : Document) (a : DocAction) (t : Table) → valid s a ≡ true → find_id table_id (table_named a) s ≡ Some t → ReshapeAsks a t.grid
reshape_asks s (BulkAdd table rows ks) t v found = tt
reshape_asks s (BulkUpdate table rows ks) t v found = tt
reshape_asks s (BulkRemove table rows) t v found = tt
reshape_asks s (AddTable table row columns) t v found = tt
reshape_asks s (RemoveTable table) t v found = tt
reshape_asks s (RenameTable table new) t v found = tt
reshape_asks s (AddColumn table d) t v found =
    let test : Table → Bool = λ u. is_new_column u.grid d.id && are_free s columns_id (d.row ∷ []) && is_sound_info d.info in
    let parts = passes_parts (schema_table s table) test v in
    let one : Some parts.0 ≡ Some t = sym (plain_found s table parts.0 parts.1.0) ∙ found in
    let same : parts.0 ≡ t = cc in
    let new : is_new_column parts.0.grid d.id ≡ true = (parts_3 (is_new_column parts.0.grid d.id) (are_free s columns_id (d.row ∷ [])) (is_sound_info d.info) parts.1.1).0 in
    not_true (has_id column_id t.grid.columns d.id) (and_parts (not (has_id column_id t.grid.columns d.id)) (is_name d.id) (subst (λ (u : Table). is_new_column u.grid d.id ≡ true) same new)).0
reshape_asks s (RemoveColumn table column) t v found =
    let parts = passes_parts (schema_table s table) (λ u. has_id column_id u.grid.columns column) v in
    let one : Some parts.0 ≡ Some t = sym (plain_found s table parts.0 parts.1.0) ∙ found in
    let same : parts.0 ≡ t = cc in
    subst (λ (u : Table). has_id column_id u.grid.columns column ≡ true) same parts.1.1
reshape_asks s (RenameColumn table column new) t v found =
    let parts = passes_parts (schema_table s table) (λ u. has_id column_id u.grid.columns column && is_new_column u.grid new) v in
    let one : Some parts.0 ≡ Some t = sym (plain_found s table parts.0 parts.1.0) ∙ found in
    let same : parts.0 ≡ t = cc in
    subst (λ (u : Table). has_id column_id u.grid.columns column ≡ true) same (and_parts (has_id column_id parts.0.grid.columns column) (is_new_column parts.0.grid new) parts.1.1).0
reshape_asks s (ModifyColumn table column info) t v found =
    let parts = passes_parts (schema_table s table) (λ u. has_id column_id u.grid.columns column && is_sound_info info && (not info.is_formula || all_null u.grid column)) v in
    let one : Some parts.0 ≡ Some t = sym (plain_found s table parts.0 parts.1.0) ∙ found in
    let same : parts.0 ≡ t = cc in
    subst (λ (u : Table). has_id column_id u.grid.columns column ≡ true) same (parts_3 (has_id column_id parts.0.grid.columns column) (is_sound_info info) (not info.is_formula || all_null parts.0.grid column) parts.1.1).0

-- a table of a whole document is a grid
pub found_grid : (s : Document) (id : List ℕ) (t : Table) → IsWhole s → find_id table_id id s ≡ Some t → IsGrid column_id t.grid
found_grid s id t whole found = (found_all table_id (λ (t : Table). IsSoundGrid t.grid) id s t whole.sound.grids found).is_grid
