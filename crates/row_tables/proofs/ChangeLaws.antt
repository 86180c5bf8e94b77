-- A record action put in place of its table, and taken back.
use Rattle.std.proofs.Common.{ℕ, true, ◌&&◌, List, ◌≡◌, ◌<◌, get_or, set, length, refl, sym, ap, subst, ◌∙◌, Some, slice_get}
use Rattle.std.proofs.lemmas.List.{length-set, get_or-set_same}
use Rattle.std.proofs.lemmas.Option.{slice_get_read}
use Rattle.doc_model.specs.declared.action.DocAction.{DocAction}
use Rattle.doc_model.specs.declared.action.DocAction.TheVariants.{BulkAdd, BulkUpdate, BulkRemove, AddTable, RemoveTable, RenameTable, AddColumn, RemoveColumn, RenameColumn, ModifyColumn}
use Rattle.doc_model.specs.ByIds.{find_id}
use Rattle.doc_model.specs.Rows.{has_no_duplicates, none_in}
use Rattle.doc_model.specs.Document.{Table, Document, table_id}
use Rattle.doc_model.specs.DocumentLaws.{IsWhole}
use Rattle.doc_model.specs.Sound.{IsSoundGrid}
use Rattle.doc_model.specs.Apply.{apply}
use Rattle.doc_model.specs.Valid.{record_table, from_one, gives_data, valid}
use Rattle.doc_model.proofs.ByIdsLaws.{found_all}
use Rattle.doc_model.proofs.Choices.{parts_4}
use Rattle.doc_model.proofs.DocumentParts.{passes_parts}
use Rattle.doc_model.proofs.InverseLaws.{IsWhole-apply}
use Rattle.row_tables.specs.Back.{change_back, change_fits, back_there, fits_there}
use Rattle.row_tables.specs.Steps.{ActsOn, adds_new, is_record, table_change, table_named}
use Rattle.row_tables.specs.declared.change.Change.{Change}
use Rattle.row_tables.proofs.StepLaws.{record_found, record_put, put_back}

module _ (s : Document) (a : DocAction) (i : ℕ) (t : Table) (whole : IsWhole s) (v : valid s a ≡ true) (l : i < length s) (g : slice_get s i ≡ find_id table_id (table_named a) s) (e : t ≡ get_or s i t) where
  found : find_id table_id (table_named a) s ≡ Some t
  found = sym g ∙ slice_get_read s (length s) i t refl l e

  -- where a valid record action may be put
  pub acts_on : ActsOn a t.grid
  acts_on = ((found_all table_id (λ t. IsSoundGrid t.grid) (table_named a) s t whole.sound.grids found).is_grid, fresh a v found)
    where
      fresh : (a : DocAction) → valid s a ≡ true → find_id table_id (table_named a) s ≡ Some t → adds_new a t.grid
      fresh (BulkAdd table rows ks) v found =
          let parts : (u : Table) × ((record_table s table ≡ Some u) × ((has_no_duplicates rows && from_one rows && none_in rows u.grid.rows && gives_data u.grid rows ks) ≡ true))
          = passes_parts (record_table s table) (λ u. has_no_duplicates rows && from_one rows && none_in rows u.grid.rows && gives_data u.grid rows ks) v in
          let there : Some parts.0 ≡ Some t = sym (record_found s table parts.0 parts.1.0) ∙ found in
          let same : parts.0 ≡ t = cc in
          let each : (has_no_duplicates rows ≡ true) × (from_one rows ≡ true) × (none_in rows parts.0.grid.rows ≡ true) × (gives_data parts.0.grid rows ks ≡ true)
          = parts_4 (has_no_duplicates rows) (from_one rows) (none_in rows parts.0.grid.rows) (gives_data parts.0.grid rows ks) parts.1.1 in
          (each.0, subst (λ (u : Table). none_in rows u.grid.rows ≡ true) same each.2)
      fresh (BulkUpdate table rows ks) v found = tt
      fresh (BulkRemove table rows) v found = tt
      fresh (AddTable table row columns) v found = tt
      fresh (RemoveTable table) v found = tt
      fresh (RenameTable table new) v found = tt
      fresh (AddColumn table d) v found = tt
      fresh (RemoveColumn table column) v found = tt
      fresh (RenameColumn table column new) v found = tt
      fresh (ModifyColumn table column info) v found = tt

module _ (s : Document) (i : ℕ) (t new : Table) (c : Change) (l : i < length s) where
  read : slice_get (set s i new) i ≡ Some new
  read =
      let len : length (set s i new) ≡ length s = length-set s i new in
      slice_get_read (set s i new) (length (set s i new)) i new refl (subst (λ n. i < n) (sym len) l) (sym (get_or-set_same s i new new l))

  -- the table as it was at its place
  pub changed_back : t ≡ get_or s i t → change_back c new ≡ t → back_there c i (slice_get (set s i new) i) (set s i new) ≡ s
  changed_back e back = ap (λ o. back_there c i o (set s i new)) read ∙ ap (set (set s i new) i) back ∙ put_back s i t new e

  pub change_there : change_fits c new → fits_there c (slice_get (set s i new) i)
  change_there fits = subst (fits_there c) (sym read) fits

module _ (s : Document) (i : ℕ) (t : Table) (c : Change) (l : i < length s) (e : t ≡ get_or s i t) where
  pub fits_read : fits_there c (slice_get s i) → change_fits c t
  fits_read h = subst (fits_there c) (slice_get_read s (length s) i t refl l e) h

-- the index is that of the table that the action names
placed : (i : ℕ) (id id' : List ℕ) (s s' : Document) → (i < length s) × (slice_get s i ≡ find_id table_id id s) → id ≡ id' → s ≡ s' → (i < length s') × (slice_get s' i ≡ find_id table_id id' s')
placed i id id' s s' h ei es = subst (λ d. (i < length d) × (slice_get d i ≡ find_id table_id id' d)) es (subst (λ n. (i < length s) × (slice_get s i ≡ find_id table_id n s)) ei h)

module _ (s read : Document) (a : DocAction) (i : ℕ) (id : List ℕ) (t : Table) (whole : IsWhole s) (v : valid s a ≡ true) (there : (i < length read) × (slice_get read i ≡ find_id table_id id read)) (ei : id ≡ table_named a) (es : read ≡ s) (e : t ≡ get_or s i t) where
  at : (i < length s) × (slice_get s i ≡ find_id table_id (table_named a) s)
  at = placed i id (table_named a) read s there ei es

  -- what a put of a record action asks of the table
  pub put_asks : ActsOn a t.grid
  put_asks = acts_on s a i t whole v at.0 at.1 e

  -- and what it makes of the document
  pub put_makes : (new : Table) (c : Change) → is_record a ≡ true → new ≡ table_change a t → change_back c new ≡ t → change_fits c new
      → (set s i new ≡ apply s a) × IsWhole (set s i new) × (IsWhole (back_there c i (slice_get (set s i new) i) (set s i new)) × fits_there c (slice_get (set s i new) i)) × (back_there c i (slice_get (set s i new) i) (set s i new) ≡ s)
  put_makes new c r n back fits =
      let done : set s i new ≡ apply s a = record_put s a i t new whole.sound.distinct r v at.0 at.1 e n in
      let was : back_there c i (slice_get (set s i new) i) (set s i new) ≡ s = changed_back s i t new c at.0 e back in
      (done, subst IsWhole (sym done) (IsWhole-apply s a whole v), (subst IsWhole (sym was) whole, change_there s i t new c at.0 fits), was)
