-- What an action does to a document, told by what it does to one table or to the plain tables.
use Rattle.std.proofs.Common.{ℕ, suc, zero, true, false, cond, List, [], ◌∷◌, ◌+◌, drop, get_or, insert, set, length, ◌≡◌, ◌<◌, ◌≤◌, refl, sym, ap, subst, ◌∙◌, Some, None, slice_get, ltb, arith}
use Rattle.std.proofs.lemmas.Bool.{false≢true, true≢false}
use Rattle.std.proofs.lemmas.List.{set-set, set-get_or}
use Rattle.std.proofs.lemmas.Option.{slice_get_read}
use Rattle.std.proofs.lemmas.Slice.Eq.{bytes_eq-Decides}
use Rattle.std.specs.List.{AllByRecursion}
use Rattle.std.specs.Str.{bytes_eq}
use Rattle.doc_model.specs.declared.action.DocAction.{DocAction}
use Rattle.doc_model.specs.declared.action.DocAction.TheVariants.{BulkAdd, BulkUpdate, BulkRemove, AddTable, RemoveTable, RenameTable, AddColumn, RemoveColumn, RenameColumn, ModifyColumn}
use Rattle.doc_model.specs.MetadataIds.{is_schema_id}
use Rattle.doc_model.specs.ByIds.{find_id, AreDistinct}
use Rattle.doc_model.specs.Document.{Table, Document, table_id, table_row, with_table, put_by_row}
use Rattle.doc_model.specs.Schema.{plain_tables}
use Rattle.doc_model.specs.Valid.{record_table, valid}
use Rattle.doc_model.specs.Apply.{with_plain, effect, apply}
use Rattle.doc_model.proofs.Choices.{cond_true, cond_false}
use Rattle.doc_model.proofs.ByIdsLaws.{bytes_apart, found_id}
use Rattle.doc_model.proofs.DocumentParts.{applied}
use Rattle.row_tables.specs.Steps.{is_record, table_named, table_change, plain_after, table_index}
use Rattle.row_tables.proofs.Walks.{drop_read}

-- a record action changes the table that it names
pub record_effect : (s : Document) (a : DocAction) → is_record a ≡ true → effect s a ≡ with_table (table_named a) (table_change a) s
record_effect s (BulkAdd table rows ks) e = refl
record_effect s (BulkUpdate table rows ks) e = refl
record_effect s (BulkRemove table rows) e = refl
record_effect s (AddTable table row columns) e = absurd (false≢true e)
record_effect s (RemoveTable table) e = absurd (false≢true e)
record_effect s (RenameTable table new) e = absurd (false≢true e)
record_effect s (AddColumn table d) e = absurd (false≢true e)
record_effect s (RemoveColumn table column) e = absurd (false≢true e)
record_effect s (RenameColumn table column new) e = absurd (false≢true e)
record_effect s (ModifyColumn table column info) e = absurd (false≢true e)

-- any other changes the plain tables
pub schema_effect : (s : Document) (a : DocAction) → is_record a ≡ false → effect s a ≡ with_plain s (plain_after a (plain_tables s))
schema_effect s (BulkAdd table rows ks) e = absurd (true≢false e)
schema_effect s (BulkUpdate table rows ks) e = absurd (true≢false e)
schema_effect s (BulkRemove table rows) e = absurd (true≢false e)
schema_effect s (AddTable table row columns) e = refl
schema_effect s (RemoveTable table) e = refl
schema_effect s (RenameTable table new) e = refl
schema_effect s (AddColumn table d) e = refl
schema_effect s (RemoveColumn table column) e = refl
schema_effect s (RenameColumn table column new) e = refl
schema_effect s (ModifyColumn table column info) e = refl

pub record_found : (s : Document) (id : List ℕ) (t : Table) → record_table s id ≡ Some t → find_id table_id id s ≡ Some t
record_found s id t =
    elim (is_schema_id id) as (λ b. cond b None (find_id table_id id s) ≡ Some t → find_id table_id id s ≡ Some t) [ true ↦ λ e. absurd (cc) | false ↦ λ e. e ]

-- ---- tables by their indexes

pub table_within : (row : ℕ) (ts : List Table) → table_index row ts ≤ length ts
table_within row [] = omega arith
table_within row (t ∷ ts) =
    let later : table_index row ts ≤ length ts = table_within row ts in
    elim (ltb row (table_row t)) as (λ b. cond b 0 (table_index row ts + 1) ≤ length (t ∷ ts)) [ true ↦ omega arith | false ↦ omega arith ]

pub put_by_row-table_index : (t : Table) (ts : List Table) → put_by_row table_row t ts ≡ insert ts (table_index t.row ts) t
put_by_row-table_index t [] = refl
put_by_row-table_index t (u ∷ ts) =
    let next : suc (table_index t.row ts) ≡ table_index t.row ts + 1 = omega arith in
    elim (ltb t.row u.row) as (λ b. cond b (t ∷ u ∷ ts) (u ∷ put_by_row table_row t ts) ≡ insert (u ∷ ts) (cond b 0 (table_index t.row ts + 1)) t) [
      | true ↦ refl
      | false ↦ ap (λ xs. u ∷ xs) (put_by_row-table_index t ts) ∙ ap (λ n. insert (u ∷ ts) n t) next
    ]

pub find_at : (ts : List Table) (id : List ℕ) (i : ℕ) (t : Table) → i < length ts → t ≡ get_or ts i t → bytes_eq t.id id ≡ true → slice_get ts i ≡ find_id table_id id (drop i ts)
find_at ts id i t l e is =
    slice_get_read ts (length ts) i t refl l e
    ∙ sym (ap (find_id table_id id) (drop_read ts i t l e) ∙ cond_true (bytes_eq t.id id) (Some t) (find_id table_id id (drop (i + 1) ts)) is)

pub each_index : (P : Table → Type 0) (ts : List Table) (i : ℕ) (d : Table) → AllByRecursion P ts → i < length ts → P (get_or ts i d)
each_index P [] i d h l = absurd (omega arith)
each_index P (t ∷ ts) zero d h l = h.0
each_index P (t ∷ ts) (suc i) d h l = each_index P ts i d h.1 (omega arith)

module _ (id : List ℕ) (f : Table → Table) where
  others : (s : List Table) → AllByRecursion (λ v. bytes_eq id v.id ≡ false) s → with_table id f s ≡ s
  others [] h = refl
  others (v ∷ s) h = ap (λ x. x ∷ with_table id f s) (cond_false (bytes_eq v.id id) (f v) v (bytes_apart id v.id h.0)) ∙ ap (λ r. v ∷ r) (others s h.1)

  pub with_table-at : (s : List Table) (i : ℕ) (t : Table) → AreDistinct table_id s → i < length s → t ≡ get_or s i t → t.id ≡ id → set s i (f t) ≡ with_table id f s
  with_table-at [] i t d l e is = absurd (omega arith)
  with_table-at (u ∷ s) zero t d l e is =
      let name : u.id ≡ id = ap (λ v. v.id) (sym e) ∙ is in
      sym (ap (λ x. x ∷ with_table id f s) (cond_true (bytes_eq u.id id) (f u) u ((bytes_eq-Decides u.id id).1 name) ∙ ap f (sym e))
      ∙ ap (λ r. f t ∷ r) (others s (subst (λ n. AllByRecursion (λ v. bytes_eq n v.id ≡ false) s) name d.0)))
  with_table-at (u ∷ s) (suc i) t d l e is =
      let apart : bytes_eq u.id id ≡ false = ap (bytes_eq u.id) (sym (ap (λ v. v.id) (sym e) ∙ is)) ∙ each_index (λ v. bytes_eq u.id v.id ≡ false) s i t d.0 (omega arith) in
      ap (λ r. u ∷ r) (with_table-at s i t d.1 (omega arith) e is)
      ∙ sym (ap (λ x. x ∷ with_table id f s) (cond_false (bytes_eq u.id id) (f u) u apart))

-- a record action written at the index of its table
pub record_put : (s : Document) (a : DocAction) (i : ℕ) (t new : Table) → AreDistinct table_id s → is_record a ≡ true → valid s a ≡ true → i < length s → slice_get s i ≡ find_id table_id (table_named a) s → t ≡ get_or s i t → new ≡ table_change a t
    → set s i new ≡ apply s a
record_put s a i t new d r v l g e n =
    ap (set s i) n
    ∙ with_table-at (table_named a) (table_change a) s i t d l e (found_id table_id (table_named a) s t (sym g ∙ slice_get_read s (length s) i t refl l e))
    ∙ sym (record_effect s a r) ∙ sym (applied s a v)

-- and written back
pub put_back : (s : List Table) (i : ℕ) (t new : Table) → t ≡ get_or s i t → set (set s i new) i t ≡ s
put_back s i t new e = set-set s i new t ∙ ap (set s i) e ∙ set-get_or s i t
