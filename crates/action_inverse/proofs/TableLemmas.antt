-- Columns as a store tells them, and what validity says of the table of an action.
use Rattle.std.proofs.Common.{ℕ, zero, suc, ◌+◌, ◌-◌, ◌<◌, Bool, true, false, cond, List, [], ◌∷◌, ◌++◌, length, length-append, take, slice_get, nat_eq, ◌≡◌, refl, sym, ap, ◌∙◌, Option, Some, None, arith}
use Rattle.std.proofs.lemmas.Option.{slice_get_within, get_or_from_slice_get}
use Rattle.std.proofs.lemmas.List.{take_more}
use Rattle.doc_model.specs.declared.action.DocAction.TheVariants.{BulkAdd, BulkUpdate, BulkRemove, AddTable, RemoveTable, ModifyColumn}
use Rattle.doc_model.specs.declared.column.CellColumn.{CellColumn}
use Rattle.doc_model.specs.declared.action.DocAction.{DocAction}
use Rattle.doc_model.specs.declared.column.ColDef.{ColDef}
use Rattle.doc_model.specs.declared.column.ColInfo.{ColInfo}
use Rattle.doc_model.specs.ViewEdits.{if_any}
use Rattle.std.proofs.lemmas.Bool.{both_ways, false≢true, ne_eqb}
use Rattle.doc_model.proofs.ByIdsLaws.{found_id}
use Rattle.doc_model.specs.ByIds.{find_id}
use Rattle.doc_model.specs.Column.{column_id}
use Rattle.doc_model.specs.Grid.{Grid}
use Rattle.doc_model.specs.Document.{Table, Document, table_id}
use Rattle.doc_model.specs.Inverse.{inverse, made_of, old_columns, data_columns, table_again}
use Rattle.doc_model.specs.MetadataIds.{is_schema_id}
use Rattle.doc_model.specs.Schema.{no_grid}
use Rattle.doc_model.specs.Valid.{passes, record_table, valid}
use Rattle.doc_model.proofs.DocumentParts.{passes_parts}
use Rattle.action_inverse.specs.Parts.{info_back}
use Rattle.doc_readers.specs.Parts.{grid_at}

module _ (cols xs ys : List ColDef) (d : ColDef) (n : ℕ) (counts : n ≡ length xs) (at : slice_get cols n ≡ Some d) (made : ys ≡ xs ++ d ∷ []) where
  one_longer : length ys ≡ n + 1
  one_longer = ap length made ∙ length-append xs (d ∷ []) ∙ ap (λ k. k + 1) (sym counts)

  pub columns_step : xs ≡ take (length xs) cols → ys ≡ take (length ys) cols
  columns_step so =
      made ∙ ap (λ l. l ++ d ∷ []) (so ∙ ap (λ k. take k cols) (sym counts))
      ∙ ap (λ x. take n cols ++ x ∷ []) (sym (get_or_from_slice_get cols n d d at))
      ∙ sym (take_more cols n d (slice_get_within cols n d at))
      ∙ ap (λ k. take k cols) (sym one_longer)

  pub columns_fewer : length cols - length ys < length cols - length xs
  columns_fewer =
      let within : n < length cols = slice_get_within cols n d at in
      let more : length ys ≡ n + 1 = one_longer in omega arith

all_taken : (cols : List ColDef) (n : ℕ) → slice_get cols n ≡ None → take n cols ≡ cols
all_taken [] zero h = refl
all_taken [] (suc n) h = refl
all_taken (d ∷ cols) zero h = absurd (cc)
all_taken (d ∷ cols) (suc n) h = ap (λ l. d ∷ l) (all_taken cols n h)

pub columns_end : (cols xs : List ColDef) (n : ℕ) → n ≡ length xs → xs ≡ take (length xs) cols → slice_get cols n ≡ None → xs ≡ cols
columns_end cols xs n counts so past = so ∙ ap (λ k. take k cols) (sym counts) ∙ all_taken cols n past

-- the table of a valid record action is there
there : (s : Document) (id : List ℕ) (test : Table → Bool) → passes (record_table s id) test ≡ true → (t : Table) × (find_id table_id id s ≡ Some t)
there s id test v =
    let found : (t : Table) × ((record_table s id ≡ Some t) × (test t ≡ true)) = passes_parts (record_table s id) test v in (
      found.0,
      elim (is_schema_id id) as (λ b. cond b None (find_id table_id id s) ≡ Some found.0 → find_id table_id id s ≡ Some found.0) [
        | true ↦ λ e. absurd (cc)
        | false ↦ λ e. e
      ] found.1.0,
    )

any : {X : Type 0} (rows : List ℕ) → (rows ≡ [] → ⊥) → (x : X) → if_any rows x ≡ x ∷ []
any [] some x = absurd (some refl)
any (r ∷ rows) some x = refl

-- where a table is there, its grid is what is read of it
pub grid_of_found : (s : Document) (id : List ℕ) (t : Table) → find_id table_id id s ≡ Some t → grid_at s id ≡ t.grid
grid_of_found s id t e = ap (λ (o : Option Table). elim o as (λ _. Grid ColDef) [ None ↦ no_grid | Some t ↦ t.grid ]) e

pub update_back : (s : Document) (id : List ℕ) (rows : List ℕ) (ks : List CellColumn) → valid s (BulkUpdate id rows ks) ≡ true
    → BulkUpdate id rows (old_columns (grid_at s id) rows ks) ∷ [] ≡ inverse s (BulkUpdate id rows ks)
update_back s id rows ks v =
    let found : (t : Table) × (find_id table_id id s ≡ Some t) = there s id _ v in
    ap (λ g. BulkUpdate id rows (old_columns g rows ks) ∷ []) (grid_of_found s id found.0 found.1)
    ∙ sym (ap (λ o. made_of o (λ (t : Table). BulkUpdate id rows (old_columns t.grid rows ks) ∷ [])) found.1)

pub remove_back : (s : Document) (id : List ℕ) (rows : List ℕ) → valid s (BulkRemove id rows) ≡ true
    → BulkAdd id rows (data_columns (grid_at s id) rows) ∷ [] ≡ inverse s (BulkRemove id rows)
remove_back s id rows v =
    let found : (t : Table) × (find_id table_id id s ≡ Some t) = there s id _ v in
    ap (λ g. BulkAdd id rows (data_columns g rows) ∷ []) (grid_of_found s id found.0 found.1)
    ∙ sym (ap (λ o. made_of o (λ (t : Table). BulkAdd id rows (data_columns t.grid rows) ∷ [])) found.1)

-- what gives a column its old info, as it is read of its table
pub info_is_back : (s : Document) (id c : List ℕ) (info : ColInfo) → info_back s id c ≡ inverse s (ModifyColumn id c info)
info_is_back s id c info =
    elim (find_id table_id id s) as (λ (o : Option Table). made_of (find_id column_id c (elim o as (λ _. Grid ColDef) [ None ↦ no_grid | Some t ↦ t.grid ]).columns) (λ (d : ColDef). ModifyColumn id c d.info ∷ [])
    ≡ made_of o (λ (t : Table). made_of (find_id column_id c t.grid.columns) (λ (d : ColDef). ModifyColumn id c d.info ∷ []))) [
      | None ↦ refl
      | Some t ↦ refl
    ]

module _ (t : Table) (rows : List ℕ) (same : rows ≡ t.grid.rows) where
  pub table_alone : rows ≡ [] → AddTable t.id t.row t.grid.columns ∷ [] ≡ table_again t
  table_alone e =
      ap (λ l. AddTable t.id t.row t.grid.columns ∷ l)
      (ap (λ rs. if_any rs (BulkAdd t.id t.grid.rows (data_columns t.grid t.grid.rows))) (sym e ∙ same))

  pub table_with_rows : (rows ≡ [] → ⊥) → AddTable t.id t.row t.grid.columns ∷ BulkAdd t.id rows (data_columns t.grid rows) ∷ [] ≡ table_again t
  table_with_rows some =
      ap (λ l. AddTable t.id t.row t.grid.columns ∷ l) (
      sym (any rows some (BulkAdd t.id rows (data_columns t.grid rows)))
      ∙ ap (λ (rs : List ℕ). if_any rs (BulkAdd t.id rs (data_columns t.grid rs))) same)

pub empty_from : (rows : List ℕ) (b : Bool) → b ≡ nat_eq (length rows) 0 → b ≡ true → rows ≡ []
empty_from [] b e is = refl
empty_from (r ∷ rows) b e is = absurd (false≢true (sym (not_zero (length rows)) ∙ sym e ∙ is))
  where
    not_zero : (n : ℕ) → nat_eq (suc n) 0 ≡ false
    not_zero n = ne_eqb (suc n) 0 (λ e. omega arith)

pub some_from : (rows : List ℕ) (b : Bool) → b ≡ nat_eq (length rows) 0 → b ≡ false → rows ≡ [] → ⊥
some_from rows b e is none = both_ways b is (e ∙ ap (λ (l : List ℕ). nat_eq (length l) 0) none)

-- the parts of what brings a table back, as a store tells them
module _ (s : Document) (id : List ℕ) (row : ℕ) (rows : List ℕ) (t : Table) (found : find_id table_id id s ≡ Some t) (told : row ≡ t.row) (same : rows ≡ (grid_at s id).rows) where
  added : AddTable id row (grid_at s id).columns ≡ AddTable t.id t.row t.grid.columns
  added =
      ap (λ n. AddTable n row (grid_at s id).columns) (sym (found_id table_id id s t found))
      ∙ ap (λ r. AddTable t.id r (grid_at s id).columns) told
      ∙ ap (λ (g : Grid ColDef). AddTable t.id t.row g.columns) (grid_of_found s id t found)

  rows_same : rows ≡ t.grid.rows
  rows_same = same ∙ ap (λ (g : Grid ColDef). g.rows) (grid_of_found s id t found)

  back : table_again t ≡ inverse s (RemoveTable id)
  back = sym (ap (λ o. made_of o table_again) found)

  pub table_made : (l : List DocAction) (a : DocAction) → l ≡ a ∷ [] → a ≡ AddTable id row (grid_at s id).columns → rows ≡ [] → l ≡ inverse s (RemoveTable id)
  table_made l a one is none = one ∙ ap (λ a. a ∷ []) (is ∙ added) ∙ table_alone t rows rows_same none ∙ back

  pub table_filled : (l : List DocAction) (a b : DocAction) → l ≡ a ∷ [] → a ≡ AddTable id row (grid_at s id).columns → b ≡ BulkAdd id rows (data_columns (grid_at s id) rows) → (rows ≡ [] → ⊥)
      → l ++ b ∷ [] ≡ inverse s (RemoveTable id)
  table_filled l a b one is filled some =
      ap (λ l. l ++ b ∷ []) one ∙ ap (λ a. a ∷ b ∷ []) (is ∙ added)
      ∙ ap (λ b. AddTable t.id t.row t.grid.columns ∷ b ∷ []) filled
      ∙ ap (λ n. AddTable t.id t.row t.grid.columns ∷ BulkAdd n rows (data_columns (grid_at s id) rows) ∷ []) (sym (found_id table_id id s t found))
      ∙ ap (λ g. AddTable t.id t.row t.grid.columns ∷ BulkAdd t.id rows (data_columns g rows) ∷ []) (grid_of_found s id t found)
      ∙ table_with_rows t rows rows_same some ∙ back
