-- The most of each table after record actions.
use Rattle.std.proofs.Common.{ℕ, true, false, cond, ◌&&◌, ◌+◌, List, [], ◌∷◌, ◌++◌, map, ◌≡◌, length, refl, sym, ap, ◌∙◌, Some, None, arith}
use Rattle.std.proofs.lemmas.Bool.{and_parts}
use Rattle.std.proofs.lemmas.Slice.Eq.{bytes_eq-Decides}
use Rattle.std.specs.List.{AllByRecursion}
use Rattle.std.specs.Str.{bytes_eq}
use Rattle.doc_model.specs.declared.action.DocAction.{DocAction}
use Rattle.doc_model.specs.declared.action.DocAction.TheVariants.{BulkAdd, BulkUpdate, BulkRemove}
use Rattle.doc_model.specs.declared.column.CellColumn.{CellColumn}
use Rattle.doc_model.specs.MetadataIds.{is_schema_id}
use Rattle.doc_model.specs.ByIds.{find_id, AreDistinct}
use Rattle.doc_model.specs.Rows.{insert_rows, without, has_no_duplicates, all_in, none_in}
use Rattle.doc_model.specs.Records.{add_rows, update_rows, remove_rows}
use Rattle.doc_model.specs.Column.{column_id, start_of}
use Rattle.doc_model.specs.Document.{Table, Document, table_id, on_grid}
use Rattle.doc_model.specs.Sound.{IsSound, IsSoundGrid}
use Rattle.doc_model.specs.Valid.{record_table, from_one, gives_data, valid}
use Rattle.doc_model.specs.Apply.{effect}
use Rattle.doc_model.specs.MaximaLaws.{Maxima, maxima, maxima_then, maxima_after, rows_out}
use Rattle.doc_model.proofs.Choices.{parts_4, each_weaker, map_each, map-map}
use Rattle.doc_model.proofs.ByIdsLaws.{each_found, found_all}
use Rattle.doc_model.proofs.CountSteps.{length-without}
use Rattle.doc_model.proofs.DocumentParts.{passes_parts}
use Rattle.doc_model.proofs.TotalsLaws.{sum_of, total-insert_rows}
use Rattle.doc_model.proofs.MaximaSums.{SameTotals, total-append, maxima-same, without-none}

abbrev pub maxima_of : Table → Maxima
maxima_of t = maxima (length t.grid.columns) t.grid.rows

-- a table of the id is the one that is found
pub found_alone : (c : List ℕ) (s : List Table) (t : Table) → AreDistinct table_id s → find_id table_id c s ≡ Some t → AllByRecursion (λ x. bytes_eq x.id c ≡ true → x ≡ t) s
found_alone c s t d found =
    each_found table_id (λ x. bytes_eq x.id c ≡ true → x ≡ t) s d (λ x here is.
    let named : x.id ≡ c = (bytes_eq-Decides x.id c).0 is in
    let two : Some x ≡ Some t = sym here ∙ ap (λ n. find_id table_id n s) named ∙ found in
    cc)

-- the table of a record action is there
record_found : (s : Document) (id : List ℕ) (t : Table) → record_table s id ≡ Some t → find_id table_id id s ≡ Some t
record_found s id t =
    elim (is_schema_id id) as (λ b. cond b None (find_id table_id id s) ≡ Some t → find_id table_id id s ≡ Some t) [ true ↦ λ e. absurd (cc) | false ↦ λ e. e ]

pub none-moved : (rows : List ℕ) → SameTotals rows ([] ++ without [] rows)
none-moved rows h = ap (sum_of h) (sym (without-none rows))

-- ---- how many rows are left

-- each table has so many rows less as go out
abbrev pub LeavesRows : Document → DocAction → Type 0
LeavesRows s a = AllByRecursion (λ t. length (without (rows_out s a t.id) t.grid.rows) + length (rows_out s a t.id) ≡ length t.grid.rows) s

pub none_left : (rows : List ℕ) → length (without [] rows) + 0 ≡ length rows
none_left rows = let e : length (without [] rows) ≡ length rows = ap length (without-none rows) in omega arith

-- where none goes out
pub still_rows : (s : Document) (a : DocAction) → ((id : List ℕ) → rows_out s a id ≡ []) → LeavesRows s a
still_rows s a none = every s
  where
    every : (ts : List Table) → AllByRecursion (λ t. length (without (rows_out s a t.id) t.grid.rows) + length (rows_out s a t.id) ≡ length t.grid.rows) ts
    every [] = tt
    every (t ∷ ts) = (ap (λ out. length (without out t.grid.rows) + length out) (none t.id) ∙ none_left t.grid.rows, every ts)

module _ (s : Document) (sound : IsSound s) (table : List ℕ) where
  pub removed_rows : (rows : List ℕ) → valid s (BulkRemove table rows) ≡ true → LeavesRows s (BulkRemove table rows)
  removed_rows rows v =
      let parts : (t : Table) × ((record_table s table ≡ Some t) × ((has_no_duplicates rows && all_in rows t.grid.rows) ≡ true)) = passes_parts (record_table s table) (λ t. has_no_duplicates rows && all_in rows t.grid.rows) v in
      let t : Table = parts.0 in
      let found : find_id table_id table s ≡ Some t = record_found s table t parts.1.0 in
      let tests : (has_no_duplicates rows ≡ true) × (all_in rows t.grid.rows ≡ true) = and_parts (has_no_duplicates rows) (all_in rows t.grid.rows) parts.1.1 in
      let here : length (without rows t.grid.rows) + length rows ≡ length t.grid.rows = length-without rows t.grid.rows (found_all table_id (λ t. IsSoundGrid t.grid) table s t sound.grids found).is_grid.ascending tests.0 tests.1 in
      each_weaker (λ x. bytes_eq x.id table ≡ true → x ≡ t) (λ x. length (without (cond (bytes_eq x.id table) rows []) x.grid.rows) + length (cond (bytes_eq x.id table) rows []) ≡ length x.grid.rows)
      (λ x same. elim (bytes_eq x.id table) as (λ b. bytes_eq x.id table ≡ b → length (without (cond b rows []) x.grid.rows) + length (cond b rows []) ≡ length x.grid.rows) [
        | true ↦ λ is. ap (λ (y : Table). length (without rows y.grid.rows) + length rows) (same is) ∙ here ∙ ap (λ (y : Table). length y.grid.rows) (sym (same is))
        | false ↦ λ _. none_left x.grid.rows
      ] refl) s (found_alone table s t sound.distinct found)

  pub add_maxima : (rows : List ℕ) (ks : List CellColumn) → valid s (BulkAdd table rows ks) ≡ true → map maxima_of (effect s (BulkAdd table rows ks)) ≡ maxima_after s (BulkAdd table rows ks)
  add_maxima rows ks v =
      let parts : (t : Table) × ((record_table s table ≡ Some t) × ((((has_no_duplicates rows && from_one rows) && none_in rows t.grid.rows) && gives_data t.grid rows ks) ≡ true))
      = passes_parts (record_table s table) (λ t. has_no_duplicates rows && from_one rows && none_in rows t.grid.rows && gives_data t.grid rows ks) v in
      let t : Table = parts.0 in
      let tests : (has_no_duplicates rows ≡ true) × (from_one rows ≡ true) × (none_in rows t.grid.rows ≡ true) × (gives_data t.grid rows ks ≡ true) = parts_4 (has_no_duplicates rows) (from_one rows) (none_in rows t.grid.rows) (gives_data t.grid rows ks) parts.1.1 in
      let f : Table → Table = on_grid (add_rows column_id start_of rows ks) in
      sym (map-map maxima_of (λ x. cond (bytes_eq (table_id x) table) (f x) x) s)
      ∙ map_each (λ (x : Table). maxima_of (cond (bytes_eq (table_id x) table) (f x) x)) (maxima_then s (BulkAdd table rows ks)) s
      (each_weaker (λ x. bytes_eq x.id table ≡ true → x ≡ t) (λ x. maxima_of (cond (bytes_eq (table_id x) table) (f x) x) ≡ maxima_then s (BulkAdd table rows ks) x) (here rows ks t tests.0 tests.2) s
      (found_alone table s t sound.distinct (record_found s table t parts.1.0)))
    where
      here : (rows : List ℕ) (ks : List CellColumn) (t : Table) → has_no_duplicates rows ≡ true → none_in rows t.grid.rows ≡ true → (x : Table) → (bytes_eq x.id table ≡ true → x ≡ t)
          → maxima_of (cond (bytes_eq (table_id x) table) (on_grid (add_rows column_id start_of rows ks) x) x) ≡ maxima_then s (BulkAdd table rows ks) x
      here rows ks t once fresh x same =
          elim (bytes_eq x.id table) as (λ b. bytes_eq x.id table ≡ b → maxima_of (cond b (on_grid (add_rows column_id start_of rows ks) x) x) ≡ maxima (length x.grid.columns) (cond b rows [] ++ without [] x.grid.rows)) [
            | true ↦ λ is.
                let none : none_in rows x.grid.rows ≡ true = ap (λ (y : Table). none_in rows y.grid.rows) (same is) ∙ fresh in
                maxima-same (length x.grid.columns) (length x.grid.columns) (insert_rows rows x.grid.rows) (rows ++ without [] x.grid.rows) refl (λ h.
                total-insert_rows h rows x.grid.rows once none ∙ sym (total-append h rows x.grid.rows) ∙ ap (λ left. sum_of h (rows ++ left)) (sym (without-none x.grid.rows)))
            | false ↦ λ _. maxima-same (length x.grid.columns) (length x.grid.columns) x.grid.rows ([] ++ without [] x.grid.rows) refl (none-moved x.grid.rows)
          ] refl

  pub update_maxima : (rows : List ℕ) (ks : List CellColumn) → map maxima_of (effect s (BulkUpdate table rows ks)) ≡ maxima_after s (BulkUpdate table rows ks)
  update_maxima rows ks =
      let f : Table → Table = on_grid (update_rows column_id rows ks) in
      Rattle.doc_model.proofs.ByRowLaws.map-with_id table_id maxima_of table f s (λ x. refl)
      ∙ map_each maxima_of (maxima_then s (BulkUpdate table rows ks)) s (every s)
    where
      every : (xs : List Table) → AllByRecursion (λ x. maxima_of x ≡ maxima (length x.grid.columns) ([] ++ without [] x.grid.rows)) xs
      every [] = tt
      every (x ∷ xs) = (maxima-same (length x.grid.columns) (length x.grid.columns) x.grid.rows ([] ++ without [] x.grid.rows) refl (none-moved x.grid.rows), every xs)

  pub remove_maxima : (rows : List ℕ) → map maxima_of (effect s (BulkRemove table rows)) ≡ maxima_after s (BulkRemove table rows)
  remove_maxima rows =
      let f : Table → Table = on_grid (remove_rows column_id rows) in
      sym (map-map maxima_of (λ x. cond (bytes_eq (table_id x) table) (f x) x) s)
      ∙ map_each (λ (x : Table). maxima_of (cond (bytes_eq (table_id x) table) (f x) x)) (maxima_then s (BulkRemove table rows)) s (every s)
    where
      every : (xs : List Table) → AllByRecursion (λ x. maxima_of (cond (bytes_eq (table_id x) table) (on_grid (remove_rows column_id rows) x) x) ≡ maxima (length x.grid.columns) ([] ++ without (cond (bytes_eq x.id table) rows []) x.grid.rows)) xs
      every [] = tt
      every (x ∷ xs) = (
        elim (bytes_eq x.id table) as (λ b. maxima_of (cond b (on_grid (remove_rows column_id rows) x) x) ≡ maxima (length x.grid.columns) ([] ++ without (cond b rows []) x.grid.rows)) [
          | true ↦ refl
          | false ↦ maxima-same (length x.grid.columns) (length x.grid.columns) x.grid.rows ([] ++ without [] x.grid.rows) refl (none-moved x.grid.rows)
        ],
        every xs,
      )
