-- What an action loses is among the cells that it may lose.
use Rattle.std.proofs.Common.{ℕ, Bool, true, false, cond, not, ◌||◌, ◌&&◌, List, [], ◌∷◌, ◌++◌, map, ◌≡◌, refl, sym, ap, ◌∙◌, Option, Some, None, option_map, unwrap_or}
use Rattle.std.proofs.lemmas.Bool.{true≢false, and_parts, or_parts}
use Rattle.std.specs.List.{list_all}
use Rattle.std.specs.Option.{is_some}
use Rattle.std.specs.Str.{bytes_eq}
use Rattle.cell_types.specs.declared.cell.CellOld.{CellOld}
use Rattle.cell_types.specs.declared.value.CellValue.{CellValue}
use Rattle.doc_model.specs.declared.action.DocAction.{DocAction}
use Rattle.doc_model.specs.declared.action.DocAction.TheVariants.{BulkAdd, BulkUpdate, BulkRemove, AddTable, RemoveTable, RenameTable, AddColumn, RemoveColumn, RenameColumn, ModifyColumn}
use Rattle.doc_model.specs.declared.column.CellColumn.{CellColumn}
use Rattle.doc_model.specs.declared.column.ColDef.{ColDef}
use Rattle.doc_model.specs.Apply.{apply}
use Rattle.doc_model.specs.ByIds.{are_distinct, find_id, has_id}
use Rattle.doc_model.specs.Column.{column_id, column_row, is_sound_info}
use Rattle.doc_model.specs.Document.{Table, Document, table_id, on_grid}
use Rattle.doc_model.specs.DocumentLaws.{IsWhole}
use Rattle.doc_model.specs.Grid.{cell}
use Rattle.doc_model.specs.MetadataIds.{tables_id, columns_id, is_schema_id}
use Rattle.doc_model.specs.Records.{given, given_id, update_rows}
use Rattle.doc_model.specs.Rows.{has, has_no_duplicates, none_in}
use Rattle.doc_model.specs.Touched.{names_table, is_row_touched, tables_touched, columns_touched, columns_described, column_described}
use Rattle.doc_model.specs.Valid.{valid, are_free, is_new_table, rows_of, record_table, from_one, gives_data}
use Rattle.cell_types.specs.NameRule.{is_name}
use Rattle.doc_model.proofs.Choices.{parts_3, parts_4, parts_6, false_from, not_true}
use Rattle.doc_model.proofs.ByIdsLaws.{found_id, has_found}
use Rattle.doc_model.proofs.ByRowLaws.{find-with_id}
use Rattle.doc_model.proofs.DocumentParts.{applied, passes_parts}
use Rattle.doc_model.proofs.GridLaws.{cell-grid_of}
use Rattle.doc_model.proofs.RecordsLaws.{given_unnamed}
use Rattle.doc_model.proofs.RowsLaws.{none_in_at}
use Rattle.doc_model.proofs.SameLaws.{same_value-Decides}
use Rattle.std.proofs.lemmas.Slice.Eq.{bytes_eq-Decides}
use Rattle.doc_readers.specs.Parts.{grid_at}
use Rattle.recalc.specs.Cells.{cell_of}
use Rattle.recalc.specs.declared.kept.KeptTable.{KeptTable}
use Rattle.recalc.specs.Current.{IsCurrent, has_formula, has_formulas}
use Rattle.recalc.specs.Evaluated.{filled, filled_by, value_of}
use Rattle.recalc.specs.InOrder.{in_order}
use Rattle.recalc.specs.Lost.{all_cells, differs, is_lost}
use Rattle.recalc.specs.MayLose.{MayLoseLaw, is_adding, may_lose, may_lose_all, may_lose_column, may_lose_row}
use Rattle.recalc.specs.Watched.{is_computed}
use Rattle.recalc.proofs.FilledLemmas.{filled_table, find_filled}
use Rattle.recalc.proofs.WatchedCells.{cell_kept, each_cells, filled_data, filter_watched, grid_filled, told_data}

-- ---- the document with its values in place has the same columns

module _ (v : List ℕ → List ℕ → ℕ → CellValue) where
  pub formulas_filled : (s : Document) → has_formulas (filled_by v s) ≡ has_formulas s
  formulas_filled [] = refl
  formulas_filled (t ∷ s) = ap (λ b. has_formula t.grid.columns || b) (formulas_filled s)

  computed_filled : (s : Document) (t c : List ℕ) (r : ℕ) → is_computed (filled_by v s) (cell_of t c r) ≡ is_computed s (cell_of t c r)
  computed_filled s t c r =
      ap (λ (o : Option Table). elim (elim o as (λ _. Option ColDef) [ None ↦ None | Some u ↦ find_id column_id c u.grid.columns ]) as (λ _. Bool) [ None ↦ false | Some d ↦ d.info.is_formula ]) (find_filled v t s)
      ∙ elim (find_id table_id t s) as (λ (o : Option Table). elim (elim (option_map (filled_table v) o) as (λ _. Option ColDef) [ None ↦ None | Some u ↦ find_id column_id c u.grid.columns ]) as (λ _. Bool) [ None ↦ false | Some d ↦ d.info.is_formula ]
      ≡ elim (elim o as (λ _. Option ColDef) [ None ↦ None | Some u ↦ find_id column_id c u.grid.columns ]) as (λ _. Bool) [ None ↦ false | Some d ↦ d.info.is_formula ]) [ None ↦ refl | Some u ↦ refl ]

  described_filled : (s : Document) (t : List ℕ) → columns_described (filled_by v s) t ≡ columns_described s t
  described_filled s t =
      ap (λ (o : Option Table). elim o as (λ _. List ℕ) [ None ↦ [] | Some u ↦ map column_row u.grid.columns ]) (find_filled v t s)
      ∙ elim (find_id table_id t s) as (λ (o : Option Table). elim (option_map (filled_table v) o) as (λ _. List ℕ) [ None ↦ [] | Some u ↦ map column_row u.grid.columns ] ≡ elim o as (λ _. List ℕ) [ None ↦ [] | Some u ↦ map column_row u.grid.columns ]) [ None ↦ refl | Some u ↦ refl ]

  one_filled : (s : Document) (t c : List ℕ) → column_described (filled_by v s) t c ≡ column_described s t c
  one_filled s t c =
      ap (λ (o : Option Table). elim o as (λ _. List ℕ) [ None ↦ [] | Some u ↦ elim (find_id column_id c u.grid.columns) as (λ _. List ℕ) [ None ↦ [] | Some d ↦ d.row ∷ [] ] ]) (find_filled v t s)
      ∙ elim (find_id table_id t s) as (λ (o : Option Table). elim (option_map (filled_table v) o) as (λ _. List ℕ) [ None ↦ [] | Some u ↦ elim (find_id column_id c u.grid.columns) as (λ _. List ℕ) [ None ↦ [] | Some d ↦ d.row ∷ [] ] ]
      ≡ elim o as (λ _. List ℕ) [ None ↦ [] | Some u ↦ elim (find_id column_id c u.grid.columns) as (λ _. List ℕ) [ None ↦ [] | Some d ↦ d.row ∷ [] ] ]) [ None ↦ refl | Some u ↦ refl ]

  touched_filled : (s : Document) (a : DocAction) → columns_touched (filled_by v s) a ≡ columns_touched s a
  touched_filled s (BulkAdd table rows ks) = refl
  touched_filled s (BulkUpdate table rows ks) = refl
  touched_filled s (BulkRemove table rows) = refl
  touched_filled s (AddTable table row columns) = refl
  touched_filled s (RemoveTable table) = described_filled s table
  touched_filled s (RenameTable table new) = refl
  touched_filled s (AddColumn table d) = refl
  touched_filled s (RemoveColumn table column) = one_filled s table column
  touched_filled s (RenameColumn table column new) = one_filled s table column
  touched_filled s (ModifyColumn table column info) = one_filled s table column

-- where nothing is kept, there is no formula column
pub plain_kept : {X : Type 0} (s : Document) (o : Option X) (items : X → List KeptTable) (b : Bool) → IsCurrent s (option_map items o) → is_some o ≡ not b → b ≡ true → has_formulas (filled s) ≡ false
plain_kept s None items b h e is = formulas_filled (value_of s) s ∙ h
plain_kept s (Some x) items b h e is = absurd (true≢false (e ∙ ap not is))

-- ---- a row that the action may not lose is not touched

has_left : (xs ys : List ℕ) (r : ℕ) → has (xs ++ ys) r ≡ false → has xs r ≡ false
has_left [] ys r e = refl
has_left (x ∷ xs) ys r e =
    let two = or_parts (Rattle.std.specs.Prelude.nat_eq x r) (has (xs ++ ys) r) e in
    ap (λ b. b || has xs r) two.0 ∙ has_left xs ys r two.1

record_left : (n m k : Bool) (rows : List ℕ) (r : ℕ) → has (cond n rows [] ++ cond k [] []) r ≡ false → (((n && has rows r) || (m && false)) || (k && false)) ≡ false
record_left true m k rows r e = ap (λ b. (b || (m && false)) || (k && false)) (has_left rows (cond k [] []) r e) ∙ nothing m k
  where
    nothing : (m k : Bool) → ((m && false) || (k && false)) ≡ false
    nothing true true = refl
    nothing true false = refl
    nothing false true = refl
    nothing false false = refl
record_left false true true rows r e = refl
record_left false true false rows r e = refl
record_left false false true rows r e = refl
record_left false false false rows r e = refl

schema_left : (n m k : Bool) (tables columns : List ℕ) (r : ℕ) → ((n || m) || has (cond n [] [] ++ cond k columns []) r) ≡ false → (((n && true) || (m && has tables r)) || (k && has columns r)) ≡ false
schema_left true m k tables columns r e = absurd (true≢false e)
schema_left false true k tables columns r e = absurd (true≢false e)
schema_left false false true tables columns r e = e
schema_left false false false tables columns r e = refl

added_left : (n m k : Bool) (rows : List ℕ) (r : ℕ) → (n ≡ true → has rows r ≡ false) → (((n && has rows r) || (m && false)) || (k && false)) ≡ false
added_left true m k rows r h = ap (λ b. (b || (m && false)) || (k && false)) (h refl) ∙ record_left false m k [] r (none k)
  where
    none : (k : Bool) → has (cond k [] []) r ≡ false
    none true = refl
    none false = refl
added_left false true true rows r h = refl
added_left false true false rows r h = refl
added_left false false true rows r h = refl
added_left false false false rows r h = refl

new_left : (n m k : Bool) (tables columns : List ℕ) (r : ℕ) → n ≡ false → (m ≡ true → has tables r ≡ false) → (k ≡ true → has columns r ≡ false) → (((n && true) || (m && has tables r)) || (k && has columns r)) ≡ false
new_left true m k tables columns r other g h = absurd (true≢false other)
new_left false true true tables columns r other g h = ap (λ b. b || has columns r) (g refl) ∙ h refl
new_left false true false tables columns r other g h = ap (λ b. b || false) (g refl)
new_left false false true tables columns r other g h = h refl
new_left false false false tables columns r other g h = refl

module _ (s : Document) (t : List ℕ) (r : ℕ) (x : Table) (at : find_id table_id t s ≡ Some x) (here : has x.grid.rows r ≡ true) where
  -- added rows are not there before
  new_rows : (table rows : List ℕ) (ks : List CellColumn) → valid s (BulkAdd table rows ks) ≡ true → bytes_eq table t ≡ true → has rows r ≡ false
  new_rows table rows ks v same =
      by (has rows r) refl
    where
      test : Table → Bool
      test u = has_no_duplicates rows && from_one rows && none_in rows u.grid.rows && gives_data u.grid rows ks

      found : (b : Bool) (o : Option Table) (u : Table) → cond b None o ≡ Some u → o ≡ Some u
      found true o u e = absurd (cc)
      found false o u e = e

      some_same : (u : Table) → Some u ≡ Some x → u ≡ x
      some_same u e = cc

      by : (b : Bool) → has rows r ≡ b → b ≡ false
      by false e = refl
      by true e =
          let parts : (u : Table) × ((record_table s table ≡ Some u) × (test u ≡ true)) = passes_parts (record_table s table) test v in
          let four = parts_4 (has_no_duplicates rows) (from_one rows) (none_in rows parts.0.grid.rows) (gives_data parts.0.grid rows ks) parts.1.1 in
          let table_at : find_id table_id table s ≡ Some parts.0 = found (is_schema_id table) (find_id table_id table s) parts.0 parts.1.0 in
          let is : parts.0 ≡ x = some_same parts.0 (sym table_at ∙ ap (λ n. find_id table_id n s) ((bytes_eq-Decides table t).0 same) ∙ at) in
          sym here ∙ ap (λ (u : Table). has u.grid.rows r) (sym is) ∙ none_in_at rows parts.0.grid.rows r four.2 e

  -- nor is a table that is added, with the rows that describe it
  new_table_rows : (table : List ℕ) (row : ℕ) (columns : List ColDef) → valid s (AddTable table row columns) ≡ true → is_row_touched s (AddTable table row columns) t r ≡ false
  new_table_rows table row columns v =
      let six = parts_6 (is_new_table s table) (are_free s tables_id (row ∷ [])) (are_distinct column_id columns) (list_all (λ (d : ColDef). is_name d.id) columns)
      (are_free s columns_id (map column_row columns)) (list_all (λ (d : ColDef). is_sound_info d.info) columns) v in
      new_left (bytes_eq table t) (bytes_eq tables_id t) (bytes_eq columns_id t) (row ∷ []) (map column_row columns) r (another six.0)
      (free_rows tables_id (row ∷ []) six.1) (free_rows columns_id (map column_row columns) six.4)
    where
      another : is_new_table s table ≡ true → bytes_eq table t ≡ false
      another new = false_from (bytes_eq table t) (λ same.
          true≢false (sym (has_found table_id t s x at)
          ∙ ap (has_id table_id s) (sym ((bytes_eq-Decides table t).0 same))
          ∙ not_true (has_id table_id s table) (and_parts (not (has_id table_id s table)) (is_name table) new).0))

      free_rows : (id rows : List ℕ) → are_free s id rows ≡ true → bytes_eq id t ≡ true → has rows r ≡ false
      free_rows id rows free same =
          let three = parts_3 (from_one rows) (has_no_duplicates rows) (none_in rows (rows_of s id)) free in
          false_from (has rows r) (λ is.
          true≢false (sym here
          ∙ ap (λ (o : Option Table). has (elim o as (λ _. List ℕ) [ None ↦ [] | Some u ↦ u.grid.rows ]) r) (sym (ap (λ n. find_id table_id n s) ((bytes_eq-Decides id t).0 same) ∙ at))
          ∙ none_in_at rows (rows_of s id) r three.2 is))

  pub row_left : (a : DocAction) → valid s a ≡ true → may_lose_row s a t r ≡ false → is_row_touched s a t r ≡ false
  row_left (BulkAdd table rows ks) v e = added_left (bytes_eq table t) (bytes_eq tables_id t) (bytes_eq columns_id t) rows r (new_rows table rows ks v)
  row_left (BulkUpdate table rows ks) v e = record_left (bytes_eq table t) (bytes_eq tables_id t) (bytes_eq columns_id t) rows r e
  row_left (BulkRemove table rows) v e = record_left (bytes_eq table t) (bytes_eq tables_id t) (bytes_eq columns_id t) rows r e
  row_left (AddTable table row columns) v e = new_table_rows table row columns v
  row_left (RemoveTable table) v e = schema_left (bytes_eq table t) (bytes_eq tables_id t) (bytes_eq columns_id t) (tables_touched s (RemoveTable table)) (columns_touched s (RemoveTable table)) r e
  row_left (RenameTable table new) v e = schema_left (bytes_eq table t || bytes_eq new t) (bytes_eq tables_id t) (bytes_eq columns_id t) (tables_touched s (RenameTable table new)) (columns_touched s (RenameTable table new)) r e
  row_left (AddColumn table d) v e = schema_left (bytes_eq table t) (bytes_eq tables_id t) (bytes_eq columns_id t) (tables_touched s (AddColumn table d)) (columns_touched s (AddColumn table d)) r e
  row_left (RemoveColumn table column) v e = schema_left (bytes_eq table t) (bytes_eq tables_id t) (bytes_eq columns_id t) (tables_touched s (RemoveColumn table column)) (columns_touched s (RemoveColumn table column)) r e
  row_left (RenameColumn table column new) v e = schema_left (bytes_eq table t) (bytes_eq tables_id t) (bytes_eq columns_id t) (tables_touched s (RenameColumn table column new)) (columns_touched s (RenameColumn table column new)) r e
  row_left (ModifyColumn table column info) v e = schema_left (bytes_eq table t) (bytes_eq tables_id t) (bytes_eq columns_id t) (tables_touched s (ModifyColumn table column info)) (columns_touched s (ModifyColumn table column info)) r e

-- ---- a data cell of a column that is not given keeps what it holds

module _ (s : Document) (table rows : List ℕ) (ks : List CellColumn) (v : valid s (BulkUpdate table rows ks) ≡ true)
    (t c : List ℕ) (r : ℕ) (x : Table) (d : ColDef) (at : find_id table_id t s ≡ Some x) (found : find_id column_id c x.grid.columns ≡ Some d) (here : has x.grid.rows r ≡ true)
    (no_formula : d.info.is_formula ≡ false) (unnamed : has_id given_id ks c ≡ false) where
  abbrev after : Document
  after = apply s (BulkUpdate table rows ks)

  abbrev updated : Table → Table
  updated u = on_grid (update_rows column_id rows ks) u

  abbrev there : CellOld
  there = record { cell = cell_of t c r; old = cell column_id (grid_at (filled s) t) c r }

  name : d.id ≡ c
  name = found_id column_id c x.grid.columns d found

  old : cell column_id (grid_at (filled s) t) c r ≡ cell column_id x.grid c r
  old = ap (λ g. cell column_id g c r) (grid_filled (value_of s) s x t at) ∙ filled_data (value_of s) x d c r name found here no_formula

  -- in a table with the same columns and rows, and the same in the cell
  held : (y : Table) → find_id table_id t after ≡ Some y → find_id column_id c y.grid.columns ≡ Some d → has y.grid.rows r ≡ true → cell column_id x.grid c r ≡ cell column_id y.grid c r → is_lost (filled after) (BulkUpdate table rows ks) there ≡ false
  held y now column row same =
      ap (differs (cell column_id (grid_at (filled s) t) c r)) (told_data (value_of after) after y d t c r now name column row no_formula)
      ∙ ap not ((same_value-Decides (cell column_id (grid_at (filled s) t) c r) (cell column_id y.grid c r)).1 (old ∙ same))

  unwritten : cell column_id x.grid c r ≡ cell column_id (updated x).grid c r
  unwritten =
      sym (ap (λ n. cell column_id (updated x).grid n r) (sym name)
      ∙ cell-grid_of column_id x.grid.columns x.grid.rows (λ (e : ColDef) n. unwrap_or (given rows ks e.id n) (cell column_id x.grid e.id n)) d r (ap (λ n. find_id column_id n x.grid.columns) name ∙ found) here
      ∙ ap (λ n. unwrap_or (given rows ks n r) (cell column_id x.grid n r)) name
      ∙ ap (λ o. unwrap_or o (cell column_id x.grid c r)) (given_unnamed rows ks c r unnamed))

  pub column_kept : is_lost (filled after) (BulkUpdate table rows ks) there ≡ false
  column_kept = by (bytes_eq table t) refl
    where
      now : find_id table_id t after ≡ cond (bytes_eq table t) (Some (updated x)) (Some x)
      now = ap (find_id table_id t) (applied s (BulkUpdate table rows ks) v) ∙ find-with_id table_id table updated (λ u. refl) s t ∙ ap (λ o. cond (bytes_eq table t) (option_map updated o) o) at

      by : (b : Bool) → bytes_eq table t ≡ b → is_lost (filled after) (BulkUpdate table rows ks) there ≡ false
      by true e = held (updated x) (now ∙ ap (λ b. cond b (Some (updated x)) (Some x)) e) found here unwritten
      by false e = held x (now ∙ ap (λ b. cond b (Some (updated x)) (Some x)) e) found here refl

-- ---- the law

module _ (s : Document) (a : DocAction) (whole : IsWhole s) (v : valid s a ≡ true) where
  abbrev IsKept : CellOld → Type 0
  IsKept o = may_lose (filled s) a o ≡ false → is_lost (filled (apply s a)) a o ≡ false

  module _ (t c : List ℕ) (r : ℕ) (x : Table) (d : ColDef) (at : find_id table_id t s ≡ Some x) (found : find_id column_id c x.grid.columns ≡ Some d) (here : has x.grid.rows r ≡ true) where
    abbrev cell_there : CellOld
    cell_there = record { cell = cell_of t c r; old = cell column_id (grid_at (filled s) t) c r }

    module _ (computed : is_computed s (cell_of t c r) ≡ false) where
      no_formula : d.info.is_formula ≡ false
      no_formula = sym (ap (λ (o : Option ColDef). elim o as (λ (o : Option ColDef). Bool) [ None ↦ false | Some e ↦ e.info.is_formula ])
          (ap (λ (o : Option Table). elim o as (λ (o : Option Table). Option ColDef) [ None ↦ None | Some u ↦ find_id column_id c u.grid.columns ]) at ∙ found)) ∙ computed

      by_row : may_lose_row (filled s) a t r ≡ false → is_lost (filled (apply s a)) a cell_there ≡ false
      by_row e =
          cell_kept s a whole v t c r x d at found here
          (ap (λ b. b || is_row_touched s a t r) computed
          ∙ row_left s t r x at here a v (sym (ap (λ l. not (is_adding a) && (may_lose_all a t || has (cond (names_table a t) (Rattle.recalc.specs.MayLose.rows_written a) [] ++ cond (bytes_eq columns_id t) l []) r)) (touched_filled (value_of s) s a)) ∙ e))

    by_column : (a : DocAction) (w : valid s a ≡ true) → d.info.is_formula ≡ false → may_lose_column a c ≡ false → is_lost (filled (apply s a)) a cell_there ≡ false
    by_column (BulkUpdate table rows ks) w plain e = column_kept s table rows ks w t c r x d at found here plain e
    by_column (BulkAdd table rows ks) w plain e = absurd (true≢false e)
    by_column (BulkRemove table rows) w plain e = absurd (true≢false e)
    by_column (AddTable table row columns) w plain e = absurd (true≢false e)
    by_column (RemoveTable table) w plain e = absurd (true≢false e)
    by_column (RenameTable table new) w plain e = absurd (true≢false e)
    by_column (AddColumn table d) w plain e = absurd (true≢false e)
    by_column (RemoveColumn table column) w plain e = absurd (true≢false e)
    by_column (RenameColumn table column new) w plain e = absurd (true≢false e)
    by_column (ModifyColumn table column info) w plain e = absurd (true≢false e)

    kept : IsKept cell_there
    kept e =
        let two = or_parts (is_computed (filled s) (cell_of t c r)) (may_lose_column a c && may_lose_row (filled s) a t r) e in
        let computed : is_computed s (cell_of t c r) ≡ false = sym (computed_filled (value_of s) s t c r) ∙ two.0 in
        elim (may_lose_column a c) as (λ b. may_lose_column a c ≡ b → (b && may_lose_row (filled s) a t r) ≡ false → is_lost (filled (apply s a)) a cell_there ≡ false) [
          | true ↦ λ _ e. by_row computed e
          | false ↦ λ e _. by_column a v (no_formula computed) e
        ] refl two.1

pub among_these : MayLoseLaw
among_these s a whole v =
    filter_watched (is_lost (filled (apply s a)) a) (may_lose (filled s) a) (all_cells (filled s))
    (each_cells s (IsKept s a whole v) (kept s a whole v) (in_order (map table_id (filled s))))
