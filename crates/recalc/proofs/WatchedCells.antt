-- What an action loses stands in formula columns or in rows that it touches.
use Rattle.std.proofs.Common.{ℕ, Bool, true, false, cond, not, ◌||◌, ◌&&◌, List, [], ◌∷◌, map, filter, ◌≡◌, refl, sym, ap, subst, ◌∙◌, Option, Some, None}
use Rattle.std.proofs.lemmas.Bool.{false≢true, or_parts}
use Rattle.std.specs.List.{AllByRecursion}
use Rattle.std.specs.Option.{option_map, is_some}
use Rattle.std.specs.Str.{bytes_eq}
use Rattle.cell_types.specs.declared.cell.CellOld.{CellOld}
use Rattle.cell_types.specs.declared.value.CellValue.{CellValue}
use Rattle.doc_model.specs.declared.action.DocAction.{DocAction}
use Rattle.doc_model.specs.declared.action.DocAction.TheVariants.{BulkAdd, BulkUpdate, BulkRemove, AddTable, RemoveTable, RenameTable, AddColumn, RemoveColumn, RenameColumn, ModifyColumn}
use Rattle.doc_model.specs.declared.column.ColDef.{ColDef}
use Rattle.doc_model.specs.Apply.{apply}
use Rattle.doc_model.specs.ByIds.{find_id, has_id}
use Rattle.doc_model.specs.Column.{column_id}
use Rattle.doc_model.specs.Document.{Table, Document, table_id}
use Rattle.doc_model.specs.DocumentLaws.{IsWhole}
use Rattle.doc_model.specs.Grid.{Grid, cell}
use Rattle.doc_model.specs.Readers.{cell_at}
use Rattle.doc_model.specs.Rows.{has}
use Rattle.doc_model.specs.SameRows.{Both}
use Rattle.doc_model.specs.Touched.{names_table, is_about, is_row_touched, tables_touched, columns_touched, AreSameTables}
use Rattle.doc_model.specs.MetadataIds.{tables_id, columns_id}
use Rattle.doc_model.specs.Valid.{valid}
use Rattle.doc_model.proofs.Choices.{cond_true, cond_false, both_true, each_mapped, each_weaker}
use Rattle.doc_model.proofs.ByIdsLaws.{found_id, has_found, has_id-find, bytes_apart, bytes_itself, each_by_id}
use Rattle.doc_model.proofs.RowsLaws.{each_has}
use Rattle.doc_model.proofs.SameLaws.{same_value-Decides}
use Rattle.doc_model.proofs.GridLaws.{cell-grid_of}
use Rattle.doc_model.proofs.UntouchedRows.{untouched}
use Rattle.doc_model.proofs.WholeLaws.{each_append}
use Rattle.doc_model.specs.Schema.{no_grid}
use Rattle.doc_readers.specs.Parts.{grid_at}
use Rattle.recalc.specs.Cells.{cell_of}
use Rattle.recalc.specs.Evaluated.{filled_by, filled, value_of}
use Rattle.recalc.specs.InOrder.{in_order, itself}
use Rattle.recalc.specs.Lost.{all_cells, cells_at, columns_cells, table_cells, tables_cells, table_after, column_after, differs, is_lost}
use Rattle.recalc.specs.Watched.{is_computed, is_watched, WatchedLaw}
use Rattle.recalc.proofs.FilledLemmas.{filled_table, find_filled}

-- ---- names that an action leaves

pub and_true : (b : Bool) → (b && true) ≡ false → b ≡ false
and_true true e = e
and_true false e = refl

pub same_table : (a : DocAction) (t : List ℕ) (r : ℕ) → (names_table a t && is_about a r) ≡ false → table_after a t ≡ t
same_table (RenameTable table new) t r away =
    let apart = or_parts (bytes_eq table t) (bytes_eq new t) (and_true (bytes_eq table t || bytes_eq new t) away) in
    cond_false (bytes_eq t table) new t (bytes_apart table t apart.0)
same_table (BulkAdd table rows ks) t r away = refl
same_table (BulkUpdate table rows ks) t r away = refl
same_table (BulkRemove table rows) t r away = refl
same_table (AddTable table row columns) t r away = refl
same_table (RemoveTable table) t r away = refl
same_table (AddColumn table d) t r away = refl
same_table (RemoveColumn table column) t r away = refl
same_table (RenameColumn table column new) t r away = refl
same_table (ModifyColumn table column info) t r away = refl

pub same_column : (a : DocAction) (t c : List ℕ) (r : ℕ) → (names_table a t && is_about a r) ≡ false → column_after a t c ≡ c
same_column (RenameColumn table column new) t c r away =
    ap (λ b. cond (b && bytes_eq c column) new c) (bytes_apart table t (and_true (bytes_eq table t) away))
same_column (RenameTable table new) t c r away = refl
same_column (BulkAdd table rows ks) t c r away = refl
same_column (BulkUpdate table rows ks) t c r away = refl
same_column (BulkRemove table rows) t c r away = refl
same_column (AddTable table row columns) t c r away = refl
same_column (RemoveTable table) t c r away = refl
same_column (AddColumn table d) t c r away = refl
same_column (RemoveColumn table column) t c r away = refl
same_column (ModifyColumn table column info) t c r away = refl

-- ---- a data cell of a document that is filled

module _ (v : List ℕ → List ℕ → ℕ → CellValue) where
  pub filled_data : (x : Table) (d : ColDef) (c : List ℕ) (r : ℕ) → d.id ≡ c → find_id column_id c x.grid.columns ≡ Some d → has x.grid.rows r ≡ true → d.info.is_formula ≡ false
      → cell column_id (filled_table v x).grid c r ≡ cell column_id x.grid c r
  filled_data x d c r name found here no_formula =
      ap (λ n. cell column_id (filled_table v x).grid n r) (sym name)
      ∙ cell-grid_of column_id x.grid.columns x.grid.rows (λ (e : ColDef) n. cond e.info.is_formula (v x.id e.id n) (cell column_id x.grid e.id n)) d r (ap (λ n. find_id column_id n x.grid.columns) name ∙ found) here
      ∙ cond_false d.info.is_formula (v x.id d.id r) (cell column_id x.grid d.id r) no_formula
      ∙ ap (λ n. cell column_id x.grid n r) name

  -- what the filled document tells of it
  pub told_data : (s : Document) (x : Table) (d : ColDef) (t c : List ℕ) (r : ℕ) → find_id table_id t s ≡ Some x → d.id ≡ c → find_id column_id c x.grid.columns ≡ Some d → has x.grid.rows r ≡ true → d.info.is_formula ≡ false
      → cell_at (filled_by v s) t c r ≡ Some (cell column_id x.grid c r)
  told_data s x d t c r at name found here no_formula =
      ap (λ (o : Option Table). elim o as (λ (o : Option Table). Option CellValue) [ None ↦ None | Some u ↦ cond (has_id column_id u.grid.columns c && has u.grid.rows r) (Some (cell column_id u.grid c r)) None ])
      (find_filled v t s ∙ ap (option_map (filled_table v)) at)
      ∙ cond_true (has_id column_id x.grid.columns c && has x.grid.rows r) (Some (cell column_id (filled_table v x).grid c r)) None (both_true (has_id column_id x.grid.columns c) (has x.grid.rows r) (has_found column_id c x.grid.columns d found) here)
      ∙ ap (λ w. Some w) (filled_data x d c r name found here no_formula)

  pub grid_filled : (s : Document) (x : Table) (t : List ℕ) → find_id table_id t s ≡ Some x → grid_at (filled_by v s) t ≡ (filled_table v x).grid
  grid_filled s x t at = ap (λ (o : Option Table). elim o as (λ (o : Option Table). Grid ColDef) [ None ↦ no_grid | Some u ↦ u.grid ]) (find_filled v t s ∙ ap (option_map (filled_table v)) at)

-- each of a list is there under its id
pub each_there : {X : Type 0} (id : X → List ℕ) (xs : List X) → AllByRecursion (λ x. has_id id xs (id x) ≡ true) xs
each_there id [] = tt
each_there id (x ∷ xs) = (
  ap (λ b. b || has_id id xs (id x)) (bytes_itself (id x)),
  each_weaker (λ y. has_id id xs (id y) ≡ true) (λ y. has_id id (x ∷ xs) (id y) ≡ true) (λ y h. later (bytes_eq (id x) (id y)) (has_id id xs (id y)) h) xs (each_there id xs),
)
  where
    later : (a b : Bool) → b ≡ true → (a || b) ≡ true
    later true b h = refl
    later false b h = h

-- ---- a cell that is not watched

module _ (s : Document) (a : DocAction) (whole : IsWhole s) (v : valid s a ≡ true) where
  abbrev after : Document
  after = apply s a

  abbrev cell_there : List ℕ → List ℕ → ℕ → CellOld
  cell_there t c r = record { cell = cell_of t c r; old = cell column_id (grid_at (filled s) t) c r }

  abbrev IsKept : CellOld → Type 0
  IsKept o = is_watched s a o ≡ false → is_lost (filled after) a o ≡ false

  pub cell_kept : (t c : List ℕ) (r : ℕ) (x : Table) (d : ColDef) → find_id table_id t s ≡ Some x → find_id column_id c x.grid.columns ≡ Some d → has x.grid.rows r ≡ true → IsKept (cell_there t c r)
  cell_kept t c r x d at found here watched =
      by_table (find_id table_id t after) refl (subst (λ o. Both (AreSameTables r) o (find_id table_id t after)) at (untouched s a whole v t r two.1))
    where
      two : (is_computed s (cell_of t c r) ≡ false) × (is_row_touched s a t r ≡ false)
      two = or_parts (is_computed s (cell_of t c r)) (is_row_touched s a t r) watched

      no_formula : d.info.is_formula ≡ false
      no_formula = sym (ap (λ (o : Option ColDef). elim o as (λ (o : Option ColDef). Bool) [ None ↦ false | Some e ↦ e.info.is_formula ])
          (ap (λ (o : Option Table). elim o as (λ (o : Option Table). Option ColDef) [ None ↦ None | Some u ↦ find_id column_id c u.grid.columns ]) at ∙ found)) ∙ two.0

      away : (names_table a t && is_about a r) ≡ false
      away = (or_parts (names_table a t && is_about a r) (bytes_eq tables_id t && has (tables_touched s a) r) (or_parts ((names_table a t && is_about a r) || (bytes_eq tables_id t && has (tables_touched s a) r)) (bytes_eq columns_id t && has (columns_touched s a) r) two.1).0).0

      name : d.id ≡ c
      name = found_id column_id c x.grid.columns d found

      old : cell column_id (grid_at (filled s) t) c r ≡ cell column_id x.grid c r
      old = ap (λ g. cell column_id g c r) (grid_filled (value_of s) s x t at) ∙ filled_data (value_of s) x d c r name found here no_formula

      by_table : (o : Option Table) → find_id table_id t after ≡ o → Both (AreSameTables r) (Some x) o → is_lost (filled after) a (cell_there t c r) ≡ false
      by_table None now same = absurd same
      by_table (Some y) now same =
          let there : find_id column_id c y.grid.columns ≡ Some d = ap (find_id column_id c) (sym same.columns) ∙ found in
          let told : cell_at (filled after) (table_after a t) (column_after a t c) r ≡ Some (cell column_id y.grid c r)
          = ap (λ n. cell_at (filled after) n (column_after a t c) r) (same_table a t r away) ∙ ap (λ n. cell_at (filled after) t n r) (same_column a t c r away)
          ∙ told_data (value_of after) after y d t c r now name there (sym same.rows ∙ here) no_formula in
          let values : cell column_id x.grid c r ≡ cell column_id y.grid c r = subst (λ n. cell column_id x.grid n r ≡ cell column_id y.grid n r) name (same.cells d (ap (λ n. find_id column_id n x.grid.columns) name ∙ found) here) in
          ap (differs (cell column_id (grid_at (filled s) t) c r)) told
          ∙ ap not ((same_value-Decides (cell column_id (grid_at (filled s) t) c r) (cell column_id y.grid c r)).1 (old ∙ values))

-- ---- all cells

module _ (s : Document) (P : CellOld → Type 0)
    (each : (t c : List ℕ) (r : ℕ) (x : Table) (d : ColDef) → find_id table_id t s ≡ Some x → find_id column_id c x.grid.columns ≡ Some d → has x.grid.rows r ≡ true → P (record { cell = cell_of t c r; old = cell column_id (grid_at (filled s) t) c r })) where
  each_cell : (t c : List ℕ) (x : Table) (d : ColDef) → find_id table_id t s ≡ Some x → find_id column_id c x.grid.columns ≡ Some d
      → (rows : List ℕ) → AllByRecursion (λ r. has x.grid.rows r ≡ true) rows → AllByRecursion P (cells_at t (grid_at (filled s) t) c rows)
  each_cell t c x d at found [] h = tt
  each_cell t c x d at found (r ∷ rows) h = (each t c r x d at found h.0, each_cell t c x d at found rows h.1)

  each_column : (t : List ℕ) (x : Table) → find_id table_id t s ≡ Some x → (rows : List ℕ) → AllByRecursion (λ r. has x.grid.rows r ≡ true) rows → rows ≡ (grid_at (filled s) t).rows
      → (cs : List (List ℕ)) → AllByRecursion (λ c. has_id column_id x.grid.columns c ≡ true) cs → AllByRecursion P (columns_cells t (grid_at (filled s) t) cs)
  each_column t x at rows h e [] k = tt
  each_column t x at rows h e (c ∷ cs) k =
      each_append P (cells_at t (grid_at (filled s) t) c (grid_at (filled s) t).rows) (columns_cells t (grid_at (filled s) t) cs)
      (subst (λ rs. AllByRecursion P (cells_at t (grid_at (filled s) t) c rs)) e (by (find_id column_id c x.grid.columns) refl (sym (has_id-find column_id c x.grid.columns) ∙ k.0)))
      (each_column t x at rows h e cs k.1)
    where
      by : (o : Option ColDef) → find_id column_id c x.grid.columns ≡ o → is_some o ≡ true → AllByRecursion P (cells_at t (grid_at (filled s) t) c rows)
      by None found there = absurd (false≢true there)
      by (Some d) found there = each_cell t c x d at found rows h

  each_table : (t : List ℕ) → AllByRecursion P (table_cells (filled s) t)
  each_table t = by (find_id table_id t s) refl
    where
      by : (o : Option Table) → find_id table_id t s ≡ o → AllByRecursion P (table_cells (filled s) t)
      by None at = subst (λ g. AllByRecursion P (columns_cells t g (in_order (map column_id g.columns)))) (sym (ap (λ (o : Option Table). elim o as (λ (o : Option Table). Grid ColDef) [ None ↦ no_grid | Some u ↦ u.grid ]) (find_filled (value_of s) t s ∙ ap (option_map (filled_table (value_of s))) at))) tt
      by (Some x) at =
          let g : grid_at (filled s) t ≡ (filled_table (value_of s) x).grid = grid_filled (value_of s) s x t at in
          each_column t x at x.grid.rows (each_has (λ r. has x.grid.rows r ≡ true) x.grid.rows (λ r h. h)) (sym (ap (λ (g : Grid ColDef). g.rows) g))
          (in_order (map column_id (grid_at (filled s) t).columns))
          (subst (λ (g : Grid ColDef). AllByRecursion (λ c. has_id column_id x.grid.columns c ≡ true) (in_order (map column_id g.columns))) (sym g)
          (each_by_id itself (λ c. has_id column_id x.grid.columns c ≡ true) (map column_id x.grid.columns) (each_mapped (λ c. has_id column_id x.grid.columns c ≡ true) column_id x.grid.columns (each_there column_id x.grid.columns))))

  pub each_cells : (ts : List (List ℕ)) → AllByRecursion P (tables_cells (filled s) ts)
  each_cells [] = tt
  each_cells (t ∷ ts) = each_append P (table_cells (filled s) t) (tables_cells (filled s) ts) (each_table t) (each_cells ts)

-- what a weaker test keeps first
pub filter_watched : {X : Type 0} (p q : X → Bool) (xs : List X) → AllByRecursion (λ x. q x ≡ false → p x ≡ false) xs → filter p xs ≡ filter p (filter q xs)
filter_watched p q [] h = refl
filter_watched p q (x ∷ xs) h =
    elim (q x) as (λ b. (b ≡ false → p x ≡ false) → filter p (x ∷ xs) ≡ filter p (cond b (x ∷ filter q xs) (filter q xs))) [
      | true ↦ λ _. ap (λ rest. cond (p x) (x ∷ rest) rest) (filter_watched p q xs h.1)
      | false ↦ λ k. cond_false (p x) (x ∷ filter p xs) (filter p xs) (k refl) ∙ filter_watched p q xs h.1
    ] h.0

pub watched : WatchedLaw
watched s a whole v = filter_watched (is_lost (filled (apply s a)) a) (is_watched s a) (all_cells (filled s)) (each_cells s (λ o. is_watched s a o ≡ false → is_lost (filled (apply s a)) a o ≡ false) (cell_kept s a whole v) (in_order (map table_id (filled s))))
