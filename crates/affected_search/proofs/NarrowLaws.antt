-- What an action on records loses is found, or written or removed.
use Rattle.std.proofs.Common.{ℕ, Bool, true, false, cond, not, ◌||◌, ◌&&◌, List, [], ◌∷◌, ◌≤◌, filter, length, ◌≡◌, refl, sym, ap, ◌∙◌, subst, Option, Some, None, arith}
use Rattle.std.proofs.lemmas.Bool.{false≢true, true≢false, or_parts}
use Rattle.std.specs.List.{AllByRecursion}
use Rattle.std.specs.Option.{is_some, option_map}
use Rattle.std.specs.Str.{bytes_eq}
use Rattle.cell_types.specs.declared.cell.CellOld.{CellOld}
use Rattle.cell_types.specs.declared.value.CellValue.{CellValue}
use Rattle.doc_model.specs.declared.action.DocAction.{DocAction}
use Rattle.doc_model.specs.declared.action.DocAction.TheVariants.{BulkAdd, BulkUpdate, BulkRemove, AddTable, RemoveTable, RenameTable, AddColumn, RemoveColumn, RenameColumn, ModifyColumn}
use Rattle.doc_model.specs.declared.column.ColDef.{ColDef}
use Rattle.doc_model.specs.Apply.{apply}
use Rattle.doc_model.specs.ByIds.{find_id, has_id}
use Rattle.doc_model.specs.Column.{column_id}
use Rattle.doc_model.specs.Document.{Table, Document, table_id, on_grid}
use Rattle.doc_model.specs.DocumentLaws.{IsWhole}
use Rattle.doc_model.specs.Grid.{cell}
use Rattle.doc_model.specs.Readers.{cell_at}
use Rattle.doc_model.specs.Records.{update_rows}
use Rattle.doc_model.specs.Rows.{has}
use Rattle.doc_model.specs.SameRows.{Both}
use Rattle.doc_model.specs.Touched.{AreSameTables}
use Rattle.doc_model.specs.Valid.{valid}
use Rattle.doc_model.proofs.ByIdsLaws.{has_found}
use Rattle.doc_model.proofs.ByRowLaws.{find-with_id}
use Rattle.doc_model.proofs.Choices.{both_true, cond_true}
use Rattle.doc_model.proofs.DocumentParts.{applied}
use Rattle.doc_model.proofs.SameLaws.{same_value-Decides}
use Rattle.doc_model.proofs.UntouchedRows.{untouched}
use Rattle.doc_readers.specs.Parts.{grid_at}
use Rattle.recalc.specs.Cells.{cell_of}
use Rattle.recalc.specs.Evaluated.{base_at, filled, formula_at, formula_in, sheet_of, value_of}
use Rattle.recalc.specs.InOrder.{in_order}
use Rattle.recalc.specs.Lost.{all_cells, differs, is_lost}
use Rattle.recalc.specs.MayLose.{is_record, may_lose, may_lose_row}
use Rattle.recalc.specs.Seen.{value_told}
use Rattle.recalc.specs.Sheet.{Values, told_by}
use Rattle.recalc.specs.Watched.{is_computed}
use Rattle.recalc.proofs.FilledCells.{filled_told}
use Rattle.recalc.proofs.FilledLemmas.{filled_table, find_filled}
use Rattle.recalc.proofs.MayLoseCells.{among_these, row_left}
use Rattle.recalc.proofs.WatchedCells.{each_cells, filter_watched, grid_filled}
use Rattle.affected_cells.specs.Affected.{is_fresh_cell}
use Rattle.affected_cells.proofs.Tests.{found_once}
use Rattle.dep_graph.specs.declared.numbers.CellNumber.{CellNumber}
use Rattle.dep_graph.specs.Graph.{Graph}
use Rattle.affected_search.specs.Actions.{KeepsOthers}
use Rattle.affected_search.specs.Narrow.{NarrowLaw, is_narrow, is_written}
use Rattle.affected_search.specs.Sheets.{is_found}

-- ---- where a test in front leaves a filter as it is, it passes all that the filter keeps

module _ {X : Type 0} (p q : X → Bool) where
  split : (x : X) (xs : List X) (b : Bool) → filter p (cond b (x ∷ xs) xs) ≡ cond b (cond (p x) (x ∷ filter p xs) (filter p xs)) (filter p xs)
  split x xs true = refl
  split x xs false = refl

  shorter : (xs : List X) → length (filter p (filter q xs)) ≤ length (filter p xs)
  shorter [] = omega arith
  shorter (x ∷ xs) = subst (λ zs. length zs ≤ length (filter p (x ∷ xs))) (sym (split x (filter q xs) (q x))) (by (shorter xs) (q x) (p x))
    where
      by : length (filter p (filter q xs)) ≤ length (filter p xs) → (b c : Bool) → length (cond b (cond c (x ∷ filter p (filter q xs)) (filter p (filter q xs))) (filter p (filter q xs))) ≤ length (cond c (x ∷ filter p xs) (filter p xs))
      by l true true = omega arith
      by l true false = l
      by l false true = omega arith
      by l false false = l

  each_passes : (xs : List X) → length (filter p xs) ≡ length (filter p (filter q xs)) → AllByRecursion (λ x. q x ≡ false → p x ≡ false) xs
  each_passes [] e = tt
  each_passes (x ∷ xs) e = let w = by (q x) (p x) refl refl (e ∙ ap length (split x (filter q xs) (q x))) in (w.0, each_passes xs w.1)
    where
      by : (b c : Bool) → q x ≡ b → p x ≡ c → length (cond c (x ∷ filter p xs) (filter p xs)) ≡ length (cond b (cond c (x ∷ filter p (filter q xs)) (filter p (filter q xs))) (filter p (filter q xs)))
          → (q x ≡ false → p x ≡ false) × (length (filter p xs) ≡ length (filter p (filter q xs)))
      by true c is kept e = (λ h. absurd (true≢false (sym is ∙ h)), same c e)
        where
          same : (c : Bool) → length (cond c (x ∷ filter p xs) (filter p xs)) ≡ length (cond c (x ∷ filter p (filter q xs)) (filter p (filter q xs))) → length (filter p xs) ≡ length (filter p (filter q xs))
          same true e = omega arith
          same false e = e
      by false false is kept e = (λ h. kept, e)
      by false true is kept e = absurd (let l = shorter xs in omega arith)

both_all : {X : Type 0} (P Q R : X → Type 0) → ((x : X) → P x → Q x → R x) → (xs : List X) → AllByRecursion P xs → AllByRecursion Q xs → AllByRecursion R xs
both_all P Q R f [] h k = tt
both_all P Q R f (x ∷ xs) h k = (f x h.0 k.0, both_all P Q R f xs h.1 k.1)

-- ---- an action on records renames nothing, and modifies no column

same_names : (a : DocAction) → is_record a ≡ true → (w : Document) (o : CellOld) → is_lost w a o ≡ differs o.old (cell_at w o.cell.table o.cell.column o.cell.row)
same_names (BulkAdd t rows ks) h w o = refl
same_names (BulkUpdate t rows ks) h w o = refl
same_names (BulkRemove t rows) h w o = refl
same_names (AddTable t row ds) h w o = absurd (false≢true h)
same_names (RemoveTable t) h w o = absurd (false≢true h)
same_names (RenameTable t new) h w o = absurd (false≢true h)
same_names (AddColumn t d) h w o = absurd (false≢true h)
same_names (RemoveColumn t c) h w o = absurd (false≢true h)
same_names (RenameColumn t c new) h w o = absurd (false≢true h)
same_names (ModifyColumn t c info) h w o = absurd (false≢true h)

pub old_cell : (s : Document) (a : DocAction) → is_record a ≡ true → (c : _) (f : List ℕ) → (sheet_of s).formula c ≡ Some f → is_fresh_cell s a c ≡ false
old_cell s (BulkAdd t rows ks) h c f e = ap (λ (o : Option (List ℕ)). not (is_some o) || false) e
old_cell s (BulkUpdate t rows ks) h c f e = ap (λ (o : Option (List ℕ)). not (is_some o) || false) e
old_cell s (BulkRemove t rows) h c f e = ap (λ (o : Option (List ℕ)). not (is_some o) || false) e
old_cell s (AddTable t row ds) h c f e = absurd (false≢true h)
old_cell s (RemoveTable t) h c f e = absurd (false≢true h)
old_cell s (RenameTable t new) h c f e = absurd (false≢true h)
old_cell s (AddColumn t d) h c f e = absurd (false≢true h)
old_cell s (RemoveColumn t k) h c f e = absurd (false≢true h)
old_cell s (RenameColumn t k new) h c f e = absurd (false≢true h)
old_cell s (ModifyColumn t k info) h c f e = absurd (false≢true h)

-- ---- a formula cell that stands in a table

module _ (t c : List ℕ) (r : ℕ) where
  formula_there : (s : Document) (x : Table) (d : ColDef) → find_id table_id t s ≡ Some x → find_id column_id c x.grid.columns ≡ Some d → has x.grid.rows r ≡ true → d.info.is_formula ≡ true
      → formula_at s (cell_of t c r) ≡ Some d.info.formula
  formula_there s x d at found here is =
      ap (λ (o : Option Table). elim o as (λ _. Option (List ℕ)) [ None ↦ None | Some u ↦ elim (find_id column_id c u.grid.columns) as (λ _. Option (List ℕ)) [ None ↦ None | Some e ↦ formula_in u.grid r e ] ]) at
      ∙ ap (λ (o : Option ColDef). elim o as (λ _. Option (List ℕ)) [ None ↦ None | Some e ↦ formula_in x.grid r e ]) found
      ∙ cond_true (d.info.is_formula && has x.grid.rows r) (Some d.info.formula) None (both_true d.info.is_formula (has x.grid.rows r) is here)

  -- what is told of it, its value in place
  value_there : (s : Document) (f : List ℕ) → formula_at s (cell_of t c r) ≡ Some f → cell_at (filled s) t c r ≡ Some (value_of s t c r)
  value_there s f e =
      sym (filled_told (value_of s) s known_all t c r (λ g i. refl)) ∙ ap (λ o. value_told (told_by o (base_at s (cell_of t c r)) (Some (value_of s t c r)))) e
    where
      known_all : Values
      known_all d = Some (value_of s d.table d.column d.row)

  abbrev cell_there : Document → CellOld
  cell_there s = record { cell = cell_of t c r; old = cell column_id (grid_at (filled s) t) c r }

  shown : (s : Document) (x : Table) (d : ColDef) → find_id table_id t s ≡ Some x → find_id column_id c x.grid.columns ≡ Some d → has x.grid.rows r ≡ true → cell_at (filled s) t c r ≡ Some (cell_there s).old
  shown s x d at found here =
      ap (λ (o : Option Table). elim o as (λ _. Option CellValue) [ None ↦ None | Some u ↦ cond (has_id column_id u.grid.columns c && has u.grid.rows r) (Some (cell column_id u.grid c r)) None ]) (find_filled (value_of s) t s ∙ ap (option_map (filled_table (value_of s))) at)
      ∙ cond_true (has_id column_id x.grid.columns c && has x.grid.rows r) (Some (cell column_id (filled_table (value_of s) x).grid c r)) None (both_true (has_id column_id x.grid.columns c) (has x.grid.rows r) (has_found column_id c x.grid.columns d found) here)
      ∙ ap (λ g. Some (cell column_id g c r)) (sym (grid_filled (value_of s) s x t at))

  computed : (s : Document) (x : Table) (d : ColDef) → find_id table_id t s ≡ Some x → find_id column_id c x.grid.columns ≡ Some d → is_computed (filled s) (cell_of t c r) ≡ d.info.is_formula
  computed s x d at found =
      ap (λ (o : Option Table). elim (elim o as (λ _. Option ColDef) [ None ↦ None | Some u ↦ find_id column_id c u.grid.columns ]) as (λ _. Bool) [ None ↦ false | Some e ↦ e.info.is_formula ]) (find_filled (value_of s) t s ∙ ap (option_map (filled_table (value_of s))) at)
      ∙ ap (λ (o : Option ColDef). elim o as (λ _. Bool) [ None ↦ false | Some e ↦ e.info.is_formula ]) found

-- ---- it is there after an action on records, where this does not write or remove it

module _ (s : Document) (whole : IsWhole s) (t c : List ℕ) (r : ℕ) (x : Table) (at : find_id table_id t s ≡ Some x) (here : has x.grid.rows r ≡ true) where
  pub record StaysThere (after : Document) : Type 0 where
    pub table : Table
    pub now : find_id table_id t after ≡ Some table
    pub columns : table.grid.columns ≡ x.grid.columns
    pub row : has table.grid.rows r ≡ true

  left_there : (a : DocAction) → valid s a ≡ true → may_lose_row s a t r ≡ false → StaysThere (apply s a)
  left_there a ok e = by (find_id table_id t (apply s a)) refl (subst (λ o. Both (AreSameTables r) o (find_id table_id t (apply s a))) at (untouched s a whole ok t r (row_left s t r x at here a ok e)))
    where
      by : (o : Option Table) → find_id table_id t (apply s a) ≡ o → Both (AreSameTables r) (Some x) o → StaysThere (apply s a)
      by None now same = absurd same
      by (Some y) now same = record { table = y; now = now; columns = sym same.columns; row = sym same.rows ∙ here }

  stays_there : (a : DocAction) → valid s a ≡ true → is_record a ≡ true → is_written (filled s) a (cell_there t c r s) ≡ false → StaysThere (apply s a)
  stays_there (BulkAdd table rows ks) ok h e = left_there (BulkAdd table rows ks) ok e
  stays_there (BulkRemove table rows) ok h e = left_there (BulkRemove table rows) ok e
  stays_there (BulkUpdate table rows ks) ok h e = by (bytes_eq table t) refl
    where
      updated : Table → Table
      updated u = on_grid (update_rows column_id rows ks) u

      now : find_id table_id t (apply s (BulkUpdate table rows ks)) ≡ cond (bytes_eq table t) (Some (updated x)) (Some x)
      now = ap (find_id table_id t) (applied s (BulkUpdate table rows ks) ok) ∙ find-with_id table_id table updated (λ u. refl) s t ∙ ap (λ o. cond (bytes_eq table t) (option_map updated o) o) at

      by : (b : Bool) → bytes_eq table t ≡ b → StaysThere (apply s (BulkUpdate table rows ks))
      by true e = record { table = updated x; now = now ∙ ap (λ b. cond b (Some (updated x)) (Some x)) e; columns = refl; row = here }
      by false e = record { table = x; now = now ∙ ap (λ b. cond b (Some (updated x)) (Some x)) e; columns = refl; row = here }
  stays_there (AddTable table row ds) ok h e = absurd (false≢true h)
  stays_there (RemoveTable table) ok h e = absurd (false≢true h)
  stays_there (RenameTable table new) ok h e = absurd (false≢true h)
  stays_there (AddColumn table d) ok h e = absurd (false≢true h)
  stays_there (RemoveColumn table k) ok h e = absurd (false≢true h)
  stays_there (RenameColumn table k new) ok h e = absurd (false≢true h)
  stays_there (ModifyColumn table k info) ok h e = absurd (false≢true h)

-- ---- the law

module _ (s : Document) (a : DocAction) (graph : Graph) (cells : List CellNumber) (whole : IsWhole s) (ok : valid s a ≡ true) (of_records : is_record a ≡ true)
    (keeps : KeepsOthers s graph a cells) where
  abbrev after : Document
  after = apply s a

  abbrev IsLeft : CellOld → Type 0
  IsLeft o = is_computed (filled s) o.cell ≡ true → is_narrow graph cells (filled s) a o ≡ false → is_lost (filled after) a o ≡ false

  module _ (t c : List ℕ) (r : ℕ) (x : Table) (d : ColDef) (at : find_id table_id t s ≡ Some x) (found : find_id column_id c x.grid.columns ≡ Some d) (here : has x.grid.rows r ≡ true) where
    module _ (is : is_computed (filled s) (cell_of t c r) ≡ true) (narrow : is_narrow graph cells (filled s) a (cell_there t c r s) ≡ false) where
      parts : (is_found graph cells (cell_of t c r) ≡ false) × (is_written (filled s) a (cell_there t c r s) ≡ false)
      parts = or_parts (is_found graph cells (cell_of t c r)) (is_written (filled s) a (cell_there t c r s)) narrow

      is_formula : d.info.is_formula ≡ true
      is_formula = sym (computed t c r s x d at found) ∙ is

      before : formula_at s (cell_of t c r) ≡ Some d.info.formula
      before = formula_there t c r s x d at found here is_formula

      there : StaysThere s whole t c r x at here after
      there = stays_there s whole t c r x at here a ok of_records parts.1

      now : formula_at after (cell_of t c r) ≡ Some d.info.formula
      now = formula_there t c r after there.table d there.now (ap (find_id column_id c) there.columns ∙ found) there.row is_formula

      same : value_of after t c r ≡ value_of s t c r
      unfolding value_of
      same = (keeps ok (cell_of t c r) d.info.formula now (old_cell s a of_records (cell_of t c r) d.info.formula before) parts.0).0

      old : (cell_there t c r s).old ≡ value_of s t c r
      old = found_once (cell_there t c r s).old (value_of s t c r) (sym (shown t c r s x d at found here) ∙ value_there t c r s d.info.formula before)

      not_lost : is_lost (filled after) a (cell_there t c r s) ≡ false
      not_lost =
          same_names a of_records (filled after) (cell_there t c r s)
          ∙ ap (differs (cell_there t c r s).old) (value_there t c r after d.info.formula now)
          ∙ ap not ((same_value-Decides (cell_there t c r s).old (value_of after t c r)).1 (old ∙ sym same))

    is_left : IsLeft (cell_there t c r s)
    is_left = not_lost

  each_may : AllByRecursion (λ o. may_lose (filled s) a o ≡ false → is_lost (filled after) a o ≡ false) (all_cells (filled s))
  each_may = each_passes (is_lost (filled after) a) (may_lose (filled s) a) (all_cells (filled s)) (ap length (among_these s a whole ok))

  each_narrow : AllByRecursion (λ o. is_narrow graph cells (filled s) a o ≡ false → is_lost (filled after) a o ≡ false) (all_cells (filled s))
  each_narrow =
      both_all (λ o. may_lose (filled s) a o ≡ false → is_lost (filled after) a o ≡ false) IsLeft (λ o. is_narrow graph cells (filled s) a o ≡ false → is_lost (filled after) a o ≡ false) either (all_cells (filled s))
      each_may (each_cells s IsLeft is_left (in_order (Rattle.std.specs.Prelude.map table_id (filled s))))
    where
      either : (o : CellOld) → (may_lose (filled s) a o ≡ false → is_lost (filled after) a o ≡ false) → IsLeft o → is_narrow graph cells (filled s) a o ≡ false → is_lost (filled after) a o ≡ false
      either o may left narrow = by (is_computed (filled s) o.cell) refl
        where
          by : (b : Bool) → is_computed (filled s) o.cell ≡ b → is_lost (filled after) a o ≡ false
          by true is = left is narrow
          by false is = may (ap (λ b. b || is_written (filled s) a o) is ∙ (or_parts (is_found graph cells o.cell) (is_written (filled s) a o) narrow).1)

pub narrow_law : NarrowLaw
narrow_law s a graph cells whole ok of_records keeps =
    filter_watched (is_lost (filled (apply s a)) a) (is_narrow graph cells (filled s) a) (all_cells (filled s)) (each_narrow s a graph cells whole ok of_records keeps)
