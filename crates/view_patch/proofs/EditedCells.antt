-- A table built anew is the edited table.
use Rattle.std.proofs.Common.{ℕ, Bool, true, false, cond, not, ◌||◌, ◌&&◌, List, [], ◌∷◌, length, ◌≡◌, refl, sym, ap, ◌∙◌, Option, Some, None, unwrap_or, is_some, Result, Ok, Err}
use Rattle.std.proofs.lemmas.Bool.{false≢true}
use Rattle.std.proofs.lemmas.Slice.Eq.{bytes_eq-Decides}
use Rattle.std.specs.Str.{bytes_eq}
use Rattle.cell_types.specs.declared.value.CellValue.{CellValue}
use Rattle.cell_types.specs.declared.value.CellValue.TheVariants.{Null}
use Rattle.doc_model.specs.declared.column.CellColumn.{CellColumn}
use Rattle.doc_model.specs.declared.view.ViewCol.{ViewCol}
use Rattle.std.specs.Result.{IfOk}
use Rattle.doc_model.specs.declared.view.ViewTable.{ViewTable}
use Rattle.doc_model.specs.Changes.{table}
use Rattle.doc_model.specs.ByIds.{find_id, has_id, put_by_id, without_id}
use Rattle.doc_model.specs.Grid.{Grid, beside, cell, grid_of}
use Rattle.doc_model.specs.Records.{given}
use Rattle.doc_model.specs.Rows.{has, insert_rows, none_in, without}
use Rattle.doc_model.specs.ViewEdits.{IsShown, add, add_column, edited, modify_column, remove, remove_column, shown_id, shown_start, update}
use Rattle.doc_model.proofs.ByIdsLaws.{AreDistinct-IsByIds, IsByIds-filter, IsByIds-put_by_id, bytes_itself, find-put_by_id, find-without_id, found_id, has_found, has_id-find}
use Rattle.doc_model.proofs.Choices.{cond_true, each_true}
use Rattle.doc_model.proofs.GridLaws.{grid_of_same}
use Rattle.doc_model.proofs.RecordsLaws.{given_absent}
use Rattle.doc_model.proofs.RowsLaws.{each_at, has-filter, has-insert_rows}
use Rattle.plain_view.specs.Cells.{row_cells}
use Rattle.view_patch.specs.Given.{new_cell}
use Rattle.plain_view.proofs.RowIndexes.{beside_absent}
use Rattle.plain_view.proofs.ShapedCells.{beside_any, beside_none, old_cell, wide}

beside_empty : (test : ViewCol → Bool) (ks : List ViewCol) (a : CellValue) → beside test ks [] a ≡ a
beside_empty test [] a = refl
beside_empty test (k ∷ ks) a = refl

module _ (g : Grid ViewCol) (s : IsShown g) where
  -- a cell that is there is what stands there
  known : (d : ViewCol) (r : ℕ) → has_id shown_id g.columns d.id ≡ true → has g.rows r ≡ true → old_cell g d r ≡ cell shown_id g d.id r
  known d r found here = beside_any (λ (e : ViewCol). bytes_eq e.id d.id) g.columns (row_cells g r) (shown_start d) Null found (wide g.rows g.cells (length g.columns) r here s.is_grid.height s.is_grid.width)

  pub column_removed : (c : List ℕ) → grid_of (without_id shown_id c g.columns) g.rows (new_cell g [] []) ≡ edited (remove_column c) g
  column_removed c =
      grid_of_same shown_id (without_id shown_id c g.columns) g.rows (new_cell g [] []) (λ d r. cell shown_id g d.id r)
      (AreDistinct-IsByIds shown_id (without_id shown_id c g.columns) (IsByIds-filter shown_id (λ d. not (bytes_eq (shown_id d) c)) g.columns s.by_ids))
      (λ d r found here. known d r (left (bytes_eq c d.id) (find_id shown_id d.id g.columns) d (has_id-find shown_id d.id g.columns) (sym (find-without_id shown_id c g.columns d.id) ∙ found)) here)
    where
      left : (b : Bool) (o : Option ViewCol) (d : ViewCol) → {h : Bool} → h ≡ is_some o → cond b None o ≡ Some d → h ≡ true
      left true o d e found = absurd (cc)
      left false o d e found = e ∙ ap is_some found

  pub column_added : (n : ViewCol) → has_id shown_id g.columns n.id ≡ false → grid_of (put_by_id shown_id n g.columns) g.rows (new_cell g [] []) ≡ edited (add_column n) g
  column_added n new =
      grid_of_same shown_id (put_by_id shown_id n g.columns) g.rows (new_cell g [] []) (λ d r. cond (bytes_eq d.id n.id) (shown_start n) (cell shown_id g d.id r))
      (AreDistinct-IsByIds shown_id (put_by_id shown_id n g.columns) (IsByIds-put_by_id shown_id n g.columns s.by_ids))
      (λ d r found here. by_id d r here (bytes_eq n.id d.id) refl (sym (find-put_by_id shown_id n g.columns d.id) ∙ found))
    where
      by_id : (d : ViewCol) (r : ℕ) → has g.rows r ≡ true → (b : Bool) → bytes_eq n.id d.id ≡ b → cond (bytes_eq n.id d.id) (Some n) (find_id shown_id d.id g.columns) ≡ Some d → old_cell g d r ≡ cond (bytes_eq d.id n.id) (shown_start n) (cell shown_id g d.id r)
      by_id d r here true is found =
          let same : n ≡ d = let e : Some n ≡ Some d = ap (λ b. cond b (Some n) (find_id shown_id d.id g.columns)) (sym is) ∙ found in cc in
          beside_none (λ (e : ViewCol). bytes_eq e.id d.id) g.columns (row_cells g r) (shown_start d) (ap (λ (x : ViewCol). has_id shown_id g.columns x.id) (sym same) ∙ new)
          ∙ ap shown_start (sym same)
          ∙ sym (cond_true (bytes_eq d.id n.id) (shown_start n) (cell shown_id g d.id r) (ap (λ (x : ViewCol). bytes_eq d.id x.id) same ∙ bytes_itself d.id))
      by_id d r here false isnt found =
          let old : find_id shown_id d.id g.columns ≡ Some d = ap (λ b. cond b (Some n) (find_id shown_id d.id g.columns)) (sym isnt) ∙ found in
          known d r (has_found shown_id d.id g.columns d old) here
          ∙ ap (λ b. cond b (shown_start n) (cell shown_id g d.id r)) (sym (Rattle.doc_model.proofs.ByIdsLaws.bytes_apart n.id d.id isnt))

  pub column_modified : (n : ViewCol) → has_id shown_id g.columns n.id ≡ true → grid_of (put_by_id shown_id n g.columns) g.rows (new_cell g [] []) ≡ edited (modify_column n) g
  column_modified n old =
      grid_of_same shown_id (put_by_id shown_id n g.columns) g.rows (new_cell g [] []) (λ d r. cell shown_id g d.id r)
      (AreDistinct-IsByIds shown_id (put_by_id shown_id n g.columns) (IsByIds-put_by_id shown_id n g.columns s.by_ids))
      (λ d r found here. known d r (there d (bytes_eq n.id d.id) refl (sym (find-put_by_id shown_id n g.columns d.id) ∙ found)) here)
    where
      there : (d : ViewCol) (b : Bool) → bytes_eq n.id d.id ≡ b → cond (bytes_eq n.id d.id) (Some n) (find_id shown_id d.id g.columns) ≡ Some d → has_id shown_id g.columns d.id ≡ true
      there d true is found = ap (has_id shown_id g.columns) (sym ((bytes_eq-Decides n.id d.id).0 is)) ∙ old
      there d false isnt found = has_found shown_id d.id g.columns d (ap (λ b. cond b (Some n) (find_id shown_id d.id g.columns)) (sym isnt) ∙ found)

  pub rows_removed : (rows : List ℕ) → grid_of g.columns (without rows g.rows) (new_cell g [] []) ≡ edited (remove rows) g
  rows_removed rows =
      grid_of_same shown_id g.columns (without rows g.rows) (new_cell g [] []) (λ d r. cell shown_id g d.id r) s.is_grid.distinct
      (λ d r found here. known d r (has_found shown_id d.id g.columns d found) (left (has rows r) (has g.rows r) (sym (has-filter (λ r. not (has rows r)) g.rows r) ∙ here)))
    where
      left : (a b : Bool) → (not a && b) ≡ true → b ≡ true
      left true b e = absurd (false≢true e)
      left false b e = e

  pub rows_added : (rows : List ℕ) (ks : List CellColumn) → none_in rows g.rows ≡ true → grid_of g.columns (insert_rows rows g.rows) (new_cell g rows ks) ≡ edited (add rows ks) g
  rows_added rows ks new =
      grid_of_same shown_id g.columns (insert_rows rows g.rows) (new_cell g rows ks) (λ d r. cond (has rows r) (unwrap_or (given rows ks d.id r) (shown_start d)) (cell shown_id g d.id r)) s.is_grid.distinct
      (λ d r found here. by_row d r found (sym (has-insert_rows rows g.rows r) ∙ here) (has rows r) refl)
    where
      not_there : (b : Bool) → not b ≡ true → b ≡ false
      not_there true e = absurd (false≢true e)
      not_there false e = refl

      by_row : (d : ViewCol) (r : ℕ) → find_id shown_id d.id g.columns ≡ Some d → (has rows r || has g.rows r) ≡ true → (b : Bool) → has rows r ≡ b
          → new_cell g rows ks d r ≡ cond (has rows r) (unwrap_or (given rows ks d.id r) (shown_start d)) (cell shown_id g d.id r)
      by_row d r found here true is =
          let gone : has g.rows r ≡ false = not_there (has g.rows r) (each_at (λ q. not (has g.rows q) ≡ true) rows r (each_true (λ q. not (has g.rows q)) rows new) is) in
          ap (λ row. unwrap_or (given rows ks d.id r) (beside (λ (e : ViewCol). bytes_eq e.id d.id) g.columns row (shown_start d))) (beside_absent g.rows g.cells [] r gone)
          ∙ ap (unwrap_or (given rows ks d.id r)) (beside_empty (λ (e : ViewCol). bytes_eq e.id d.id) g.columns (shown_start d))
          ∙ ap (λ b. cond b (unwrap_or (given rows ks d.id r) (shown_start d)) (cell shown_id g d.id r)) (sym is)
      by_row d r found here false isnt =
          ap (λ o. unwrap_or o (old_cell g d r)) (given_absent rows ks d.id r isnt)
          ∙ known d r (has_found shown_id d.id g.columns d found) (ap (λ b. b || has g.rows r) (sym isnt) ∙ here)
          ∙ ap (λ b. cond b (unwrap_or (given rows ks d.id r) (shown_start d)) (cell shown_id g d.id r)) (sym isnt)

  pub values_given : (rows : List ℕ) (ks : List CellColumn) → grid_of g.columns g.rows (new_cell g rows ks) ≡ edited (update rows ks) g
  values_given rows ks =
      grid_of_same shown_id g.columns g.rows (new_cell g rows ks) (λ d r. unwrap_or (given rows ks d.id r) (cell shown_id g d.id r)) s.is_grid.distinct
      (λ d r found here. ap (unwrap_or (given rows ks d.id r)) (known d r (has_found shown_id d.id g.columns d found) here))

-- a table built anew is the one that was wanted
pub becomes : {E : Type 0} (r : Result ViewTable E) (name : List ℕ) (g : Grid ViewCol) (given_rows : List ℕ) (ks : List CellColumn) (cs columns : List ViewCol) (rs rows : List ℕ) (h : Grid ViewCol)
    → IfOk r (λ t. t ≡ table name (grid_of cs rs (new_cell g given_rows ks))) → cs ≡ columns → rs ≡ rows → grid_of columns rows (new_cell g given_rows ks) ≡ h → IfOk r (λ t. t ≡ table name h)
becomes (Ok t) name g given_rows ks cs columns rs rows h e ec er eh =
    e ∙ ap (λ l. table name (grid_of l rs (new_cell g given_rows ks))) ec ∙ ap (λ l. table name (grid_of columns l (new_cell g given_rows ks))) er ∙ ap (table name) eh
becomes (Err x) name g given_rows ks cs columns rs rows h e ec er eh = e
