-- What the cells of a table are after its columns and rows were made those of another.
use Rattle.std.proofs.Common.{ℕ, Bool, true, false, cond, not, ◌||◌, ◌&&◌, List, [], ◌∷◌, map, length, ◌≡◌, refl, sym, ap, subst, ◌∙◌, Option, Some, None, unwrap_or, is_some, eqb, arith}
use Rattle.std.proofs.lemmas.Bool.{false≢true, true≢false}
use Rattle.std.proofs.lemmas.Slice.Eq.{bytes_eq-Decides}
use Rattle.std.specs.List.{AllByRecursion, list_any}
use Rattle.std.specs.Str.{bytes_eq}
use Rattle.cell_types.specs.declared.value.CellValue.{CellValue}
use Rattle.cell_types.specs.declared.value.CellValue.TheVariants.{Null}
use Rattle.doc_model.specs.declared.column.CellColumn.{CellColumn}
use Rattle.doc_model.specs.declared.view.ViewCol.{ViewCol}
use Rattle.doc_model.specs.ByIds.{precedes, find_id, has_id, IsByIds}
use Rattle.doc_model.specs.Rows.{has, insert_rows, without}
use Rattle.doc_model.specs.Grid.{Grid, beside, grid_of}
use Rattle.doc_model.specs.Records.{or_else, given}
use Rattle.doc_model.specs.ViewEdits.{shown_id, shown_start, IsShown, remove_column, add_column, modify_column, remove, add, edited, if_any, shape_edits}
use Rattle.doc_model.proofs.Choices.{cond_true, cond_false, keep}
use Rattle.doc_model.proofs.ByIdsLaws.{bytes_itself, bytes_apart, found_id, find_low, find-put_by_id, find-without_id, IsByIds-filter, has_id-find, find-filter, has_found}
use Rattle.doc_model.proofs.RowsLaws.{has-filter, has-insert_rows}
use Rattle.doc_model.proofs.GridLaws.{cell-grid_of}
use Rattle.doc_model.proofs.RecordsLaws.{given_own}
use Rattle.doc_model.proofs.ViewEditsLaws.{after, at, find-removed, rows-removed, find-added, rows-added, rows-modified, rows-out, columns-out, gone, new, changed, cuts, out, come, come_columns, columns_done, after_shape, find_done}
use Rattle.plain_view.specs.Cells.{row_cells}

-- the cell of a column that is found in a grid that is filled
at_filled : (cs : List ViewCol) (rs : List ℕ) (f : ViewCol → ℕ → CellValue) (c : List ℕ) (e : ViewCol) (r : ℕ) → find_id shown_id c cs ≡ Some e → has rs r ≡ true → at (grid_of cs rs f) c r ≡ f e r
at_filled cs rs f c e r found here =
    let named : e.id ≡ c = found_id shown_id c cs e found in
    ap (λ n. at (grid_of cs rs f) n r) (sym named)
    ∙ cell-grid_of shown_id cs rs f e r (ap (λ n. find_id shown_id n cs) named ∙ found) here

-- a column that is found is another than one of another id
other_id : (c : List ℕ) (cs : List ViewCol) (e d : ViewCol) → find_id shown_id c cs ≡ Some e → bytes_eq d.id c ≡ false → bytes_eq e.id d.id ≡ false
other_id c cs e d found apart = ap (λ n. bytes_eq n d.id) (found_id shown_id c cs e found) ∙ bytes_apart d.id c apart

-- a column that is not removed keeps its cells
kept_by_removal : (ds : List ViewCol) (g : Grid ViewCol) (c : List ℕ) (e : ViewCol) (r : ℕ) → find_id shown_id c g.columns ≡ Some e → has_id shown_id ds c ≡ false → has g.rows r ≡ true
    → at (after (map (λ (d : ViewCol). remove_column d.id) ds) g) c r ≡ at g c r
kept_by_removal [] g c e r found none here = refl
kept_by_removal (d ∷ ds) g c e r found none here =
    elim (bytes_eq d.id c) as (λ b. bytes_eq d.id c ≡ b → (b || has_id shown_id ds c) ≡ false → at (after (map (λ (d : ViewCol). remove_column d.id) (d ∷ ds)) g) c r ≡ at g c r) [
      | true ↦ λ _ no. absurd (true≢false no)
      | false ↦ λ apart none.
          let g1 : Grid ViewCol = edited (remove_column d.id) g in
          let there : find_id shown_id c g1.columns ≡ Some e = find-without_id shown_id d.id g.columns c ∙ ap (λ b. cond b None (find_id shown_id c g.columns)) apart ∙ found in
          kept_by_removal ds g1 c e r there none here
          ∙ at_filled g1.columns g.rows (λ d r. at g d.id r) c e r there here
          ∙ ap (λ n. at g n r) (found_id shown_id c g.columns e found)
    ] refl none

-- a column that is not added keeps its cells
kept_by_addition : (ds : List ViewCol) (g : Grid ViewCol) (c : List ℕ) (e : ViewCol) (r : ℕ) → find_id shown_id c g.columns ≡ Some e → has_id shown_id ds c ≡ false → has g.rows r ≡ true
    → at (after (map add_column ds) g) c r ≡ at g c r
kept_by_addition [] g c e r found none here = refl
kept_by_addition (d ∷ ds) g c e r found none here =
    elim (bytes_eq d.id c) as (λ b. bytes_eq d.id c ≡ b → (b || has_id shown_id ds c) ≡ false → at (after (map add_column (d ∷ ds)) g) c r ≡ at g c r) [
      | true ↦ λ _ no. absurd (true≢false no)
      | false ↦ λ apart none.
          let g1 : Grid ViewCol = edited (add_column d) g in
          let there : find_id shown_id c g1.columns ≡ Some e = find-put_by_id shown_id d g.columns c ∙ ap (λ b. cond b (Some d) (find_id shown_id c g.columns)) apart ∙ found in
          kept_by_addition ds g1 c e r there none here
          ∙ at_filled g1.columns g.rows (λ e r. cond (bytes_eq e.id d.id) (shown_start d) (at g e.id r)) c e r there here
          ∙ cond_false (bytes_eq e.id d.id) (shown_start d) (at g e.id r) (other_id c g.columns e d found apart)
          ∙ ap (λ n. at g n r) (found_id shown_id c g.columns e found)
    ] refl none

-- a new column's cells are the type's default
started_by_addition : (ds : List ViewCol) (g : Grid ViewCol) (c : List ℕ) (n : ViewCol) (r : ℕ) → IsByIds shown_id ds → find_id shown_id c ds ≡ Some n → has g.rows r ≡ true
    → at (after (map add_column ds) g) c r ≡ shown_start n
started_by_addition [] g c n r s found here = absurd (cc)
started_by_addition (d ∷ ds) g c n r s found here =
    elim (bytes_eq d.id c) as (λ b. bytes_eq d.id c ≡ b → cond b (Some d) (find_id shown_id c ds) ≡ Some n → at (after (map add_column (d ∷ ds)) g) c r ≡ shown_start n) [
      | true ↦ λ is e.
          let g1 : Grid ViewCol = edited (add_column d) g in
          let there : find_id shown_id c g1.columns ≡ Some d = find-put_by_id shown_id d g.columns c ∙ ap (λ b. cond b (Some d) (find_id shown_id c g.columns)) is in
          let none : has_id shown_id ds c ≡ false = has_id-find shown_id c ds ∙ ap is_some (find_low shown_id c ds (subst (λ e. AllByRecursion (λ y. precedes e (shown_id y) ≡ true) ds) ((bytes_eq-Decides d.id c).0 is) s.0)) in
          let same : d ≡ n = cc in
          kept_by_addition ds g1 c d r there none here
          ∙ at_filled g1.columns g.rows (λ e r. cond (bytes_eq e.id d.id) (shown_start d) (at g e.id r)) c d r there here
          ∙ cond_true (bytes_eq d.id d.id) (shown_start d) (at g d.id r) (bytes_itself d.id)
          ∙ ap shown_start same
      | false ↦ λ _ e. started_by_addition ds (edited (add_column d) g) c n r s.1 e here
    ] refl found

-- a column keeps its cells where columns are modified
kept_by_change : (ds : List ViewCol) (g : Grid ViewCol) (c : List ℕ) (e : ViewCol) (r : ℕ) → find_id shown_id c g.columns ≡ Some e → has g.rows r ≡ true
    → at (after (map modify_column ds) g) c r ≡ at g c r
kept_by_change [] g c e r found here = refl
kept_by_change (d ∷ ds) g c e r found here =
    let g1 : Grid ViewCol = edited (modify_column d) g in
    let e1 : ViewCol = cond (bytes_eq d.id c) d e in
    let there : find_id shown_id c g1.columns ≡ Some e1 = find-put_by_id shown_id d g.columns c ∙ ap (λ o. cond (bytes_eq d.id c) (Some d) o) found ∙ either (bytes_eq d.id c) d e in
    kept_by_change ds g1 c e1 r there here
    ∙ at_filled g1.columns g.rows (λ d r. at g d.id r) c e1 r there here
    ∙ ap (λ n. at g n r) (found_id shown_id c g1.columns e1 there)
  where
    either : (b : Bool) (d e : ViewCol) → cond b (Some d) (Some e) ≡ Some (cond b d e)
    either true d e = refl
    either false d e = refl

-- rows that stay keep their cells
kept_by_rows : (qs : List ℕ) (g : Grid ViewCol) (c : List ℕ) (e : ViewCol) (r : ℕ) → find_id shown_id c g.columns ≡ Some e → has (without qs g.rows) r ≡ true
    → at (after (if_any qs (remove qs)) g) c r ≡ at g c r
kept_by_rows [] g c e r found here = refl
kept_by_rows (q ∷ qs) g c e r found here =
    at_filled g.columns (without (q ∷ qs) g.rows) (λ d r. at g d.id r) c e r found here ∙ ap (λ n. at g n r) (found_id shown_id c g.columns e found)

-- new rows have the cells that they are given, and the others keep theirs
given_rows : (qs : List ℕ) (ks : List CellColumn) (g : Grid ViewCol) (c : List ℕ) (e : ViewCol) (r : ℕ) → find_id shown_id c g.columns ≡ Some e → has (insert_rows qs g.rows) r ≡ true
    → at (after (if_any qs (add qs ks)) g) c r ≡ cond (has qs r) (unwrap_or (given qs ks c r) (shown_start e)) (at g c r)
given_rows [] ks g c e r found here = refl
given_rows (q ∷ qs) ks g c e r found here =
    at_filled g.columns (insert_rows (q ∷ qs) g.rows) (λ d r. cond (has (q ∷ qs) r) (unwrap_or (given (q ∷ qs) ks d.id r) (shown_start d)) (at g d.id r)) c e r found here
    ∙ ap (λ n. cond (has (q ∷ qs) r) (unwrap_or (given (q ∷ qs) ks n r) (shown_start e)) (at g n r)) (found_id shown_id c g.columns e found)

-- the default makes no difference where the key is there
pub beside_any : (test : ViewCol → Bool) (ks : List ViewCol) (vs : List CellValue) (a b : CellValue) → list_any test ks ≡ true → length vs ≡ length ks → beside test ks vs a ≡ beside test ks vs b
beside_any test [] vs a b h e = absurd (false≢true h)
beside_any test (k ∷ ks) [] a b h e = absurd (omega arith)
beside_any test (k ∷ ks) (v ∷ vs) a b h e =
    elim (test k) as (λ t. (t || list_any test ks) ≡ true → cond t v (beside test ks vs a) ≡ cond t v (beside test ks vs b)) [
      | true ↦ λ _. refl
      | false ↦ λ h. beside_any test ks vs a b h (omega arith)
    ] h

pub beside_none : (test : ViewCol → Bool) (ks : List ViewCol) (vs : List CellValue) (a : CellValue) → list_any test ks ≡ false → beside test ks vs a ≡ a
beside_none test [] vs a h = refl
beside_none test (k ∷ ks) [] a h = refl
beside_none test (k ∷ ks) (v ∷ vs) a h =
    elim (test k) as (λ t. (t || list_any test ks) ≡ false → cond t v (beside test ks vs a) ≡ a) [
      | true ↦ λ h. absurd (true≢false h)
      | false ↦ λ h. beside_none test ks vs a h
    ] h

-- each row that is there has a cell for each column
pub wide : (rs : List ℕ) (cells : List (List CellValue)) (n r : ℕ) → has rs r ≡ true → length cells ≡ length rs → AllByRecursion (λ row. length row ≡ n) cells → length (beside (λ q. eqb q r) rs cells []) ≡ n
wide [] cells n r here e w = absurd (false≢true here)
wide (q ∷ rs) [] n r here e w = absurd (omega arith)
wide (q ∷ rs) (row ∷ cells) n r here e w =
    elim (eqb q r) as (λ b. (b || has rs r) ≡ true → length (cond b row (beside (λ q. eqb q r) rs cells [])) ≡ n) [
      | true ↦ λ _. w.0
      | false ↦ λ here. wide rs cells n r here (omega arith) w.1
    ] here

-- what a cell was before; in a new column it was the type's default
abbrev pub old_cell : Grid ViewCol → ViewCol → ℕ → CellValue
old_cell g d r = beside (λ (e : ViewCol). bytes_eq e.id d.id) g.columns (row_cells g r) (shown_start d)

module _ (g w : Grid ViewCol) (s : IsShown g) (t : IsShown w) (d : ViewCol) (r : ℕ) (found : find_id shown_id d.id w.columns ≡ Some d) where
  has_it : has_id shown_id w.columns d.id ≡ true
  has_it = has_found shown_id d.id w.columns d found

  not_gone : has_id shown_id (gone g w) d.id ≡ false
  not_gone =
      has_id-find shown_id d.id (gone g w)
      ∙ ap is_some (find-filter shown_id (λ d. not (has_id shown_id w.columns (shown_id d))) d.id g.columns s.by_ids
      ∙ stays (find_id shown_id d.id g.columns) refl)
    where
      stays : (o : Option ViewCol) → find_id shown_id d.id g.columns ≡ o → keep (λ (d : ViewCol). not (has_id shown_id w.columns d.id)) o ≡ None
      stays None e = refl
      stays (Some x) e = cond_false (not (has_id shown_id w.columns x.id)) (Some x) None (ap not (ap (has_id shown_id w.columns) (found_id shown_id d.id g.columns x e) ∙ has_it))

  -- the cells of an old column stay
  old_stays : (e : ViewCol) → find_id shown_id d.id g.columns ≡ Some e → has g.rows r ≡ true → at (columns_done g w) d.id r ≡ at g d.id r
  old_stays e there here =
      let g1 : Grid ViewCol = after (cuts g w) g in
      let g2 : Grid ViewCol = after (map add_column (new g w)) g1 in
      let there1 : find_id shown_id d.id g1.columns ≡ Some e = find-removed (gone g w) g d.id ∙ ap (λ b. cond b None (find_id shown_id d.id g.columns)) not_gone ∙ there in
      let old : has_id shown_id g.columns d.id ≡ true = has_found shown_id d.id g.columns e there in
      let none : find_id shown_id d.id (new g w) ≡ None = find-filter shown_id (λ d. not (has_id shown_id g.columns (shown_id d))) d.id w.columns t.by_ids ∙ ap (keep (λ (d : ViewCol). not (has_id shown_id g.columns d.id))) found ∙ ap (λ b. cond (not b) (Some d) None) old in
      let there2 : find_id shown_id d.id g2.columns ≡ Some e = find-added (new g w) g1 d.id (IsByIds-filter shown_id (λ d. not (has_id shown_id g.columns (shown_id d))) w.columns t.by_ids) ∙ ap (λ o. or_else o (find_id shown_id d.id g1.columns)) none ∙ there1 in
      let here1 : has g1.rows r ≡ true = ap (λ q. has q r) (rows-removed (gone g w) g) ∙ here in
      let here2 : has g2.rows r ≡ true = ap (λ q. has q r) (rows-added (new g w) g1) ∙ here1 in
      kept_by_change (changed g w) g2 d.id e r there2 here2
      ∙ kept_by_addition (new g w) g1 d.id e r there1 (has_id-find shown_id d.id (new g w) ∙ ap is_some none) here1
      ∙ kept_by_removal (gone g w) g d.id e r there not_gone here

  -- the cells of a new column are the type's default
  new_starts : find_id shown_id d.id g.columns ≡ None → has g.rows r ≡ true → at (columns_done g w) d.id r ≡ shown_start d
  new_starts absent here =
      let g1 : Grid ViewCol = after (cuts g w) g in
      let g2 : Grid ViewCol = after (map add_column (new g w)) g1 in
      let fresh : has_id shown_id g.columns d.id ≡ false = has_id-find shown_id d.id g.columns ∙ ap is_some absent in
      let by_ids : IsByIds shown_id (new g w) = IsByIds-filter shown_id (λ d. not (has_id shown_id g.columns (shown_id d))) w.columns t.by_ids in
      let is_new : find_id shown_id d.id (new g w) ≡ Some d = find-filter shown_id (λ d. not (has_id shown_id g.columns (shown_id d))) d.id w.columns t.by_ids ∙ ap (keep (λ (d : ViewCol). not (has_id shown_id g.columns d.id))) found ∙ ap (λ b. cond (not b) (Some d) None) fresh in
      let there2 : find_id shown_id d.id g2.columns ≡ Some d = find-added (new g w) g1 d.id by_ids ∙ ap (λ o. or_else o (find_id shown_id d.id g1.columns)) is_new in
      let here1 : has g1.rows r ≡ true = ap (λ q. has q r) (rows-removed (gone g w) g) ∙ here in
      let here2 : has g2.rows r ≡ true = ap (λ q. has q r) (rows-added (new g w) g1) ∙ here1 in
      kept_by_change (changed g w) g2 d.id d r there2 here2
      ∙ started_by_addition (new g w) g1 d.id d r by_ids is_new here1

  done_cell : has g.rows r ≡ true → at (columns_done g w) d.id r ≡ old_cell g d r
  done_cell here = by_look_up (find_id shown_id d.id g.columns) refl
    where
      by_look_up : (o : Option ViewCol) → find_id shown_id d.id g.columns ≡ o → at (columns_done g w) d.id r ≡ old_cell g d r
      by_look_up None e = new_starts e here ∙ sym (beside_none (λ (e : ViewCol). bytes_eq e.id d.id) g.columns (row_cells g r) (shown_start d) (has_id-find shown_id d.id g.columns ∙ ap is_some e))
      by_look_up (Some x) e = old_stays x e here ∙ beside_any (λ (e : ViewCol). bytes_eq e.id d.id) g.columns (row_cells g r) Null (shown_start d) (has_found shown_id d.id g.columns x e) (wide g.rows g.cells (length g.columns) r here s.is_grid.height s.is_grid.width)

  -- a cell after the shape edits: what it was where its row stays, and else what it is to be
  pub shaped_cell : has w.rows r ≡ true → at (after (shape_edits g w) g) d.id r ≡ cond (has g.rows r) (old_cell g d r) (at w d.id r)
  shaped_cell here =
      let h : Grid ViewCol = columns_done g w in
      let cut : Grid ViewCol = after (if_any (out g w) (remove (out g w))) h in
      let rows_h : h.rows ≡ g.rows = rows-modified (changed g w) (after (map add_column (new g w)) (after (cuts g w) g)) ∙ rows-added (new g w) (after (cuts g w) g) ∙ rows-removed (gone g w) g in
      let rows_cut : cut.rows ≡ without (out g w) g.rows = rows-out (out g w) h ∙ ap (without (out g w)) rows_h in
      let there_h : find_id shown_id d.id h.columns ≡ Some d = find_done g w s t d.id ∙ found in
      let there_cut : find_id shown_id d.id cut.columns ≡ Some d = ap (find_id shown_id d.id) (columns-out (out g w) h) ∙ there_h in
      let comes : has (come g w) r ≡ not (has g.rows r) = has-filter (λ r. not (has g.rows r)) w.rows r ∙ ap (λ b. not (has g.rows r) && b) here ∙ and_yes (not (has g.rows r)) in
      let stays : has (out g w) r ≡ false = has-filter (λ r. not (has w.rows r)) g.rows r ∙ ap (λ b. not b && has g.rows r) here in
      let left : has (without (out g w) g.rows) r ≡ has g.rows r = has-filter (λ r. not (has (out g w) r)) g.rows r ∙ ap (λ b. not b && has g.rows r) stays in
      let all : has (insert_rows (come g w) cut.rows) r ≡ true = has-insert_rows (come g w) cut.rows r ∙ ap (λ q. has (come g w) r || has q r) rows_cut ∙ ap (λ b. b || has (without (out g w) g.rows) r) comes ∙ ap (λ b. not (has g.rows r) || b) left ∙ or_yes (has g.rows r) in
      ap (λ x. at x d.id r) (after_shape g w)
      ∙ given_rows (come g w) (come_columns g w) cut d.id d r there_cut all
      ∙ ap (λ b. cond b (unwrap_or (given (come g w) (come_columns g w) d.id r) (shown_start d)) (at cut d.id r)) comes
      ∙ by_row (has g.rows r) refl there_h rows_h comes left
    where
      and_yes : (b : Bool) → (b && true) ≡ b
      and_yes true = refl
      and_yes false = refl

      or_yes : (b : Bool) → (not b || b) ≡ true
      or_yes true = refl
      or_yes false = refl

      by_row : (b : Bool) → has g.rows r ≡ b → find_id shown_id d.id (columns_done g w).columns ≡ Some d → (columns_done g w).rows ≡ g.rows → has (come g w) r ≡ not (has g.rows r) → has (without (out g w) g.rows) r ≡ has g.rows r
          → cond (not b) (unwrap_or (given (come g w) (come_columns g w) d.id r) (shown_start d)) (at (after (if_any (out g w) (remove (out g w))) (columns_done g w)) d.id r) ≡ cond b (old_cell g d r) (at w d.id r)
      by_row true e there rows comes left =
          kept_by_rows (out g w) (columns_done g w) d.id d r there (ap (λ q. has (without (out g w) q) r) rows ∙ left ∙ e) ∙ done_cell e
      by_row false e there rows comes left =
          ap (λ o. unwrap_or o (shown_start d)) (given_own shown_id w (come g w) shown_id w.columns d.id r (comes ∙ ap not e)
          ∙ ap (λ b. cond b (Some (at w d.id r)) None) has_it)
