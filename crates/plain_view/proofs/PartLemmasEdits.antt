-- The edits of one table are told by those of its rows in which it may change.
use Rattle.std.proofs.Common.{ℕ, Bool, true, false, not, ◌&&◌, List, [], ◌∷◌, ◌++◌, map, ◌≡◌, refl, sym, ap, subst, ◌∙◌, Some}
use Rattle.std.specs.List.{AllByRecursion}
use Rattle.doc_model.specs.declared.column.CellColumn.{CellColumn}
use Rattle.doc_model.specs.declared.view.ViewCol.{ViewCol}
use Rattle.doc_model.specs.ByIds.{find_id}
use Rattle.doc_model.specs.Grid.{Grid}
use Rattle.doc_model.specs.Records.{column_of}
use Rattle.doc_model.specs.Rows.{has}
use Rattle.doc_model.specs.Same.{same_value}
use Rattle.doc_model.specs.ViewEdits.{shown_id, IsShown, Edit, remove_column, add_column, modify_column, remove, add, update, if_any, whole, shape_edits, differing, cell_edits, edits}
use Rattle.doc_model.proofs.Choices.{each_weaker, each_filter, map_each}
use Rattle.doc_model.proofs.ByIdsLaws.{each_found}
use Rattle.doc_model.proofs.RowsLaws.{each_has, has-filter}
use Rattle.doc_model.proofs.SameLaws.{same_value-Decides}
use Rattle.doc_model.proofs.ViewEditsLaws.{after, at, gone, new, changed, out, come}
use Rattle.doc_model.specs.SameRows.{SameRow}
use Rattle.plain_view.proofs.PartLemmas.{map_every, each_passes, filter_again}
use Rattle.plain_view.proofs.PartLemmasCells.{passed, cell_passed, IsAlike, alike_after, alike_passed, cell_kept}

module _ (test : ℕ → Bool) (g w : Grid ViewCol) (s : IsShown g) (t : IsShown w) (agree : (r : ℕ) → test r ≡ false → SameRow shown_id r g w) where
  abbrev old : Grid ViewCol
  old = passed test g

  abbrev now : Grid ViewCol
  now = passed test w

  -- ---- rows that go and come

  out_same : out old now ≡ out g w
  out_same =
      filter_again test (λ r. not (has now.rows r)) (λ r. not (has w.rows r)) g.rows
      (each_has (λ r. (test r && not (has now.rows r)) ≡ not (has w.rows r)) g.rows (λ r here.
      ap (λ b. test r && not b) (has-filter test w.rows r)
      ∙ elim (test r) as (λ b. test r ≡ b → (b && not (b && has w.rows r)) ≡ not (has w.rows r)) [
        | true ↦ λ _. refl
        | false ↦ λ no. sym (ap not (sym (agree r no).rows ∙ here))
      ] refl))

  come_same : come old now ≡ come g w
  come_same =
      filter_again test (λ r. not (has old.rows r)) (λ r. not (has g.rows r)) w.rows
      (each_has (λ r. (test r && not (has old.rows r)) ≡ not (has g.rows r)) w.rows (λ r here.
      ap (λ b. test r && not b) (has-filter test g.rows r)
      ∙ elim (test r) as (λ b. test r ≡ b → (b && not (b && has g.rows r)) ≡ not (has g.rows r)) [
        | true ↦ λ _. refl
        | false ↦ λ no. sym (ap not ((agree r no).rows ∙ here))
      ] refl))

  -- ---- cells of rows that pass

  column_same : (rows : List ℕ) → AllByRecursion (λ r. test r ≡ true) rows → (c : List ℕ) → column_of shown_id now rows c ≡ column_of shown_id w rows c
  column_same rows pass c =
      ap (λ vs. let k : CellColumn = record { id = c; values = vs } in k)
      (map_each (at now c) (at w c) rows (each_weaker (λ r. test r ≡ true) (λ r. at now c r ≡ at w c r) (λ r p. cell_passed test w c r p) rows pass))

  whole_same : (rows : List ℕ) → AllByRecursion (λ r. test r ≡ true) rows → whole now rows ≡ whole w rows
  whole_same rows pass = map_every (λ (d : ViewCol). column_of shown_id now rows d.id) (λ (d : ViewCol). column_of shown_id w rows d.id) (λ d. column_same rows pass d.id) w.columns

  abbrev columns_changed : List Edit
  columns_changed = map (λ (d : ViewCol). remove_column d.id) (gone g w) ++ map add_column (new g w) ++ map modify_column (changed g w)

  shape_same : shape_edits old now ≡ shape_edits g w
  shape_same =
      ap (λ rows. columns_changed ++ if_any rows (remove rows) ++ if_any (come old now) (add (come old now) (whole now (come old now)))) out_same
      ∙ ap (λ ks. columns_changed ++ if_any (out g w) (remove (out g w)) ++ if_any (come old now) (add (come old now) ks))
      (whole_same (come old now) (each_filter (λ r. test r ≡ true) (λ r. not (has old.rows r)) now.rows (each_passes test w.rows)))
      ∙ ap (λ rows. columns_changed ++ if_any (out g w) (remove (out g w)) ++ if_any rows (add rows (whole w rows))) come_same

  -- ---- cells that still differ once the shape is that of the other

  abbrev shaped : Grid ViewCol
  shaped = after (shape_edits g w) g

  abbrev part_shaped : Grid ViewCol
  part_shaped = after (shape_edits old now) old

  shaped_alike : IsAlike test part_shaped shaped
  shaped_alike = subst (λ es. IsAlike test (after es old) shaped) (sym shape_same) (alike_after test (shape_edits g w) old g (alike_passed test g))

  -- a cell of a row that does not pass is the same
  cell_same : (d : ViewCol) (r : ℕ) → find_id shown_id (shown_id d) w.columns ≡ Some d → has w.rows r ≡ true → test r ≡ false → at shaped (shown_id d) r ≡ at w (shown_id d) r
  cell_same d r found there fails =
      let same : SameRow shown_id r g w = agree r fails in
      let old_found : find_id shown_id (shown_id d) g.columns ≡ Some d = ap (find_id shown_id (shown_id d)) same.columns ∙ found in
      let here : has g.rows r ≡ true = same.rows ∙ there in
      cell_kept g w s same.columns d r old_found here there ∙ same.cells d old_found here

  differing_same : (d : ViewCol) → find_id shown_id (shown_id d) w.columns ≡ Some d → differing part_shaped now d ≡ differing shaped w d
  differing_same d found =
      filter_again test (λ r. not (same_value (at part_shaped d.id r) (at now d.id r))) (λ r. not (same_value (at shaped d.id r) (at w d.id r))) w.rows
      (each_has (λ r. (test r && not (same_value (at part_shaped d.id r) (at now d.id r))) ≡ not (same_value (at shaped d.id r) (at w d.id r))) w.rows (λ r there.
      elim (test r) as (λ b. test r ≡ b → (b && not (same_value (at part_shaped d.id r) (at now d.id r))) ≡ not (same_value (at shaped d.id r) (at w d.id r))) [
        | true ↦ λ is. ap (λ v. not (same_value v (at now d.id r))) (shaped_alike.cells d.id r is)
            ∙ ap (λ v. not (same_value (at shaped d.id r) v)) (cell_passed test w d.id r is)
        | false ↦ λ no. sym (ap not ((same_value-Decides (at shaped d.id r) (at w d.id r)).1 (cell_same d r found there no)))
      ] refl))

  cells_same : (ds : List ViewCol) → AllByRecursion (λ d. find_id shown_id (shown_id d) w.columns ≡ Some d) ds → cell_edits part_shaped now ds ≡ cell_edits shaped w ds
  cells_same [] found = refl
  cells_same (d ∷ ds) found =
      ap (λ k. if_any (differing part_shaped now d) (update (differing part_shaped now d) (k ∷ [])) ++ cell_edits part_shaped now ds)
      (column_same (differing part_shaped now d)
      (each_filter (λ r. test r ≡ true) (λ r. not (same_value (at part_shaped d.id r) (at now d.id r))) now.rows (each_passes test w.rows)) d.id)
      ∙ ap (λ rows. if_any rows (update rows (column_of shown_id w rows d.id ∷ [])) ++ cell_edits part_shaped now ds) (differing_same d found.0)
      ∙ ap (λ es. if_any (differing shaped w d) (update (differing shaped w d) (column_of shown_id w (differing shaped w d) d.id ∷ [])) ++ es) (cells_same ds found.1)

  pub edits_same : edits old now ≡ edits g w
  edits_same =
      ap (λ es. es ++ cell_edits part_shaped now w.columns) shape_same
      ∙ ap (λ es. shape_edits g w ++ es) (cells_same w.columns (each_found shown_id (λ d. find_id shown_id (shown_id d) w.columns ≡ Some d) w.columns t.is_grid.distinct (λ d found. found)))
