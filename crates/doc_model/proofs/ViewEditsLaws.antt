-- The edits that lead from one state of a table to another do so.
use Rattle.std.proofs.Common.{ℕ, Bool, true, false, cond, not, ◌||◌, ◌&&◌, List, [], ◌∷◌, ◌++◌, map, filter, ◌≡◌, refl, sym, ap, subst, ◌∙◌, Option, Some, None, unwrap_or, is_some}
use Rattle.std.proofs.lemmas.Bool.{false≢true, true≢false}
use Rattle.std.proofs.lemmas.Slice.Eq.{bytes_eq-Decides}
use Rattle.std.specs.List.{AllByRecursion}
use Rattle.std.specs.Str.{bytes_eq}
use Rattle.cell_types.specs.declared.value.CellValue.{CellValue}
use Rattle.doc_model.specs.declared.column.CellColumn.{CellColumn}
use Rattle.doc_model.specs.declared.view.ViewCol.{ViewCol}
use Rattle.doc_model.specs.ByIds.{precedes, find_id, has_id, IsByIds, put_by_id, without_id}
use Rattle.doc_model.specs.Rows.{has, insert_rows, without}
use Rattle.doc_model.specs.Grid.{Grid, cell}
use Rattle.doc_model.specs.Records.{or_else, given, column_of}
use Rattle.doc_model.specs.Same.{same_value, same_column}
use Rattle.doc_model.specs.ViewEdits.{shown_id, shown_start, IsShown, Edit, remove_column, add_column, modify_column, remove, add, update, edited, all_edited, if_any, whole, differs, shape_edits, differing, cell_edits, edits}
use Rattle.doc_model.proofs.Choices.{keep, filter_all, filter_none}
use Rattle.doc_model.proofs.ByIdsLaws.{found_id, find_low, find-put_by_id, find-without_id, IsByIds-put_by_id, IsByIds-filter, same_by_ids, has_id-find, find-filter, AreDistinct-IsByIds, each_found, has_found}
use Rattle.doc_model.proofs.RowsLaws.{each_has, has-filter, insert_rows-without}
use Rattle.doc_model.proofs.GridLaws.{cell-grid_of, same_grid, IsGrid-grid_of}
use Rattle.doc_model.proofs.RecordsLaws.{given_own, given_absent, IsGrid-add_rows, IsGrid-update_rows, IsGrid-remove_rows}
use Rattle.doc_model.proofs.SameLaws.{same_value-Decides, same_column-Decides}

abbrev pub after : List Edit → Grid ViewCol → Grid ViewCol
after es g = all_edited es g

abbrev pub at : Grid ViewCol → List ℕ → ℕ → CellValue
at g c r = cell shown_id g c r

pub after-append : (es fs : List Edit) (g : Grid ViewCol) → after (es ++ fs) g ≡ after fs (after es g)
after-append [] fs g = refl
after-append (e ∷ es) fs g = after-append es fs (edited e g)

-- an edited table has its columns by id and is a grid
pub IsShown-edited : (e : Edit) (g : Grid ViewCol) → IsShown g → IsShown (edited e g)
IsShown-edited (remove_column c) g h =
    let ids : IsByIds shown_id (without_id shown_id c g.columns) = IsByIds-filter shown_id (λ d. not (bytes_eq (shown_id d) c)) g.columns h.by_ids in
    record { by_ids = ids; is_grid = IsGrid-grid_of shown_id (without_id shown_id c g.columns) g.rows (λ d r. at g (shown_id d) r) (AreDistinct-IsByIds shown_id (without_id shown_id c g.columns) ids) h.is_grid.ascending }
IsShown-edited (add_column n) g h =
    let ids : IsByIds shown_id (put_by_id shown_id n g.columns) = IsByIds-put_by_id shown_id n g.columns h.by_ids in
    record { by_ids = ids; is_grid = IsGrid-grid_of shown_id (put_by_id shown_id n g.columns) g.rows (λ d r. cond (bytes_eq d.id n.id) (shown_start n) (at g d.id r)) (AreDistinct-IsByIds shown_id (put_by_id shown_id n g.columns) ids) h.is_grid.ascending }
IsShown-edited (modify_column n) g h =
    let ids : IsByIds shown_id (put_by_id shown_id n g.columns) = IsByIds-put_by_id shown_id n g.columns h.by_ids in
    record { by_ids = ids; is_grid = IsGrid-grid_of shown_id (put_by_id shown_id n g.columns) g.rows (λ d r. at g d.id r) (AreDistinct-IsByIds shown_id (put_by_id shown_id n g.columns) ids) h.is_grid.ascending }
IsShown-edited (remove rows) g h = record { by_ids = h.by_ids; is_grid = IsGrid-remove_rows shown_id shown_start rows g h.is_grid }
IsShown-edited (add rows ks) g h = record { by_ids = h.by_ids; is_grid = IsGrid-add_rows shown_id shown_start rows ks g h.is_grid }
IsShown-edited (update rows ks) g h = record { by_ids = h.by_ids; is_grid = IsGrid-update_rows shown_id shown_start rows ks g h.is_grid }

pub IsShown-after : (es : List Edit) (g : Grid ViewCol) → IsShown g → IsShown (after es g)
IsShown-after [] g h = h
IsShown-after (e ∷ es) g h = IsShown-after es (edited e g) (IsShown-edited e g h)

-- what removals leave
pub find-removed : (ds : List ViewCol) (g : Grid ViewCol) (c : List ℕ) → find_id shown_id c (after (map (λ d. remove_column (shown_id d)) ds) g).columns ≡ cond (has_id shown_id ds c) None (find_id shown_id c g.columns)
find-removed [] g c = refl
find-removed (d ∷ ds) g c =
    find-removed ds (edited (remove_column (shown_id d)) g) c
    ∙ ap (λ o. cond (has_id shown_id ds c) None o) (find-without_id shown_id (shown_id d) g.columns c)
    ∙ elim (bytes_eq (shown_id d) c) as (λ b. cond (has_id shown_id ds c) None (cond b None (find_id shown_id c g.columns)) ≡ cond (b || has_id shown_id ds c) None (find_id shown_id c g.columns)) [
      | true ↦ elim (has_id shown_id ds c) as (λ b. ◌≡◌ {A = Option ViewCol} (cond b None None) None) [ true ↦ refl | false ↦ refl ]
      | false ↦ refl
    ]

pub rows-removed : (ds : List ViewCol) (g : Grid ViewCol) → (after (map (λ d. remove_column (shown_id d)) ds) g).rows ≡ g.rows
rows-removed [] g = refl
rows-removed (d ∷ ds) g = rows-removed ds (edited (remove_column (shown_id d)) g)

placed : (d : ViewCol) (ds cs : List ViewCol) (c : List ℕ) → IsByIds shown_id (d ∷ ds) → or_else (find_id shown_id c ds) (find_id shown_id c (put_by_id shown_id d cs)) ≡ or_else (find_id shown_id c (d ∷ ds)) (find_id shown_id c cs)
placed d ds cs c s =
    ap (or_else (find_id shown_id c ds)) (find-put_by_id shown_id d cs c)
    ∙ elim (bytes_eq (shown_id d) c) as (λ b. bytes_eq (shown_id d) c ≡ b → or_else (find_id shown_id c ds) (cond b (Some d) (find_id shown_id c cs)) ≡ or_else (cond b (Some d) (find_id shown_id c ds)) (find_id shown_id c cs)) [
      | true ↦ λ is. ap (λ o. or_else o (Some d)) (find_low shown_id c ds (subst (λ e. AllByRecursion (λ y. precedes e (shown_id y) ≡ true) ds) ((bytes_eq-Decides (shown_id d) c).0 is) s.0))
      | false ↦ λ _. refl
    ] refl

pub find-added : (ds : List ViewCol) (g : Grid ViewCol) (c : List ℕ) → IsByIds shown_id ds → find_id shown_id c (after (map add_column ds) g).columns ≡ or_else (find_id shown_id c ds) (find_id shown_id c g.columns)
find-added [] g c s = refl
find-added (d ∷ ds) g c s = find-added ds (edited (add_column d) g) c s.1 ∙ placed d ds g.columns c s

pub rows-added : (ds : List ViewCol) (g : Grid ViewCol) → (after (map add_column ds) g).rows ≡ g.rows
rows-added [] g = refl
rows-added (d ∷ ds) g = rows-added ds (edited (add_column d) g)

pub find-modified : (ds : List ViewCol) (g : Grid ViewCol) (c : List ℕ) → IsByIds shown_id ds → find_id shown_id c (after (map modify_column ds) g).columns ≡ or_else (find_id shown_id c ds) (find_id shown_id c g.columns)
find-modified [] g c s = refl
find-modified (d ∷ ds) g c s = find-modified ds (edited (modify_column d) g) c s.1 ∙ placed d ds g.columns c s

pub rows-modified : (ds : List ViewCol) (g : Grid ViewCol) → (after (map modify_column ds) g).rows ≡ g.rows
rows-modified [] g = refl
rows-modified (d ∷ ds) g = rows-modified ds (edited (modify_column d) g)

-- rows that may be none
pub rows-out : (qs : List ℕ) (g : Grid ViewCol) → (after (if_any qs (remove qs)) g).rows ≡ without qs g.rows
rows-out [] g = sym (filter_all (λ (r : ℕ). true) g.rows (every g.rows))
  where
    every : (rs : List ℕ) → AllByRecursion (λ (r : ℕ). true ≡ true) rs
    every [] = tt
    every (r ∷ rs) = (refl, every rs)
rows-out (q ∷ qs) g = refl

pub columns-out : (qs : List ℕ) (g : Grid ViewCol) → (after (if_any qs (remove qs)) g).columns ≡ g.columns
columns-out [] g = refl
columns-out (q ∷ qs) g = refl

rows-in : (qs : List ℕ) (ks : List CellColumn) (g : Grid ViewCol) → (after (if_any qs (add qs ks)) g).rows ≡ insert_rows qs g.rows
rows-in [] ks g = refl
rows-in (q ∷ qs) ks g = refl

columns-in : (qs : List ℕ) (ks : List CellColumn) (g : Grid ViewCol) → (after (if_any qs (add qs ks)) g).columns ≡ g.columns
columns-in [] ks g = refl
columns-in (q ∷ qs) ks g = refl

abbrev pub gone : Grid ViewCol → Grid ViewCol → List ViewCol
gone g w = filter (λ d. not (has_id shown_id w.columns (shown_id d))) g.columns

abbrev pub new : Grid ViewCol → Grid ViewCol → List ViewCol
new g w = filter (λ d. not (has_id shown_id g.columns (shown_id d))) w.columns

abbrev pub changed : Grid ViewCol → Grid ViewCol → List ViewCol
changed g w = filter (differs g.columns) w.columns

-- by what an shown_id finds in the two grids
choice : (g w : Grid ViewCol) (c : List ℕ) (G W : Option ViewCol) → find_id shown_id c g.columns ≡ G → find_id shown_id c w.columns ≡ W
    → or_else (keep (differs g.columns) W)
    (or_else (keep (λ d. not (has_id shown_id g.columns (shown_id d))) W)
    (cond (is_some (keep (λ d. not (has_id shown_id w.columns (shown_id d))) G)) None G)) ≡ W
choice g w c None None eg ew = refl
choice g w c (Some e) None eg ew =
    let lost : has_id shown_id w.columns (shown_id e) ≡ false = ap (has_id shown_id w.columns) (found_id shown_id c g.columns e eg) ∙ has_id-find shown_id c w.columns ∙ ap is_some ew in
    ap (λ b. cond (is_some (cond (not b) (Some e) None)) None (Some e)) lost
choice g w c None (Some d) eg ew =
    let named : shown_id d ≡ c = found_id shown_id c w.columns d ew in
    let fresh : has_id shown_id g.columns (shown_id d) ≡ false = ap (has_id shown_id g.columns) named ∙ has_id-find shown_id c g.columns ∙ ap is_some eg in
    let nothing : find_id shown_id (shown_id d) g.columns ≡ None = ap (λ n. find_id shown_id n g.columns) named ∙ eg in
    ap (λ o. or_else (cond (elim o [ None ↦ false | Some e ↦ not (same_column e d) ]) (Some d) None) (or_else (cond (not (has_id shown_id g.columns (shown_id d))) (Some d) None) None)) nothing
    ∙ ap (λ b. or_else (cond (not b) (Some d) None) None) fresh
choice g w c (Some e) (Some d) eg ew =
    let named : shown_id d ≡ c = found_id shown_id c w.columns d ew in
    let there : has_id shown_id g.columns (shown_id d) ≡ true = ap (has_id shown_id g.columns) named ∙ has_id-find shown_id c g.columns ∙ ap is_some eg in
    let stays : has_id shown_id w.columns (shown_id e) ≡ true = ap (has_id shown_id w.columns) (found_id shown_id c g.columns e eg) ∙ has_id-find shown_id c w.columns ∙ ap is_some ew in
    let old : find_id shown_id (shown_id d) g.columns ≡ Some e = ap (λ n. find_id shown_id n g.columns) named ∙ eg in
    ap (λ o. or_else (cond (elim o [ None ↦ false | Some e ↦ not (same_column e d) ]) (Some d) None)
    (or_else (cond (not (has_id shown_id g.columns (shown_id d))) (Some d) None) (cond (is_some (cond (not (has_id shown_id w.columns (shown_id e))) (Some e) None)) None (Some e)))) old
    ∙ ap (λ b. or_else (cond (not (same_column e d)) (Some d) None) (or_else (cond (not b) (Some d) None) (cond (is_some (cond (not (has_id shown_id w.columns (shown_id e))) (Some e) None)) None (Some e)))) there
    ∙ ap (λ b. or_else (cond (not (same_column e d)) (Some d) None) (cond (is_some (cond (not b) (Some e) None)) None (Some e))) stays
    ∙ elim (same_column e d) as (λ b. same_column e d ≡ b → or_else (cond (not b) (Some d) None) (Some e) ≡ Some d) [
      | true ↦ λ is. ap Some ((same_column-Decides e d).0 is)
      | false ↦ λ _. refl
    ] refl

abbrev pub shape : Grid ViewCol → Grid ViewCol → List Edit
shape g w = shape_edits g w

abbrev pub cuts : Grid ViewCol → Grid ViewCol → List Edit
cuts g w = map (λ d. remove_column (shown_id d)) (gone g w)

abbrev pub out : Grid ViewCol → Grid ViewCol → List ℕ
out g w = without w.rows g.rows

abbrev pub come : Grid ViewCol → Grid ViewCol → List ℕ
come g w = without g.rows w.rows

abbrev pub come_columns : Grid ViewCol → Grid ViewCol → List CellColumn
come_columns g w = whole w (come g w)

abbrev pub columns_done : Grid ViewCol → Grid ViewCol → Grid ViewCol
columns_done g w = after (map modify_column (changed g w)) (after (map add_column (new g w)) (after (cuts g w) g))

abbrev pub shaped : Grid ViewCol → Grid ViewCol → Grid ViewCol
shaped g w = after (if_any (come g w) (add (come g w) (come_columns g w))) (after (if_any (out g w) (remove (out g w))) (columns_done g w))

pub after_shape : (g w : Grid ViewCol) → after (shape g w) g ≡ shaped g w
after_shape g w =
    after-append (cuts g w ++ map add_column (new g w) ++ map modify_column (changed g w) ++ if_any (out g w) (remove (out g w))) (if_any (come g w) (add (come g w) (come_columns g w))) g
    ∙ ap (after (if_any (come g w) (add (come g w) (come_columns g w)))) (
    after-append (cuts g w ++ map add_column (new g w) ++ map modify_column (changed g w)) (if_any (out g w) (remove (out g w))) g
    ∙ ap (after (if_any (out g w) (remove (out g w)))) (
    after-append (cuts g w ++ map add_column (new g w)) (map modify_column (changed g w)) g
    ∙ ap (after (map modify_column (changed g w))) (after-append (cuts g w) (map add_column (new g w)) g)))

pub find_done : (g w : Grid ViewCol) → IsShown g → IsShown w → (c : List ℕ) → find_id shown_id c (columns_done g w).columns ≡ find_id shown_id c w.columns
find_done g w s t c =
    find-modified (changed g w) (after (map add_column (new g w)) (after (cuts g w) g)) c (IsByIds-filter shown_id (differs g.columns) w.columns t.by_ids)
    ∙ ap (or_else (find_id shown_id c (changed g w))) (find-added (new g w) (after (cuts g w) g) c (IsByIds-filter shown_id (λ d. not (has_id shown_id g.columns (shown_id d))) w.columns t.by_ids)
    ∙ ap (or_else (find_id shown_id c (new g w))) (find-removed (gone g w) g c))
    ∙ ap (λ o. or_else o (or_else (find_id shown_id c (new g w)) (cond (has_id shown_id (gone g w) c) None (find_id shown_id c g.columns)))) (find-filter shown_id (differs g.columns) c w.columns t.by_ids)
    ∙ ap (λ o. or_else (keep (differs g.columns) (find_id shown_id c w.columns)) (or_else o (cond (has_id shown_id (gone g w) c) None (find_id shown_id c g.columns)))) (find-filter shown_id (λ d. not (has_id shown_id g.columns (shown_id d))) c w.columns t.by_ids)
    ∙ ap (λ b. or_else (keep (differs g.columns) (find_id shown_id c w.columns)) (or_else (keep (λ d. not (has_id shown_id g.columns (shown_id d))) (find_id shown_id c w.columns)) (cond b None (find_id shown_id c g.columns))))
    (has_id-find shown_id c (gone g w) ∙ ap is_some (find-filter shown_id (λ d. not (has_id shown_id w.columns (shown_id d))) c g.columns s.by_ids))
    ∙ choice g w c (find_id shown_id c g.columns) (find_id shown_id c w.columns) refl refl

pub IsShown-done : (g w : Grid ViewCol) → IsShown g → IsShown (columns_done g w)
IsShown-done g w s = IsShown-after (map modify_column (changed g w)) (after (map add_column (new g w)) (after (cuts g w) g)) (IsShown-after (map add_column (new g w)) (after (cuts g w) g) (IsShown-after (cuts g w) g s))

pub columns-shaped : (g w : Grid ViewCol) → IsShown g → IsShown w → (shaped g w).columns ≡ w.columns
columns-shaped g w s t =
    columns-in (come g w) (come_columns g w) (after (if_any (out g w) (remove (out g w))) (columns_done g w))
    ∙ columns-out (out g w) (columns_done g w)
    ∙ same_by_ids shown_id (columns_done g w).columns w.columns (IsShown-done g w s).by_ids t.by_ids (find_done g w s t)

pub rows-shaped : (g w : Grid ViewCol) → IsShown g → IsShown w → (shaped g w).rows ≡ w.rows
rows-shaped g w s t =
    rows-in (come g w) (come_columns g w) (after (if_any (out g w) (remove (out g w))) (columns_done g w))
    ∙ ap (insert_rows (come g w)) (rows-out (out g w) (columns_done g w)
    ∙ ap (without (out g w)) (rows-modified (changed g w) (after (map add_column (new g w)) (after (cuts g w) g)) ∙ rows-added (new g w) (after (cuts g w) g) ∙ rows-removed (gone g w) g))
    ∙ insert_rows-without g.rows w.rows s.is_grid.ascending t.is_grid.ascending

abbrev pub writes : Grid ViewCol → Grid ViewCol → List ViewCol → List Edit
writes h w ds = cell_edits h w ds

abbrev pub rows_for : Grid ViewCol → Grid ViewCol → ViewCol → List ℕ
rows_for h w d = differing h w d

-- one column's update, which may be of no row
abbrev pub write_one : Grid ViewCol → Grid ViewCol → ViewCol → List Edit
write_one h w d = if_any (rows_for h w d) (update (rows_for h w d) (column_of shown_id w (rows_for h w d) d.id ∷ []))

pub columns-write : (rs : List ℕ) (ks : List CellColumn) (g : Grid ViewCol) → (after (if_any rs (update rs ks)) g).columns ≡ g.columns
columns-write [] ks g = refl
columns-write (r ∷ rs) ks g = refl

pub rows-write : (rs : List ℕ) (ks : List CellColumn) (g : Grid ViewCol) → (after (if_any rs (update rs ks)) g).rows ≡ g.rows
rows-write [] ks g = refl
rows-write (r ∷ rs) ks g = refl

columns-writes : (h w : Grid ViewCol) (ds : List ViewCol) (g : Grid ViewCol) → (after (writes h w ds) g).columns ≡ g.columns
columns-writes h w [] g = refl
columns-writes h w (d ∷ ds) g =
    ap (λ x. x.columns) (after-append (write_one h w d) (writes h w ds) g)
    ∙ columns-writes h w ds (after (write_one h w d) g)
    ∙ columns-write (rows_for h w d) (column_of shown_id w (rows_for h w d) d.id ∷ []) g

rows-writes : (h w : Grid ViewCol) (ds : List ViewCol) (g : Grid ViewCol) → (after (writes h w ds) g).rows ≡ g.rows
rows-writes h w [] g = refl
rows-writes h w (d ∷ ds) g =
    ap (λ x. x.rows) (after-append (write_one h w d) (writes h w ds) g)
    ∙ rows-writes h w ds (after (write_one h w d) g)
    ∙ rows-write (rows_for h w d) (column_of shown_id w (rows_for h w d) d.id ∷ []) g

-- a cell after one column's update
cell-write : (rs : List ℕ) (w : Grid ViewCol) (d : ViewCol) (g : Grid ViewCol) (e : ViewCol) (r : ℕ) → find_id shown_id (shown_id e) g.columns ≡ Some e → has g.rows r ≡ true
    → at (after (if_any rs (update rs (column_of shown_id w rs d.id ∷ []))) g) (shown_id e) r ≡ cond (has rs r && bytes_eq (shown_id d) (shown_id e)) (at w (shown_id e) r) (at g (shown_id e) r)
cell-write [] w d g e r found here = refl
cell-write (q ∷ qs) w d g e r found here =
    let rs : List ℕ = q ∷ qs in
    let ks : List CellColumn = column_of shown_id w rs d.id ∷ [] in
    cell-grid_of shown_id g.columns g.rows (λ d r. unwrap_or (given rs ks (shown_id d) r) (at g (shown_id d) r)) e r found here
    ∙ elim (has rs r) as (λ b. has rs r ≡ b → unwrap_or (given rs ks (shown_id e) r) (at g (shown_id e) r) ≡ cond (b && bytes_eq (shown_id d) (shown_id e)) (at w (shown_id e) r) (at g (shown_id e) r)) [
      | true ↦ λ there. ap (λ o. unwrap_or o (at g (shown_id e) r)) (given_own shown_id w rs shown_id (d ∷ []) (shown_id e) r there)
          ∙ elim (bytes_eq (shown_id d) (shown_id e)) as (λ b. unwrap_or (cond (b || false) (Some (at w (shown_id e) r)) None) (at g (shown_id e) r) ≡ cond b (at w (shown_id e) r) (at g (shown_id e) r)) [ true ↦ refl | false ↦ refl ]
      | false ↦ λ out. ap (λ o. unwrap_or o (at g (shown_id e) r)) (given_absent rs ks (shown_id e) r out)
    ] refl

abbrev apart_at : Grid ViewCol → Grid ViewCol → List ℕ → ℕ → Bool
apart_at h w c r = not (same_value (at h c r) (at w c r))

-- a cell after the updates of several columns
cell-writes : (h w : Grid ViewCol) (ds : List ViewCol) (g : Grid ViewCol) (e : ViewCol) (r : ℕ) → find_id shown_id (shown_id e) g.columns ≡ Some e → has g.rows r ≡ true → has w.rows r ≡ true
    → at (after (writes h w ds) g) (shown_id e) r ≡ cond (has_id shown_id ds (shown_id e) && apart_at h w (shown_id e) r) (at w (shown_id e) r) (at g (shown_id e) r)
cell-writes h w [] g e r found here there = refl
cell-writes h w (d ∷ ds) g e r found here there =
    let rs : List ℕ = rows_for h w d in
    let ks : List CellColumn = column_of shown_id w rs d.id ∷ [] in
    let g1 : Grid ViewCol = after (if_any rs (update rs ks)) g in
    ap (λ x. at x (shown_id e) r) (after-append (write_one h w d) (writes h w ds) g)
    ∙ cell-writes h w ds g1 e r (ap (find_id shown_id (shown_id e)) (columns-write rs ks g) ∙ found) (ap (λ q. has q r) (rows-write rs ks g) ∙ here) there
    ∙ ap (λ v. cond (has_id shown_id ds (shown_id e) && apart_at h w (shown_id e) r) (at w (shown_id e) r) v)
    (cell-write rs w d g e r found here
    ∙ ap (λ b. cond (b && bytes_eq (shown_id d) (shown_id e)) (at w (shown_id e) r) (at g (shown_id e) r)) (has-filter (λ r. apart_at h w (shown_id d) r) w.rows r ∙ ap (λ b. apart_at h w (shown_id d) r && b) there))
    ∙ pick (has_id shown_id ds (shown_id e)) (bytes_eq (shown_id d) (shown_id e)) (apart_at h w (shown_id e) r) (apart_at h w (shown_id d) r) (at w (shown_id e) r) (at g (shown_id e) r)
    (λ is. ap (λ c. apart_at h w c r) ((bytes_eq-Decides (shown_id d) (shown_id e)).0 is))
  where
    pick : (a b n m : Bool) (x y : CellValue) → (b ≡ true → m ≡ n) → cond (a && n) x (cond ((m && true) && b) x y) ≡ cond ((b || a) && n) x y
    pick true true true true x y f = refl
    pick true true true false x y f = refl
    pick false true true true x y f = refl
    pick false true true false x y f = absurd (false≢true (f refl))
    pick true true false true x y f = absurd (true≢false (f refl))
    pick false true false true x y f = absurd (true≢false (f refl))
    pick true true false false x y f = refl
    pick false true false false x y f = refl
    pick true false true true x y f = refl
    pick true false true false x y f = refl
    pick true false false true x y f = refl
    pick true false false false x y f = refl
    pick false false true true x y f = refl
    pick false false true false x y f = refl
    pick false false false true x y f = refl
    pick false false false false x y f = refl

-- the edits lead from g to w
pub after-edits : (g w : Grid ViewCol) → IsShown g → IsShown w → after (edits g w) g ≡ w
after-edits g w s t =
    let h : Grid ViewCol = after (shape g w) g in
    let columns : h.columns ≡ w.columns = ap (λ x. x.columns) (after_shape g w) ∙ columns-shaped g w s t in
    let rows : h.rows ≡ w.rows = ap (λ x. x.rows) (after_shape g w) ∙ rows-shaped g w s t in
    let grid : IsShown h = IsShown-after (shape g w) g s in
    after-append (shape g w) (writes h w w.columns) g
    ∙ same_grid shown_id w t.is_grid (after (writes h w w.columns) h) (IsShown-after (writes h w w.columns) h grid).is_grid
    (columns-writes h w w.columns h ∙ columns)
    (rows-writes h w w.columns h ∙ rows)
    (λ d r found here.
    cell-writes h w w.columns h d r (ap (find_id shown_id (shown_id d)) columns ∙ found) (ap (λ q. has q r) rows ∙ here) here
    ∙ ap (λ b. cond (b && apart_at h w (shown_id d) r) (at w (shown_id d) r) (at h (shown_id d) r)) (has_id-find shown_id (shown_id d) w.columns ∙ ap is_some found)
    ∙ elim (same_value (at h (shown_id d) r) (at w (shown_id d) r)) as (λ b. same_value (at h (shown_id d) r) (at w (shown_id d) r) ≡ b → cond (not b) (at w (shown_id d) r) (at h (shown_id d) r) ≡ at w (shown_id d) r) [
      | true ↦ λ is. (same_value-Decides (at h (shown_id d) r) (at w (shown_id d) r)).0 is
      | false ↦ λ _. refl
    ] refl)

-- each column of a table is there, and is the same
pub none_gone : (g : Grid ViewCol) → IsShown g → AllByRecursion (λ d. not (has_id shown_id g.columns d.id) ≡ false) g.columns
none_gone g s = each_found shown_id (λ d. not (has_id shown_id g.columns d.id) ≡ false) g.columns s.is_grid.distinct (λ d found. ap not (has_found shown_id d.id g.columns d found))

pub none_other : (g : Grid ViewCol) → IsShown g → AllByRecursion (λ d. differs g.columns d ≡ false) g.columns
none_other g s = each_found shown_id (λ d. differs g.columns d ≡ false) g.columns s.is_grid.distinct (λ d found.
    ap (λ o. elim o as (λ _. Bool) [ None ↦ false | Some e ↦ not (same_column e d) ]) found ∙ ap not ((same_column-Decides d d).1 refl))

no_row : (rows : List ℕ) → without rows rows ≡ []
no_row rows = filter_none (λ r. not (has rows r)) rows (each_has (λ r. not (has rows r) ≡ false) rows (λ r here. ap not here))

pub no_cells : (g : Grid ViewCol) (ds : List ViewCol) → cell_edits g g ds ≡ []
no_cells g [] = refl
no_cells g (d ∷ ds) =
    ap (λ rows. if_any rows (update rows (column_of shown_id g rows d.id ∷ [])) ++ cell_edits g g ds)
    (filter_none (λ r. not (same_value (at g d.id r) (at g d.id r))) g.rows (each_has (λ r. not (same_value (at g d.id r) (at g d.id r)) ≡ false) g.rows (λ r here. ap not ((same_value-Decides (at g d.id r) (at g d.id r)).1 refl))))
    ∙ no_cells g ds

no_shape : (g : Grid ViewCol) → IsShown g → shape_edits g g ≡ []
no_shape g s =
    ap (λ cs. map (λ (d : ViewCol). remove_column d.id) cs ++ map add_column cs ++ map modify_column (filter (differs g.columns) g.columns)
    ++ if_any (without g.rows g.rows) (remove (without g.rows g.rows)) ++ if_any (without g.rows g.rows) (add (without g.rows g.rows) (whole g (without g.rows g.rows))))
    (filter_none (λ d. not (has_id shown_id g.columns d.id)) g.columns (none_gone g s))
    ∙ ap (λ cs. map modify_column cs ++ if_any (without g.rows g.rows) (remove (without g.rows g.rows)) ++ if_any (without g.rows g.rows) (add (without g.rows g.rows) (whole g (without g.rows g.rows))))
    (filter_none (differs g.columns) g.columns (none_other g s))
    ∙ ap (λ rows. if_any rows (remove rows) ++ if_any rows (add rows (whole g rows))) (no_row g.rows)

-- nothing leads from a table to itself
pub edits_again : (g : Grid ViewCol) → IsShown g → edits g g ≡ []
edits_again g s = ap (λ es. es ++ cell_edits (all_edited es g) g g.columns) (no_shape g s) ∙ no_cells g g.columns
