-- Cells of the rows that pass a test, before and after edits.
use Rattle.std.proofs.Common.{ℕ, Bool, true, false, cond, not, ◌||◌, ◌&&◌, List, [], ◌∷◌, map, filter, length, ◌≡◌, refl, sym, ap, ◌∙◌, Some, unwrap_or, eqb, arith}
use Rattle.std.proofs.lemmas.Bool.{true≢false, eqb-true}
use Rattle.std.specs.List.{AllByRecursion}
use Rattle.std.specs.Str.{bytes_eq}
use Rattle.cell_types.specs.declared.value.CellValue.{CellValue}
use Rattle.cell_types.specs.declared.value.CellValue.TheVariants.{Null}
use Rattle.doc_model.specs.declared.column.CellColumn.{CellColumn}
use Rattle.doc_model.specs.declared.view.ViewCol.{ViewCol}
use Rattle.doc_model.specs.declared.view.ViewTable.{ViewTable}
use Rattle.doc_model.specs.ByIds.{find_id, has_id, put_by_id, without_id}
use Rattle.doc_model.specs.Grid.{Grid, beside, grid_of}
use Rattle.doc_model.specs.Records.{given}
use Rattle.doc_model.specs.Rows.{has, insert_rows, without}
use Rattle.doc_model.specs.ViewEdits.{shown_id, shown_start, IsShown, Edit, remove_column, add_column, modify_column, remove, add, update, edited, if_any, differs, shape_edits}
use Rattle.doc_model.proofs.Choices.{cond_false, false_from, filter_all, filter_none}
use Rattle.doc_model.proofs.GridLaws.{beside_has, cell-grid_of}
use Rattle.doc_model.proofs.RowsLaws.{has-insert_rows, has-filter}
use Rattle.doc_model.proofs.ViewEditsLaws.{after, at, rows-out, columns-out, new, changed, out, come, come_columns, columns_done, after_shape, none_gone, none_other}
use Rattle.plain_view.specs.PartsOfViews.{passing_cells, passing}
use Rattle.plain_view.proofs.PartLemmas.{map_every}

-- the columns with those rows that pass
abbrev pub passed : (ℕ → Bool) → Grid ViewCol → Grid ViewCol
passed test g = record {
  columns = g.columns;
  rows = filter test g.rows;
  cells = passing_cells test g.rows g.cells;
}

-- ---- cells of rows that pass

beside_none : {K V : Type 0} (p : K → Bool) (ks : List K) (d : V) → beside p ks [] d ≡ d
beside_none p [] d = refl
beside_none p (k ∷ ks) d = refl

row_passed : (test : ℕ → Bool) (rows : List ℕ) (cells : List (List CellValue)) (r : ℕ) → test r ≡ true
    → beside (λ q. eqb q r) (filter test rows) (passing_cells test rows cells) [] ≡ beside (λ q. eqb q r) rows cells []
row_passed test [] cells r t = refl
row_passed test (q ∷ rows) [] r t = beside_none (λ q. eqb q r) (filter test (q ∷ rows)) []
row_passed test (q ∷ rows) (c ∷ cells) r t =
    elim (test q) as (λ b. test q ≡ b → beside (λ p. eqb p r) (cond b (q ∷ filter test rows) (filter test rows)) (cond b (c ∷ passing_cells test rows cells) (passing_cells test rows cells)) []
    ≡ cond (eqb q r) c (beside (λ p. eqb p r) rows cells [])) [
      | true ↦ λ _. ap (λ row. cond (eqb q r) c row) (row_passed test rows cells r t)
      | false ↦ λ no. row_passed test rows cells r t
          ∙ sym (cond_false (eqb q r) c (beside (λ p. eqb p r) rows cells []) (false_from (eqb q r) (λ is. true≢false (sym t ∙ sym (ap test (eqb-true q r is)) ∙ no))))
    ] refl

pub cell_passed : (test : ℕ → Bool) (g : Grid ViewCol) (c : List ℕ) (r : ℕ) → test r ≡ true → at (passed test g) c r ≡ at g c r
cell_passed test g c r t = ap (λ row. beside (λ d. bytes_eq (shown_id d) c) g.columns row Null) (row_passed test g.rows g.cells r t)

-- where all rows pass nothing is left out
cells_all : (test : ℕ → Bool) (rows : List ℕ) (cells : List (List CellValue)) → length cells ≡ length rows → ((r : ℕ) → test r ≡ true) → passing_cells test rows cells ≡ cells
cells_all test [] [] e all = refl
cells_all test [] (c ∷ cells) e all = absurd (omega arith)
cells_all test (r ∷ rows) [] e all = refl
cells_all test (r ∷ rows) (c ∷ cells) e all =
    ap (λ b. cond b (c ∷ passing_cells test rows cells) (passing_cells test rows cells)) (all r)
    ∙ ap (λ cs. c ∷ cs) (cells_all test rows cells (omega arith) all)

every : (test : ℕ → Bool) → ((r : ℕ) → test r ≡ true) → (rows : List ℕ) → AllByRecursion (λ r. test r ≡ true) rows
every test all [] = tt
every test all (r ∷ rows) = (all r, every test all rows)

pub passing_all : (test : ℕ → Bool) (t : ViewTable) → length t.cells ≡ length t.rows → ((r : ℕ) → test r ≡ true) → passing test t ≡ t
passing_all test t e all =
    ap (λ rows. let x : ViewTable = record { id = t.id; columns = t.columns; rows = rows; cells = passing_cells test t.rows t.cells } in x) (filter_all test t.rows (every test all t.rows))
    ∙ ap (λ cells. let x : ViewTable = record { id = t.id; columns = t.columns; rows = t.rows; cells = cells } in x) (cells_all test t.rows t.cells e all)

-- ---- edits of two grids that are alike in the rows that pass

pub record IsAlike (test : ℕ → Bool) (g h : Grid ViewCol) : Type 0 where
  pub columns : g.columns ≡ h.columns
  pub rows : (r : ℕ) → test r ≡ true → has g.rows r ≡ has h.rows r
  pub cells : (c : List ℕ) (r : ℕ) → test r ≡ true → at g c r ≡ at h c r

beside_absent : {V : Type 0} (f : ℕ → V) (rs : List ℕ) (d : V) (r : ℕ) → has rs r ≡ false → beside (λ q. eqb q r) rs (map f rs) d ≡ d
beside_absent f [] d r e = refl
beside_absent f (q ∷ rs) d r e =
    elim (eqb q r) as (λ b. (b || has rs r) ≡ false → cond b (f q) (beside (λ p. eqb p r) rs (map f rs) d) ≡ d) [
      | true ↦ λ e. absurd (true≢false e)
      | false ↦ λ e. beside_absent f rs d r e
    ] e

beside_rows : {V : Type 0} (f : ℕ → V) (rs : List ℕ) (d : V) (r : ℕ) → beside (λ q. eqb q r) rs (map f rs) d ≡ cond (has rs r) (f r) d
beside_rows f rs d r =
    elim (has rs r) as (λ b. has rs r ≡ b → beside (λ q. eqb q r) rs (map f rs) d ≡ cond b (f r) d) [
      | true ↦ λ here. beside_has f rs d r here
      | false ↦ λ out. beside_absent f rs d r out
    ] refl

cell_filled : (cs : List ViewCol) (rs qs : List ℕ) (f h : ViewCol → ℕ → CellValue) (c : List ℕ) (r : ℕ) → has rs r ≡ has qs r → ((d : ViewCol) → f d r ≡ h d r)
    → at (grid_of cs rs f) c r ≡ at (grid_of cs qs h) c r
cell_filled cs rs qs f h c r e same =
    ap (λ row. beside (λ d. bytes_eq (shown_id d) c) cs row Null) (
    beside_rows (λ r. map (λ d. f d r) cs) rs [] r
    ∙ ap (λ b. cond b (map (λ d. f d r) cs) []) e
    ∙ ap (λ row. cond (has qs r) row []) (map_every (λ d. f d r) (λ d. h d r) same cs)
    ∙ sym (beside_rows (λ r. map (λ d. h d r) cs) qs [] r))

filled_alike : (test : ℕ → Bool) (cs ds : List ViewCol) (rs qs : List ℕ) (f h : ViewCol → ℕ → CellValue) → cs ≡ ds → ((r : ℕ) → test r ≡ true → has rs r ≡ has qs r)
    → ((d : ViewCol) (r : ℕ) → test r ≡ true → f d r ≡ h d r) → IsAlike test (grid_of cs rs f) (grid_of ds qs h)
filled_alike test cs ds rs qs f h e rows same = record {
  columns = e;
  rows = rows;
  cells = λ c r t. cell_filled cs rs qs f h c r (rows r t) (λ d. same d r t) ∙ ap (λ cs. at (grid_of cs qs h) c r) e;
}

alike_edited : (test : ℕ → Bool) (e : Edit) (g h : Grid ViewCol) → IsAlike test g h → IsAlike test (edited e g) (edited e h)
alike_edited test (remove_column c) g h a =
    filled_alike test (without_id shown_id c g.columns) (without_id shown_id c h.columns) g.rows h.rows (λ d r. at g d.id r) (λ d r. at h d.id r)
    (ap (without_id shown_id c) a.columns) a.rows (λ d r t. a.cells d.id r t)
alike_edited test (add_column n) g h a =
    filled_alike test (put_by_id shown_id n g.columns) (put_by_id shown_id n h.columns) g.rows h.rows
    (λ d r. cond (bytes_eq d.id n.id) (shown_start n) (at g d.id r)) (λ d r. cond (bytes_eq d.id n.id) (shown_start n) (at h d.id r))
    (ap (put_by_id shown_id n) a.columns) a.rows (λ d r t. ap (λ v. cond (bytes_eq d.id n.id) (shown_start n) v) (a.cells d.id r t))
alike_edited test (modify_column n) g h a =
    filled_alike test (put_by_id shown_id n g.columns) (put_by_id shown_id n h.columns) g.rows h.rows (λ d r. at g d.id r) (λ d r. at h d.id r)
    (ap (put_by_id shown_id n) a.columns) a.rows (λ d r t. a.cells d.id r t)
alike_edited test (remove rows) g h a =
    filled_alike test g.columns h.columns (without rows g.rows) (without rows h.rows) (λ d r. at g (shown_id d) r) (λ d r. at h (shown_id d) r) a.columns
    (λ r t. has-filter (λ r. not (has rows r)) g.rows r ∙ ap (λ b. not (has rows r) && b) (a.rows r t) ∙ sym (has-filter (λ r. not (has rows r)) h.rows r))
    (λ d r t. a.cells (shown_id d) r t)
alike_edited test (add rows ks) g h a =
    filled_alike test g.columns h.columns (insert_rows rows g.rows) (insert_rows rows h.rows)
    (λ d r. cond (has rows r) (unwrap_or (given rows ks (shown_id d) r) (shown_start d)) (at g (shown_id d) r))
    (λ d r. cond (has rows r) (unwrap_or (given rows ks (shown_id d) r) (shown_start d)) (at h (shown_id d) r)) a.columns
    (λ r t. has-insert_rows rows g.rows r ∙ ap (λ b. has rows r || b) (a.rows r t) ∙ sym (has-insert_rows rows h.rows r))
    (λ d r t. ap (λ v. cond (has rows r) (unwrap_or (given rows ks (shown_id d) r) (shown_start d)) v) (a.cells (shown_id d) r t))
alike_edited test (update rows ks) g h a =
    filled_alike test g.columns h.columns g.rows h.rows
    (λ d r. unwrap_or (given rows ks (shown_id d) r) (at g (shown_id d) r)) (λ d r. unwrap_or (given rows ks (shown_id d) r) (at h (shown_id d) r)) a.columns a.rows
    (λ d r t. ap (λ v. unwrap_or (given rows ks (shown_id d) r) v) (a.cells (shown_id d) r t))

pub alike_after : (test : ℕ → Bool) (es : List Edit) (g h : Grid ViewCol) → IsAlike test g h → IsAlike test (after es g) (after es h)
alike_after test [] g h a = a
alike_after test (e ∷ es) g h a = alike_after test es (edited e g) (edited e h) (alike_edited test e g h a)

pub alike_passed : (test : ℕ → Bool) (g : Grid ViewCol) → IsAlike test (passed test g) g
alike_passed test g = record {
  columns = refl;
  rows = λ r t. has-filter test g.rows r ∙ ap (λ b. b && has g.rows r) t;
  cells = λ c r t. cell_passed test g c r t;
}

-- ---- cells that edits of the shape leave, under the same columns

columns_kept : (g w : Grid ViewCol) → IsShown g → g.columns ≡ w.columns → columns_done g w ≡ g
columns_kept g w s e =
    ap (λ ds. after (map modify_column (changed g w)) (after (map add_column (new g w)) (after (map (λ d. remove_column (shown_id d)) ds) g)))
    (ap (λ cs. filter (λ d. not (has_id shown_id cs (shown_id d))) g.columns) (sym e) ∙ filter_none (λ d. not (has_id shown_id g.columns (shown_id d))) g.columns (none_gone g s))
    ∙ ap (λ ds. after (map modify_column (changed g w)) (after (map add_column ds) g))
    (ap (λ cs. filter (λ d. not (has_id shown_id g.columns (shown_id d))) cs) (sym e) ∙ filter_none (λ d. not (has_id shown_id g.columns (shown_id d))) g.columns (none_gone g s))
    ∙ ap (λ ds. after (map modify_column ds) g)
    (ap (λ cs. filter (differs g.columns) cs) (sym e) ∙ filter_none (differs g.columns) g.columns (none_other g s))

kept_out : (qs : List ℕ) (g : Grid ViewCol) (d : ViewCol) (r : ℕ) → find_id shown_id (shown_id d) g.columns ≡ Some d → has g.rows r ≡ true → has qs r ≡ false
    → at (after (if_any qs (remove qs)) g) (shown_id d) r ≡ at g (shown_id d) r
kept_out [] g d r found here absent = refl
kept_out (q ∷ qs) g d r found here absent =
    cell-grid_of shown_id g.columns (without (q ∷ qs) g.rows) (λ d r. at g (shown_id d) r) d r found
    (has-filter (λ r. not (has (q ∷ qs) r)) g.rows r ∙ ap (λ b. not b && has g.rows r) absent ∙ here)

kept_in : (qs : List ℕ) (ks : List CellColumn) (g : Grid ViewCol) (d : ViewCol) (r : ℕ) → find_id shown_id (shown_id d) g.columns ≡ Some d → has g.rows r ≡ true → has qs r ≡ false
    → at (after (if_any qs (add qs ks)) g) (shown_id d) r ≡ at g (shown_id d) r
kept_in [] ks g d r found here absent = refl
kept_in (q ∷ qs) ks g d r found here absent =
    cell-grid_of shown_id g.columns (insert_rows (q ∷ qs) g.rows) (λ d r. cond (has (q ∷ qs) r) (unwrap_or (given (q ∷ qs) ks (shown_id d) r) (shown_start d)) (at g (shown_id d) r)) d r found
    (has-insert_rows (q ∷ qs) g.rows r ∙ ap (λ b. b || has g.rows r) absent ∙ here)
    ∙ cond_false (has (q ∷ qs) r) (unwrap_or (given (q ∷ qs) ks (shown_id d) r) (shown_start d)) (at g (shown_id d) r) absent

pub cell_kept : (g w : Grid ViewCol) → IsShown g → g.columns ≡ w.columns → (d : ViewCol) (r : ℕ) → find_id shown_id (shown_id d) g.columns ≡ Some d → has g.rows r ≡ true → has w.rows r ≡ true
    → at (after (shape_edits g w) g) (shown_id d) r ≡ at g (shown_id d) r
cell_kept g w s e d r found here there =
    let g1 : Grid ViewCol = after (if_any (out g w) (remove (out g w))) g in
    let stays : has (out g w) r ≡ false = has-filter (λ r. not (has w.rows r)) g.rows r ∙ ap (λ b. not b && has g.rows r) there in
    let old : has (come g w) r ≡ false = has-filter (λ r. not (has g.rows r)) w.rows r ∙ ap (λ b. not b && has w.rows r) here in
    ap (λ h. at h (shown_id d) r) (after_shape g w)
    ∙ ap (λ h. at (after (if_any (come g w) (add (come g w) (come_columns g w))) (after (if_any (out g w) (remove (out g w))) h)) (shown_id d) r) (columns_kept g w s e)
    ∙ kept_in (come g w) (come_columns g w) g1 d r (ap (find_id shown_id (shown_id d)) (columns-out (out g w) g) ∙ found)
    (ap (λ rows. has rows r) (rows-out (out g w) g) ∙ has-filter (λ r. not (has (out g w) r)) g.rows r ∙ ap (λ b. not b && has g.rows r) stays ∙ here) old
    ∙ kept_out (out g w) g d r found here stays
