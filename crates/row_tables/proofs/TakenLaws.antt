-- Rows and their cells taken out of their places, and put in again.
use Rattle.std.proofs.Common.{ℕ, zero, suc, Bool, true, false, cond, not, ◌||◌, ◌&&◌, List, [], ◌∷◌, ◌+◌, ◌++◌, map, take, drop, get_or, insert, length, ◌≡◌, ◌<◌, ◌≤◌, refl, sym, ap, subst, ◌∙◌, eqb, ltb, arith}
use Rattle.std.proofs.lemmas.Bool.{false≢true, eqb-true, ne_eqb, ltb-true, ltb-false}
use Rattle.std.proofs.lemmas.List.{map-append, take-map, drop-map}
use Rattle.std.specs.List.{AllByRecursion, remove}
use Rattle.cell_types.specs.declared.value.CellValue.{CellValue}
use Rattle.doc_model.specs.declared.column.ColDef.{ColDef}
use Rattle.doc_model.specs.Rows.{has, IsAscending, without}
use Rattle.doc_model.specs.Column.{column_id}
use Rattle.doc_model.specs.Document.{Table, on_grid}
use Rattle.doc_model.specs.Grid.{Grid, IsGrid, cell}
use Rattle.doc_model.specs.Records.{remove_rows}
use Rattle.doc_model.proofs.Choices.{cond_true, cond_false, each_weaker, filter_all}
use Rattle.doc_model.proofs.GridLaws.{grid_of-cell}
use Rattle.doc_model.proofs.RowsLaws.{has-filter, IsAscending-filter, same_ascending, number_itself}
use Rattle.row_tables.specs.InPlace.{rows_left, beside_left, rows_again, cells_again}
use Rattle.doc_model.specs.Indexes.{row_index}
use Rattle.row_tables.specs.declared.removed.TakenRow.{TakenRow}
use Rattle.row_tables.proofs.AddedLaws.{with_rows}
use Rattle.row_tables.proofs.WrittenLaws.{index_found}
use Rattle.row_tables.proofs.Walks.{drop_read}

pub map-remove : {X Y : Type 0} (f : X → Y) (xs : List X) (i : ℕ) → map f (remove xs i) ≡ remove (map f xs) i
map-remove f xs i =
    map-append f (take i xs) (drop (suc i) xs)
    ∙ ap (λ ys. ys ++ map f (drop (suc i) xs)) (sym (take-map f i xs))
    ∙ ap (λ ys. take i (map f xs) ++ ys) (sym (drop-map f (suc i) xs))

-- a list with one thing taken out, and put in again
pub insert-remove : {X : Type 0} (xs : List X) (i : ℕ) (x : X) → i < length xs → x ≡ get_or xs i x → insert (remove xs i) i x ≡ xs
insert-remove [] i x l e = absurd (omega arith)
insert-remove (y ∷ xs) zero x l e = ap (λ z. z ∷ xs) e
insert-remove (y ∷ xs) (suc i) x l e = ap (λ ys. y ∷ ys) (insert-remove xs i x (omega arith) e)

-- ---- one row

-- a row that is there, taken out of its place
remove_row : (q : ℕ) (rows : List ℕ) → IsAscending rows → has rows q ≡ true → remove rows (row_index q rows) ≡ without (q ∷ []) rows
remove_row q [] a e = absurd (false≢true e)
remove_row q (r ∷ rows) a e =
    let next : suc (row_index q rows) ≡ row_index q rows + 1 = omega arith in
    let rest : List ℕ = without (q ∷ []) rows in
    elim (ltb r q) as (λ b. ltb r q ≡ b → remove (r ∷ rows) (cond b (row_index q rows + 1) 0) ≡ cond (not (eqb q r || false)) (r ∷ rest) rest) [
      | true ↦ λ below.
          let lt : r < q = ltb-true r q below in
          ap (remove (r ∷ rows)) (sym next)
          ∙ ap (λ xs. r ∷ xs) (remove_row q rows a.1 (ap (λ b. b || has rows q) (sym (ne_eqb r q (λ same. absurd (omega arith)))) ∙ e))
          ∙ sym (cond_true (not (eqb q r || false)) (r ∷ rest) rest (ap (λ b. not (b || false)) (ne_eqb q r (λ same. absurd (omega arith)))))
      | false ↦ λ above.
          let le : q ≤ r = ltb-false r q above in
          let found : (row_index q (r ∷ rows) < length (r ∷ rows)) × (get_or (r ∷ rows) (row_index q (r ∷ rows)) 0 ≡ q) = index_found q (r ∷ rows) a e in
          let same : r ≡ q = ap (λ n. get_or (r ∷ rows) n 0) (sym (cond_false (ltb r q) (row_index q rows + 1) 0 above)) ∙ found.1 in
          sym (cond_false (not (eqb q r || false)) (r ∷ rest) rest (ap (λ b. not (b || false)) (subst (λ n. eqb q n ≡ true) (sym same) (number_itself q)))
          ∙ filter_all (λ x. not (has (q ∷ []) x)) rows (each_weaker (λ x. r < x) (λ x. not (has (q ∷ []) x) ≡ true) (λ x lt. let h : r < x = lt in ap (λ b. not (b || false)) (ne_eqb q x (λ is. absurd (omega arith)))) rows a.0))
    ] refl

without_both : (q : ℕ) (gone rows : List ℕ) → IsAscending rows → without gone (without (q ∷ []) rows) ≡ without (q ∷ gone) rows
without_both q gone rows a =
    same_ascending (without gone (without (q ∷ []) rows)) (without (q ∷ gone) rows)
    (IsAscending-filter (λ r. not (has gone r)) (without (q ∷ []) rows) (IsAscending-filter (λ r. not (has (q ∷ []) r)) rows a)) (IsAscending-filter (λ r. not (has (q ∷ gone) r)) rows a) (λ x.
    has-filter (λ r. not (has gone r)) (without (q ∷ []) rows) x ∙ ap (λ b. not (has gone x) && b) (has-filter (λ r. not (has (q ∷ []) r)) rows x)
    ∙ apart (eqb q x) (has gone x) (has rows x)
    ∙ sym (has-filter (λ r. not (has (q ∷ gone) r)) rows x))
  where
    apart : (a b c : Bool) → (not b && (not (a || false) && c)) ≡ (not (a || b) && c)
    apart true true c = refl
    apart true false c = refl
    apart false true c = refl
    apart false false c = refl

without_absent : (q : ℕ) (gone rows : List ℕ) → IsAscending rows → has rows q ≡ false → without gone rows ≡ without (q ∷ gone) rows
without_absent q gone rows a absent =
    same_ascending (without gone rows) (without (q ∷ gone) rows) (IsAscending-filter (λ r. not (has gone r)) rows a) (IsAscending-filter (λ r. not (has (q ∷ gone) r)) rows a) (λ x.
    has-filter (λ r. not (has gone r)) rows x
    ∙ elim (eqb q x) as (λ b. eqb q x ≡ b → (not (has gone x) && has rows x) ≡ (not (b || has gone x) && has rows x)) [
      | true ↦ λ same.
          let none : has rows x ≡ false = subst (λ n. has rows n ≡ false) (eqb-true q x same) absent in
          ap (λ b. not (has gone x) && b) none ∙ no_more (has gone x)
      | false ↦ λ _. refl
    ] refl
    ∙ sym (has-filter (λ r. not (has (q ∷ gone) r)) rows x))
  where
    no_more : (b : Bool) → (not b && false) ≡ false
    no_more true = refl
    no_more false = refl

-- ---- all rows

IsAscending-left : (q : ℕ) (rows : List ℕ) → IsAscending rows → has rows q ≡ true → IsAscending (remove rows (row_index q rows))
IsAscending-left q rows a here = subst IsAscending (sym (remove_row q rows a here)) (IsAscending-filter (λ r. not (has (q ∷ []) r)) rows a)

pub left : (gone rows : List ℕ) → IsAscending rows → rows_left gone rows ≡ without gone rows
left [] rows a = sym (filter_all (λ r. not (has [] r)) rows (kept rows))
  where
    kept : (rows : List ℕ) → AllByRecursion (λ r. not (has [] r) ≡ true) rows
    kept [] = tt
    kept (r ∷ rows) = (refl, kept rows)
left (q ∷ gone) rows a =
    elim (has rows q) as (λ b. has rows q ≡ b → cond b (rows_left gone (remove rows (row_index q rows))) (rows_left gone rows) ≡ without (q ∷ gone) rows) [
      | true ↦ λ here. left gone (remove rows (row_index q rows)) (IsAscending-left q rows a here) ∙ ap (without gone) (remove_row q rows a here) ∙ without_both q gone rows a
      | false ↦ λ absent. left gone rows a ∙ without_absent q gone rows a absent
    ] refl

pub left_beside : {X : Type 0} (f : ℕ → X) (gone rows : List ℕ) → IsAscending rows → beside_left gone rows (map f rows) ≡ map f (rows_left gone rows)
left_beside f [] rows a = refl
left_beside f (q ∷ gone) rows a =
    elim (has rows q) as (λ b. has rows q ≡ b → cond b (beside_left gone (remove rows (row_index q rows)) (remove (map f rows) (row_index q rows))) (beside_left gone rows (map f rows)) ≡ map f (cond b (rows_left gone (remove rows (row_index q rows))) (rows_left gone rows))) [
      | true ↦ λ here.
          ap (beside_left gone (remove rows (row_index q rows))) (sym (map-remove f rows (row_index q rows)))
          ∙ left_beside f gone (remove rows (row_index q rows)) (IsAscending-left q rows a here)
      | false ↦ λ _. left_beside f gone rows a
    ] refl

-- the rows and cells of a table without rows
pub taken_table : (t : Table) (gone rows : List ℕ) (cells : List (List CellValue)) → IsGrid column_id t.grid → rows ≡ rows_left gone t.grid.rows → cells ≡ beside_left gone t.grid.rows t.grid.cells → with_rows t rows cells ≡ on_grid (remove_rows column_id gone) t
taken_table t gone rows cells grid er ec =
    let old : ℕ → List CellValue = λ r. map (λ (d : ColDef). cell column_id t.grid d.id r) t.grid.columns in
    ap (λ r. with_rows t r cells) (er ∙ left gone t.grid.rows grid.ascending)
    ∙ ap (with_rows t (without gone t.grid.rows)) (
    ec ∙ ap (beside_left gone t.grid.rows) (ap (λ (x : Grid ColDef). x.cells) (sym (grid_of-cell column_id t.grid grid)))
    ∙ left_beside old gone t.grid.rows grid.ascending ∙ ap (map old) (left gone t.grid.rows grid.ascending))

-- ---- steps of walks

pub rows_again-append : (ts : List TakenRow) (t : TakenRow) (rows : List ℕ) → rows_again (ts ++ t ∷ []) rows ≡ rows_again ts (insert rows t.index t.row)
rows_again-append [] t rows = refl
rows_again-append (u ∷ ts) t rows = ap (λ rs. insert rs u.index u.row) (rows_again-append ts t rows)

pub cells_again-append : (ts : List TakenRow) (t : TakenRow) (cells : List (List CellValue)) → cells_again (ts ++ t ∷ []) cells ≡ cells_again ts (insert cells t.index t.cells)
cells_again-append [] t cells = refl
cells_again-append (u ∷ ts) t cells = ap (λ cs. insert cs u.index u.cells) (cells_again-append ts t cells)

-- the state of a walk over rows that go
pub record IsTaking (gone before rows : List ℕ) (beside cells : List (List CellValue)) (i : ℕ) (ts : List TakenRow) : Type 0 where
  pub ascending : IsAscending rows
  pub rows_to_go : rows_left (drop i gone) rows ≡ rows_left gone before
  pub cells_to_go : beside_left (drop i gone) rows cells ≡ beside_left gone before beside
  pub rows_back : rows_again ts rows ≡ before
  pub cells_back : cells_again ts cells ≡ beside

module _ (gone before rows : List ℕ) (beside cells : List (List CellValue)) (i q : ℕ) (ts : List TakenRow) (h : IsTaking gone before rows beside cells i ts) (l : i < length gone) (is : q ≡ get_or gone i q) where
  read : drop i gone ≡ q ∷ drop (i + 1) gone
  read = drop_read gone i q l is

  stays : has rows q ≡ false → IsTaking gone before rows beside cells (i + 1) ts
  stays absent = record {
    ascending = h.ascending;
    rows_to_go = sym (cond_false (has rows q) (rows_left (drop (i + 1) gone) (remove rows (row_index q rows))) (rows_left (drop (i + 1) gone) rows) absent) ∙ ap (λ qs. rows_left qs rows) (sym read) ∙ h.rows_to_go;
    cells_to_go = sym (cond_false (has rows q) (beside_left (drop (i + 1) gone) (remove rows (row_index q rows)) (remove cells (row_index q rows))) (beside_left (drop (i + 1) gone) rows cells) absent) ∙ ap (λ qs. beside_left qs rows cells) (sym read) ∙ h.cells_to_go;
    rows_back = h.rows_back;
    cells_back = h.cells_back;
  }

  pub not_there : (left : List ℕ) (less : List (List CellValue)) (more : List TakenRow) → left ≡ rows → less ≡ cells → more ≡ ts → has rows q ≡ false → IsTaking gone before left beside less (i + 1) more
  not_there left less more el es em absent =
      subst (λ rs. IsTaking gone before rs beside less (i + 1) more) (sym el)
      (subst (λ cs. IsTaking gone before rows beside cs (i + 1) more) (sym es) (subst (IsTaking gone before rows beside cells (i + 1)) (sym em) (stays absent)))

  pub taken : (t : TakenRow) (left : List ℕ) (less : List (List CellValue)) (more : List TakenRow) → has rows q ≡ true → t.index ≡ row_index q rows → t.index < length cells → t.row ≡ get_or rows t.index t.row → t.cells ≡ get_or cells t.index t.cells
      → left ≡ remove rows t.index → less ≡ remove cells t.index → more ≡ ts ++ t ∷ [] → IsTaking gone before left beside less (i + 1) more
  taken t left less more here at within er ec el es em =
      let found : (row_index q rows < length rows) × (get_or rows (row_index q rows) 0 ≡ q) = index_found q rows h.ascending here in
      let stands : t.index < length rows = subst (λ n. n < length rows) (sym at) found.0 in
      let rows_are : left ≡ remove rows (row_index q rows) = el ∙ ap (remove rows) at in
      let cells_are : less ≡ remove cells (row_index q rows) = es ∙ ap (remove cells) at in
      record {
        ascending = subst IsAscending (sym rows_are) (IsAscending-left q rows h.ascending here);
        rows_to_go = ap (rows_left (drop (i + 1) gone)) rows_are ∙ sym (cond_true (has rows q) (rows_left (drop (i + 1) gone) (remove rows (row_index q rows))) (rows_left (drop (i + 1) gone) rows) here) ∙ ap (λ qs. rows_left qs rows) (sym read) ∙ h.rows_to_go;
        cells_to_go = ap (λ rs. beside_left (drop (i + 1) gone) rs less) rows_are ∙ ap (beside_left (drop (i + 1) gone) (remove rows (row_index q rows))) cells_are
            ∙ sym (cond_true (has rows q) (beside_left (drop (i + 1) gone) (remove rows (row_index q rows)) (remove cells (row_index q rows))) (beside_left (drop (i + 1) gone) rows cells) here) ∙ ap (λ qs. beside_left qs rows cells) (sym read) ∙ h.cells_to_go;
        rows_back = ap (λ us. rows_again us left) em ∙ rows_again-append ts t left ∙ ap (rows_again ts) (ap (λ rs. insert rs t.index t.row) el ∙ insert-remove rows t.index t.row stands er) ∙ h.rows_back;
        cells_back = ap (λ us. cells_again us less) em ∙ cells_again-append ts t less ∙ ap (cells_again ts) (ap (λ cs. insert cs t.index t.cells) es ∙ insert-remove cells t.index t.cells within ec) ∙ h.cells_back;
      }
