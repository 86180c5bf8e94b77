-- Values written into the cells of a grid, and written back.
use Rattle.std.proofs.Common.{ℕ, suc, Bool, true, false, cond, ◌||◌, List, [], ◌∷◌, ◌+◌, ◌++◌, map, take, drop, get_or, set, length, ◌≡◌, ◌<◌, ◌≤◌, refl, sym, ap, subst, ◌∙◌, Option, Some, None, unwrap_or, eqb, ltb, arith}
use Rattle.std.proofs.lemmas.Bool.{false≢true, true≢false, eqb-true, ne_eqb, ltb-true, ltb-false}
use Rattle.std.proofs.lemmas.List.{set-set, set-get_or, get_or-map, get_or-set_same, set_past, drop-drop, drop-set-lt, take_more_set}
use Rattle.std.proofs.lemmas.Slice.Eq.{bytes_eq-Decides}
use Rattle.std.specs.Str.{bytes_eq}
use Rattle.cell_types.specs.declared.value.CellValue.{CellValue}
use Rattle.doc_model.specs.declared.column.CellColumn.{CellColumn}
use Rattle.doc_model.specs.declared.column.ColDef.{ColDef}
use Rattle.doc_model.specs.ByIds.{AreDistinct}
use Rattle.doc_model.specs.Rows.{has, IsAscending}
use Rattle.doc_model.specs.Column.{column_id}
use Rattle.doc_model.specs.Grid.{Grid, IsGrid, cell}
use Rattle.doc_model.specs.Records.{or_else, value_for, given, update_rows}
use Rattle.doc_model.proofs.Choices.{cond_true, cond_false, false_from, each_weaker, map_each}
use Rattle.doc_model.proofs.GridLaws.{grid_of-cell}
use Rattle.doc_model.proofs.RowsLaws.{number_itself, each_has, has_below}
use Rattle.row_tables.specs.InPlace.{id_index, set_cell, written, written_back, column_writes, all_writes}
use Rattle.doc_model.specs.Indexes.{row_index}
use Rattle.row_tables.specs.declared.written.Write.{Write}
use Rattle.row_tables.proofs.AddedLaws.{map_same}
use Rattle.row_tables.proofs.Walks.{drop_read}

-- the cells that f gives
abbrev pub cells_of : List ColDef → List ℕ → (ColDef → ℕ → CellValue) → List (List CellValue)
cells_of cs rs f = map (λ r. map (λ d. f d r) cs) rs

cells_same : (cs : List ColDef) (rs : List ℕ) (f g : ColDef → ℕ → CellValue) → ((d : ColDef) (r : ℕ) → has rs r ≡ true → f d r ≡ g d r) → cells_of cs rs f ≡ cells_of cs rs g
cells_same cs rs f g h = map_each (λ r. map (λ d. f d r) cs) (λ r. map (λ d. g d r) cs) rs (each_has (λ r. map (λ d. f d r) cs ≡ map (λ d. g d r) cs) rs (λ r here. map_same (λ d. f d r) (λ d. g d r) cs (λ d. h d r here)))

-- ---- one value

-- where a row that is there stands
pub index_found : (q : ℕ) (rs : List ℕ) → IsAscending rs → has rs q ≡ true → (row_index q rs < length rs) × (get_or rs (row_index q rs) 0 ≡ q)
index_found q [] a e = absurd (false≢true e)
index_found q (r ∷ rs) a e =
    let next : suc (row_index q rs) ≡ row_index q rs + 1 = omega arith in
    elim (ltb r q) as (λ b. ltb r q ≡ b → (cond b (row_index q rs + 1) 0 < length (r ∷ rs)) × (get_or (r ∷ rs) (cond b (row_index q rs + 1) 0) 0 ≡ q)) [
      | true ↦ λ below.
          let lt : r < q = ltb-true r q below in
          let later : (row_index q rs < length rs) × (get_or rs (row_index q rs) 0 ≡ q) = index_found q rs a.1 (ap (λ b. b || has rs q) (sym (ne_eqb r q (λ same. absurd (omega arith)))) ∙ e) in
          (omega (arith, later.0), ap (λ n. get_or (r ∷ rs) n 0) (sym next) ∙ later.1)
      | false ↦ λ above.
          let le : q ≤ r = ltb-false r q above in
          elim (eqb r q) as (λ b. eqb r q ≡ b → (0 < length (r ∷ rs)) × (r ≡ q)) [
            | true ↦ λ same. (omega arith, eqb-true r q same)
            | false ↦ λ apart. absurd (false≢true (sym (low r q rs a le apart) ∙ ap (λ b. b || has rs q) (sym apart) ∙ e))
          ] refl
    ] refl
  where
    low : (r q : ℕ) (rs : List ℕ) → IsAscending (r ∷ rs) → q ≤ r → eqb r q ≡ false → has rs q ≡ false
    low r q rs a le apart = has_below q rs (each_weaker (λ x. r < x) (λ x. q < x) (λ x lt. let h : r < x = lt in omega (arith, h)) rs a.0)

-- a value set beside the row that is there
set_row : {X : Type 0} (f : ℕ → X) (y : X) (q : ℕ) (rs : List ℕ) → IsAscending rs → has rs q ≡ true → set (map f rs) (row_index q rs) y ≡ map (λ r. cond (eqb q r) y (f r)) rs
set_row f y q [] a e = absurd (false≢true e)
set_row f y q (r ∷ rs) a e =
    let next : suc (row_index q rs) ≡ row_index q rs + 1 = omega arith in
    elim (ltb r q) as (λ b. ltb r q ≡ b → set (map f (r ∷ rs)) (cond b (row_index q rs + 1) 0) y ≡ map (λ r. cond (eqb q r) y (f r)) (r ∷ rs)) [
      | true ↦ λ below.
          let lt : r < q = ltb-true r q below in
          ap (λ n. set (map f (r ∷ rs)) n y) (sym next)
          ∙ ap (λ xs. f r ∷ xs) (set_row f y q rs a.1 (ap (λ b. b || has rs q) (sym (ne_eqb r q (λ same. absurd (omega arith)))) ∙ e))
          ∙ ap (λ x. x ∷ map (λ r. cond (eqb q r) y (f r)) rs) (sym (cond_false (eqb q r) y (f r) (ne_eqb q r (λ same. absurd (omega arith)))))
      | false ↦ λ above.
          let le : q ≤ r = ltb-false r q above in
          let found : (row_index q (r ∷ rs) < length (r ∷ rs)) × (get_or (r ∷ rs) (row_index q (r ∷ rs)) 0 ≡ q) = index_found q (r ∷ rs) a e in
          let same : r ≡ q = ap (λ n. get_or (r ∷ rs) n 0) (sym (cond_false (ltb r q) (row_index q rs + 1) 0 above)) ∙ found.1 in
          ap (λ xs. y ∷ xs) (map_each f (λ r. cond (eqb q r) y (f r)) rs (each_weaker (λ x. r < x) (λ x. f x ≡ cond (eqb q x) y (f x)) (λ x lt. let h : r < x = lt in sym (cond_false (eqb q x) y (f x) (ne_eqb q x (λ is. absurd (omega arith))))) rs a.0))
          ∙ ap (λ x. x ∷ map (λ r. cond (eqb q r) y (f r)) rs) (sym (cond_true (eqb q r) y (f r) (subst (λ n. eqb q n ≡ true) (sym same) (number_itself q))))
    ] refl

-- a value set in the column of an id, where there is one
set_id : (f : ColDef → CellValue) (v : CellValue) (c : List ℕ) (cs : List ColDef) → AreDistinct column_id cs → set (map f cs) (id_index c cs) v ≡ map (λ d. cond (bytes_eq c d.id) v (f d)) cs
set_id f v c [] h = refl
set_id f v c (d ∷ cs) h =
    let next : suc (id_index c cs) ≡ id_index c cs + 1 = omega arith in
    elim (bytes_eq c d.id) as (λ b. bytes_eq c d.id ≡ b → set (map f (d ∷ cs)) (cond b 0 (id_index c cs + 1)) v ≡ cond b v (f d) ∷ map (λ d. cond (bytes_eq c d.id) v (f d)) cs) [
      | true ↦ λ is.
          let same : c ≡ d.id = (bytes_eq-Decides c d.id).0 is in
          ap (λ xs. v ∷ xs) (map_each f (λ d. cond (bytes_eq c d.id) v (f d)) cs (each_weaker (λ (e : ColDef). bytes_eq d.id e.id ≡ false) (λ (e : ColDef). f e ≡ cond (bytes_eq c e.id) v (f e)) (λ e apart. sym (cond_false (bytes_eq c e.id) v (f e) (ap (λ n. bytes_eq n e.id) same ∙ apart))) cs h.0))
      | false ↦ λ _. ap (λ n. set (map f (d ∷ cs)) n v) (sym next) ∙ ap (λ xs. f d ∷ xs) (set_id f v c cs h.1)
    ] refl

module _ (cs : List ColDef) (rs : List ℕ) (distinct : AreDistinct column_id cs) (ascending : IsAscending rs) where
  -- the cells with one value written
  one_write : (f : ColDef → ℕ → CellValue) (c : List ℕ) (q : ℕ) (v : CellValue) → has rs q ≡ true → set (cells_of cs rs f) (row_index q rs) (set (get_or (cells_of cs rs f) (row_index q rs) []) (id_index c cs) v) ≡ cells_of cs rs (λ d r. cond (bytes_eq c d.id) (cond (eqb q r) v (f d r)) (f d r))
  one_write f c q v here =
      let found : (row_index q rs < length rs) × (get_or rs (row_index q rs) 0 ≡ q) = index_found q rs ascending here in
      let list : List CellValue = map (λ (d : ColDef). cond (bytes_eq c d.id) v (f d q)) cs in
      ap (λ l. set (cells_of cs rs f) (row_index q rs) (set l (id_index c cs) v)) (get_or-map (λ r. map (λ d. f d r) cs) rs (row_index q rs) 0 [] found.0 ∙ ap (λ r. map (λ d. f d r) cs) found.1)
      ∙ ap (set (cells_of cs rs f) (row_index q rs)) (set_id (λ d. f d q) v c cs distinct)
      ∙ set_row (λ r. map (λ d. f d r) cs) list q rs ascending here
      ∙ map_same (λ r. cond (eqb q r) list (map (λ d. f d r) cs)) (λ r. map (λ (d : ColDef). cond (bytes_eq c d.id) (cond (eqb q r) v (f d r)) (f d r)) cs) rs (λ r.
      elim (eqb q r) as (λ b. eqb q r ≡ b → cond b list (map (λ d. f d r) cs) ≡ map (λ (d : ColDef). cond (bytes_eq c d.id) (cond b v (f d r)) (f d r)) cs) [
        | true ↦ λ same. ap (λ n. map (λ (d : ColDef). cond (bytes_eq c d.id) v (f d n)) cs) (eqb-true q r same)
        | false ↦ λ _. map_same (λ d. f d r) (λ (d : ColDef). cond (bytes_eq c d.id) (f d r) (f d r)) cs (λ d. elim (bytes_eq c d.id) as (λ b. f d r ≡ cond b (f d r) (f d r)) [ true ↦ refl | false ↦ refl ])
      ] refl)

  -- ---- the values of one column

  later : (a : Bool) (o : Option CellValue) (b : Bool) (v x : CellValue) → cond a (unwrap_or o (cond a (cond b v x) x)) (cond a (cond b v x) x) ≡ cond a (unwrap_or (or_else o (cond b (Some v) None)) x) x
  later false o b v x = refl
  later true (Some y) b v x = refl
  later true None true v x = refl
  later true None false v x = refl

  unread : (o : Option CellValue) (b : Bool) (v : CellValue) → b ≡ false → or_else o (cond b (Some v) None) ≡ o
  unread (Some y) b v e = refl
  unread None true v e = absurd (true≢false e)
  unread None false v e = refl

  nothing : (f : ColDef → ℕ → CellValue) (c : List ℕ) → cells_of cs rs f ≡ cells_of cs rs (λ d r. cond (bytes_eq c d.id) (f d r) (f d r))
  nothing f c = cells_same cs rs f (λ (d : ColDef) r. cond (bytes_eq c d.id) (f d r) (f d r)) (λ d r _. elim (bytes_eq c d.id) as (λ b. f d r ≡ cond b (f d r) (f d r)) [ true ↦ refl | false ↦ refl ])

  column_written : (f : ColDef → ℕ → CellValue) (c : List ℕ) (rows : List ℕ) (vs : List CellValue) → written (column_writes rs (id_index c cs) rows vs) (cells_of cs rs f) ≡ cells_of cs rs (λ d r. cond (bytes_eq c d.id) (unwrap_or (value_for rows vs r) (f d r)) (f d r))
  column_written f c [] vs = nothing f c
  column_written f c (q ∷ rows) [] = nothing f c
  column_written f c (q ∷ rows) (v ∷ vs) =
      let w : Write = record { row = row_index q rs; column = id_index c cs; value = v } in
      let rest : List Write = column_writes rs (id_index c cs) rows vs in
      let after : ColDef → ℕ → CellValue = λ d r. cond (bytes_eq c d.id) (unwrap_or (or_else (value_for rows vs r) (cond (eqb q r) (Some v) None)) (f d r)) (f d r) in
      let one : ColDef → ℕ → CellValue = λ d r. cond (bytes_eq c d.id) (cond (eqb q r) v (f d r)) (f d r) in
      elim (has rs q) as (λ b. has rs q ≡ b → written (cond b (w ∷ rest) rest) (cells_of cs rs f) ≡ cells_of cs rs after) [
        | true ↦ λ here.
            ap (written rest) (one_write f c q v here) ∙ column_written one c rows vs
            ∙ cells_same cs rs (λ (d : ColDef) r. cond (bytes_eq c d.id) (unwrap_or (value_for rows vs r) (one d r)) (one d r)) after (λ d r _. later (bytes_eq c d.id) (value_for rows vs r) (eqb q r) v (f d r))
        | false ↦ λ absent.
            column_written f c rows vs
            ∙ cells_same cs rs (λ (d : ColDef) r. cond (bytes_eq c d.id) (unwrap_or (value_for rows vs r) (f d r)) (f d r)) after (λ d r here.
            ap (λ o. cond (bytes_eq c d.id) (unwrap_or o (f d r)) (f d r)) (sym (unread (value_for rows vs r) (eqb q r) v (false_from (eqb q r) (λ same. false≢true (sym absent ∙ subst (λ n. has rs n ≡ true) (sym (eqb-true q r same)) here))))))
      ] refl

-- ---- all given columns

pub written-append : (xs ys : List Write) (cells : List (List CellValue)) → written (xs ++ ys) cells ≡ written ys (written xs cells)
written-append [] ys cells = refl
written-append (x ∷ xs) ys cells = written-append xs ys (set_cell x cells)

module _ (g : Grid ColDef) (grid : IsGrid column_id g) (rows : List ℕ) where
  choose : (a : Bool) (o p : Option CellValue) (x : CellValue) → unwrap_or p (cond a (unwrap_or o x) x) ≡ unwrap_or (or_else p (cond a o None)) x
  choose a o (Some y) x = refl
  choose true o None x = refl
  choose false o None x = refl

  columns_written : (f : ColDef → ℕ → CellValue) (ks : List CellColumn) → written (all_writes g rows ks) (cells_of g.columns g.rows f) ≡ cells_of g.columns g.rows (λ d r. unwrap_or (given rows ks d.id r) (f d r))
  columns_written f [] = refl
  columns_written f (k ∷ ks) =
      let one : ColDef → ℕ → CellValue = λ d r. cond (bytes_eq k.id d.id) (unwrap_or (value_for rows k.values r) (f d r)) (f d r) in
      written-append (column_writes g.rows (id_index k.id g.columns) rows k.values) (all_writes g rows ks) (cells_of g.columns g.rows f)
      ∙ ap (written (all_writes g rows ks)) (column_written g.columns g.rows grid.distinct grid.ascending f k.id rows k.values)
      ∙ columns_written one ks
      ∙ cells_same g.columns g.rows (λ (d : ColDef) r. unwrap_or (given rows ks d.id r) (one d r)) (λ (d : ColDef) r. unwrap_or (given rows (k ∷ ks) d.id r) (f d r)) (λ d r _. choose (bytes_eq k.id d.id) (value_for rows k.values r) (given rows ks d.id r) (f d r))

  -- an update, written
  pub updated : (ks : List CellColumn) → (let x : Grid ColDef = record { columns = g.columns; rows = g.rows; cells = written (all_writes g rows ks) g.cells } in x) ≡ update_rows column_id rows ks g
  updated ks =
      ap (λ cells. let x : Grid ColDef = record { columns = g.columns; rows = g.rows; cells = cells } in x)
      (ap (written (all_writes g rows ks)) (ap (λ (x : Grid ColDef). x.cells) (sym (grid_of-cell column_id g grid))) ∙ columns_written (λ d r. cell column_id g d.id r) ks)

-- ---- written back

-- what stood in the cell, written back
pub set_cell_back : (w old : Write) (cells : List (List CellValue)) → old.row ≡ w.row → old.column ≡ w.column → old.value ≡ get_or (get_or cells w.row []) w.column w.value → set_cell old (set_cell w cells) ≡ cells
set_cell_back w old cells er ec ev =
    ap (λ i. set (set_cell w cells) i (set (get_or (set_cell w cells) i []) old.column old.value)) er
    ∙ elim (ltb w.row (length cells)) as (λ b. ltb w.row (length cells) ≡ b → set (set_cell w cells) w.row (set (get_or (set_cell w cells) w.row []) old.column old.value) ≡ cells) [
      | true ↦ λ below.
          let within : w.row < length cells = ltb-true w.row (length cells) below in
          let list : List CellValue = get_or cells w.row [] in
          ap (λ l. set (set_cell w cells) w.row (set l old.column old.value)) (get_or-set_same cells w.row (set list w.column w.value) [] within)
          ∙ set-set cells w.row (set list w.column w.value) (set (set list w.column w.value) old.column old.value)
          ∙ ap (set cells w.row) (ap (λ j. set (set list w.column w.value) j old.value) ec ∙ set-set list w.column w.value old.value ∙ ap (set list w.column) ev ∙ set-get_or list w.column w.value)
          ∙ set-get_or cells w.row []
      | false ↦ λ past.
          let beyond : length cells ≤ w.row = ltb-false w.row (length cells) past in
          let same : set_cell w cells ≡ cells = set_past cells w.row (set (get_or cells w.row []) w.column w.value) beyond in
          ap (λ z. set z w.row (set (get_or z w.row []) old.column old.value)) same ∙ set_past cells w.row (set (get_or cells w.row []) old.column old.value) beyond
    ] refl

pub written_back-append : (ws : List Write) (w : Write) (cells : List (List CellValue)) → written_back (ws ++ w ∷ []) cells ≡ written_back ws (set_cell w cells)
written_back-append [] w cells = refl
written_back-append (x ∷ ws) w cells = ap (set_cell x) (written_back-append ws w cells)

-- one more value swapped with the one in its cell
pub swap_step : (all ws : List Write) (before cells after : List (List CellValue)) (i : ℕ) (w old : Write) → i < length ws → w ≡ get_or ws i w → after ≡ set_cell w cells → old.row ≡ w.row → old.column ≡ w.column → old.value ≡ get_or (get_or cells w.row []) w.column w.value
    → drop i ws ≡ drop i all → written (drop i all) cells ≡ written all before → written_back (take i ws) cells ≡ before
    → (drop (i + 1) (set ws i old) ≡ drop (i + 1) all) × (written (drop (i + 1) all) after ≡ written all before) × (written_back (take (i + 1) (set ws i old)) after ≡ before)
swap_step all ws before cells after i w old l e is er ec ev rest done back =
    let read : drop i ws ≡ w ∷ drop (i + 1) ws = drop_read ws i w l e in
    let same : drop (i + 1) ws ≡ drop (i + 1) all = sym (drop-drop 1 i ws) ∙ ap (drop 1) rest ∙ drop-drop 1 i all in (
      drop-set-lt (i + 1) ws i old (omega arith) ∙ same,
      ap (written (drop (i + 1) all)) is ∙ ap (λ zs. written zs (set_cell w cells)) (sym same) ∙ ap (λ zs. written zs cells) (sym read ∙ rest) ∙ done,
      ap (λ zs. written_back zs after) (take_more_set ws i old l) ∙ written_back-append (take i ws) old after
          ∙ ap (written_back (take i ws)) (ap (set_cell old) is ∙ set_cell_back w old cells er ec ev) ∙ back,
    )
