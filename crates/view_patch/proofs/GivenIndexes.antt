-- What an action gives, by the last indexes of rows and columns.
use Rattle.std.proofs.Common.{Result, Ok, Err, IfOk, ℕ, zero, suc, ◌+◌, Bool, true, false, cond, ◌||◌, List, [], ◌∷◌, ◌++◌, map, take, ◌≡◌, ◌<◌, length, get_or, refl, sym, ap, subst, ◌∙◌, Option, Some, None, unwrap_or, is_some, option_map, slice_get, eqb, arith, MatchOption}
use Rattle.std.proofs.lemmas.Bool.{false≢true, true≢false, eq-eqb}
use Rattle.std.proofs.lemmas.List.{take_more}
use Rattle.std.specs.List.{AllByRecursion, list_any}
use Rattle.std.specs.Str.{bytes_eq}
use Rattle.cell_types.specs.declared.value.CellValue.{CellValue}
use Rattle.cell_types.specs.declared.value.CellValue.TheVariants.{Null}
use Rattle.doc_model.specs.declared.column.CellColumn.{CellColumn}
use Rattle.doc_model.specs.declared.view.ViewCol.{ViewCol}
use Rattle.doc_model.specs.declared.view.ViewTable.{ViewTable}
use Rattle.doc_model.specs.Changes.{table}
use Rattle.doc_model.specs.Grid.{Grid, grid_of}
use Rattle.doc_model.specs.Records.{given, or_else, value_for}
use Rattle.doc_model.specs.Rows.{has, IsAscending}
use Rattle.doc_model.specs.ViewEdits.{shown_start}
use Rattle.doc_model.proofs.Choices.{map_each, map-map}
use Rattle.doc_model.proofs.RowsLaws.{has_below}
use Rattle.view_patch.specs.declared.rebuilding.Source.{Source}
use Rattle.plain_view.specs.Cells.{column_index, row_cells}
use Rattle.view_patch.specs.Given.{AreFull, column_at, given_at, last_named, last_row, last_where, new_cell}
use Rattle.view_patch.specs.Sources.{source_of, sourced_cell}
use Rattle.plain_view.proofs.CellIndexes.{beside_index}

last_snoc : {K : Type 0} (test : K → Bool) (n m : ℕ) (xs : List K) (x : K) → m ≡ n + length xs → last_where test n (xs ++ x ∷ []) ≡ cond (test x) (Some m) (last_where test n xs)
last_snoc test n m [] x e = let same : n ≡ m = omega (arith, e) in ap (λ k. cond (test x) (Some k) None) same
last_snoc {K} test n m (y ∷ xs) x e =
    ap (λ o. or_else o (cond (test y) (Some n) None)) (last_snoc test (n + 1) m xs x (omega (arith, e)))
    ∙ elim (test x) as (λ b. or_else (cond b (Some m) (last_where test (n + 1) xs)) (cond (test y) (Some n) None) ≡ cond b (Some m) (or_else (last_where test (n + 1) xs) (cond (test y) (Some n) None))) [ true ↦ refl | false ↦ refl ]

pub last_more : {K : Type 0} (test : K → Bool) (xs : List K) (i : ℕ) (x : K) (found next : Option ℕ) → i < length xs → x ≡ get_or xs i x → found ≡ last_where test 0 (take i xs) → next ≡ cond (test x) (Some i) found → next ≡ last_where test 0 (take (i + 1) xs)
last_more test xs i x found next lt is before e =
    e ∙ ap (λ o. cond (test x) (Some i) o) before ∙ ap (λ y. cond (test y) (Some i) (last_where test 0 (take i xs))) is
    ∙ sym (last_snoc test 0 i (take i xs) (get_or xs i x) (omega (arith, Rattle.std.proofs.lemmas.List.length-take i xs, lt)))
    ∙ ap (last_where test 0) (sym (take_more xs i x lt))

last_none : {K : Type 0} (test : K → Bool) (n : ℕ) (xs : List K) → list_any test xs ≡ false → last_where test n xs ≡ None
last_none test n [] h = refl
last_none {K} test n (x ∷ xs) h =
    elim (test x) as (λ b. (b || list_any test xs) ≡ false → or_else (last_where test (n + 1) xs) (cond b (Some n) None) ≡ None) [
      | true ↦ λ h. absurd (true≢false h)
      | false ↦ λ h. ap (λ o. or_else o None) (last_none test (n + 1) xs h)
    ] h

last_at : (rows : List ℕ) (row n p m : ℕ) → IsAscending rows → p < length rows → get_or rows p 0 ≡ row → m ≡ n + p → last_where (λ q. eqb q row) n rows ≡ Some m
last_at [] row n p m h lt e is = absurd (omega arith)
last_at (r ∷ rows) row n zero m h lt e is =
    let none : has rows row ≡ false = ap (has rows) (sym e) ∙ has_below r rows h.0 in
    ap (λ o. or_else o (cond (eqb r row) (Some n) None)) (last_none (λ q. eqb q row) (n + 1) rows none)
    ∙ ap (λ b. cond b (Some n) None) (eq-eqb r row e)
    ∙ ap (λ k. Some k) (omega (arith, is))
last_at (r ∷ rows) row n (suc p) m h lt e is = ap (λ o. or_else o (cond (eqb r row) (Some n) None)) (last_at rows row (n + 1) p m h.1 (omega arith) e (omega (arith, is)))

-- among ascending rows the index of a row is its last index
pub only_index : (o : Option ℕ) (rows : List ℕ) (row : ℕ) → IsAscending rows → MatchOption o (has rows row ≡ false) (λ p. (p < length rows) × (get_or rows p 0 ≡ row)) → o ≡ last_row rows row
only_index None rows row a h = sym (last_none (λ q. eqb q row) 0 rows h)
only_index (Some p) rows row a h = sym (last_at rows row 0 p p a h.0 h.1 (omega arith))

shifted : {K : Type 0} (test : K → Bool) (n m : ℕ) (xs : List K) → m ≡ n + 1 → last_where test m xs ≡ option_map (λ p. suc p) (last_where test n xs)
shifted test n m [] e = refl
shifted {K} test n m (x ∷ xs) e =
    ap (λ o. or_else o (cond (test x) (Some m) None)) (shifted test (n + 1) (m + 1) xs (omega (arith, e)))
    ∙ by_rest (last_where test (n + 1) xs)
  where
    next : m ≡ suc n
    next = omega (arith, e)

    by_rest : (o : Option ℕ) → or_else (option_map (λ p. suc p) o) (cond (test x) (Some m) None) ≡ option_map (λ p. suc p) (or_else o (cond (test x) (Some n) None))
    by_rest (Some p) = refl
    by_rest None = elim (test x) as (λ b. cond b (Some m) None ≡ option_map (λ p. suc p) (cond b (Some n) None)) [ true ↦ ap (λ k. Some k) next | false ↦ refl ]

value_by_index : (rows : List ℕ) (vs : List CellValue) (row : ℕ) → length vs ≡ length rows → value_for rows vs row ≡ option_map (λ p. get_or vs p Null) (last_row rows row)
value_by_index [] vs row e = refl
value_by_index (q ∷ rows) [] row e = absurd (omega arith)
value_by_index (q ∷ rows) (v ∷ vs) row e =
    ap (λ o. or_else o (cond (eqb q row) (Some v) None)) (value_by_index rows vs row (omega arith))
    ∙ by_rest (last_row rows row)
    ∙ ap (λ o. option_map (λ p. get_or (v ∷ vs) p Null) (or_else o (cond (eqb q row) (Some 0) None))) (sym (shifted (λ q. eqb q row) 0 1 rows (omega arith)))
  where
    by_rest : (o : Option ℕ) → or_else (option_map (λ p. get_or vs p Null) o) (cond (eqb q row) (Some v) None) ≡ option_map (λ p. get_or (v ∷ vs) p Null) (or_else (option_map (λ p. suc p) o) (cond (eqb q row) (Some 0) None))
    by_rest (Some p) = refl
    by_rest None = elim (eqb q row) as (λ b. cond b (Some v) None ≡ option_map (λ p. get_or (v ∷ vs) p Null) (cond b (Some 0) None)) [ true ↦ refl | false ↦ refl ]

-- where a last index is, something stands
standing : (test : CellColumn → Bool) (ks : List CellColumn) (i : ℕ) → last_where test 0 ks ≡ Some i → is_some (slice_get ks i) ≡ true
standing test [] i e = absurd (cc)
standing test (k ∷ ks) i e = by_rest (λ j is. standing test ks j is) (last_where test 0 ks) refl (sym (ap (λ o. or_else o (cond (test k) (Some 0) None)) (shifted test 0 1 ks (omega arith))) ∙ e)
  where
    first : (b : Bool) (i : ℕ) → cond b (Some 0) None ≡ Some i → is_some (slice_get (k ∷ ks) i) ≡ true
    first true i e = let z : 0 ≡ i = cc in subst (λ j. is_some (slice_get (k ∷ ks) j) ≡ true) z refl
    first false i e = absurd (cc)

    by_rest : ((j : ℕ) → last_where test 0 ks ≡ Some j → is_some (slice_get ks j) ≡ true) → (o : Option ℕ) → last_where test 0 ks ≡ o → or_else (option_map (λ p. suc p) o) (cond (test k) (Some 0) None) ≡ Some i → is_some (slice_get (k ∷ ks) i) ≡ true
    by_rest h (Some j) is e = let s : suc j ≡ i = cc in subst (λ n. is_some (slice_get (k ∷ ks) n) ≡ true) s (h j is)
    by_rest h None is e = first (test k) i e

-- what columns give a cell, by the last indexes
pub given_by_index : (rows : List ℕ) (ks : List CellColumn) (c : List ℕ) (row : ℕ) → AreFull rows ks → given rows ks c row ≡ given_at (last_row rows row) (column_at ks (last_named ks c))
given_by_index rows [] c row h = by_index (last_row rows row)
  where
    by_index : (p : Option ℕ) → None ≡ given_at p None
    by_index None = refl
    by_index (Some p) = refl
given_by_index rows (k ∷ ks) c row h =
    ap (λ o. or_else o (cond (bytes_eq k.id c) (value_for rows k.values row) None)) (given_by_index rows ks c row h.1)
    ∙ ap (λ o. or_else (given_at (last_row rows row) (column_at ks (last_named ks c))) (cond (bytes_eq k.id c) o None)) (value_by_index rows k.values row h.0)
    ∙ by_rest (last_row rows row) (last_named ks c) refl
    ∙ ap (λ o. given_at (last_row rows row) (column_at (k ∷ ks) (or_else o (cond (bytes_eq k.id c) (Some 0) None)))) (sym (shifted (λ (k : CellColumn). bytes_eq k.id c) 0 1 ks (omega arith)))
  where
    found : (p : ℕ) (o : Option CellColumn) (other : Option CellValue) → is_some o ≡ true → or_else (given_at (Some p) o) other ≡ given_at (Some p) o
    found p None other e = absurd (false≢true e)
    found p (Some k) other e = refl

    by_rest : (p o : Option ℕ) → last_named ks c ≡ o
        → or_else (given_at p (column_at ks o)) (cond (bytes_eq k.id c) (option_map (λ p. get_or k.values p Null) p) None) ≡ given_at p (column_at (k ∷ ks) (or_else (option_map (λ p. suc p) o) (cond (bytes_eq k.id c) (Some 0) None)))
    by_rest None o is = elim (bytes_eq k.id c) as (λ b. ◌≡◌ {A = Option CellValue} (cond b None None) None) [ true ↦ refl | false ↦ refl ]
    by_rest (Some p) (Some i) is = found p (slice_get ks i) (cond (bytes_eq k.id c) (Some (get_or k.values p Null)) None) (standing (λ (k : CellColumn). bytes_eq k.id c) ks i is)
    by_rest (Some p) None is = elim (bytes_eq k.id c) as (λ b. cond b (Some (get_or k.values p Null)) None ≡ given_at (Some p) (column_at (k ∷ ks) (cond b (Some 0) None))) [ true ↦ refl | false ↦ refl ]

everywhere : {X : Type 0} (P : X → Type 0) (xs : List X) → ((x : X) → P x) → AllByRecursion P xs
everywhere P [] h = tt
everywhere P (x ∷ xs) h = (h x, everywhere P xs h)

sourced : (g : Grid ViewCol) (rows : List ℕ) (ks : List CellColumn) (d : ViewCol) (r : ℕ) → AreFull rows ks → sourced_cell (row_cells g r) ks (last_row rows r) (source_of g.columns ks d) ≡ new_cell g rows ks d r
sourced g rows ks d r h =
    ap (λ o. unwrap_or o (Rattle.plain_view.specs.Cells.value_in (row_cells g r) (column_index g.columns d.id) (shown_start d))) (sym (given_by_index rows ks d.id r h))
    ∙ ap (λ v. unwrap_or (given rows ks d.id r) v) (beside_index (λ (e : ViewCol). bytes_eq e.id d.id) g.columns (row_cells g r) (shown_start d))

rebuilt_cells : (g : Grid ViewCol) (given_rows : List ℕ) (ks : List CellColumn) (columns : List ViewCol) (rows : List ℕ) → AreFull given_rows ks
    → map (λ r. map (sourced_cell (row_cells g r) ks (last_row given_rows r)) (map (source_of g.columns ks) columns)) rows ≡ map (λ r. map (λ d. new_cell g given_rows ks d r) columns) rows
rebuilt_cells g given_rows ks columns rows h =
    map_each (λ r. map (sourced_cell (row_cells g r) ks (last_row given_rows r)) (map (source_of g.columns ks) columns)) (λ r. map (λ d. new_cell g given_rows ks d r) columns) rows
    (everywhere (λ r. map (sourced_cell (row_cells g r) ks (last_row given_rows r)) (map (source_of g.columns ks) columns) ≡ map (λ d. new_cell g given_rows ks d r) columns) rows (λ r.
    sym (map-map (sourced_cell (row_cells g r) ks (last_row given_rows r)) (source_of g.columns ks) columns)
    ∙ map_each (λ d. sourced_cell (row_cells g r) ks (last_row given_rows r) (source_of g.columns ks d)) (λ d. new_cell g given_rows ks d r) columns
    (everywhere (λ d. sourced_cell (row_cells g r) ks (last_row given_rows r) (source_of g.columns ks d) ≡ new_cell g given_rows ks d r) columns (λ d. sourced g given_rows ks d r h))))

-- the cells made of the sources of the columns
pub cells_made : {E : Type 0} (r : Result (List (List CellValue)) E) (g : Grid ViewCol) (columns : List ViewCol) (rows given_rows : List ℕ) (ks : List CellColumn) (old : List ViewCol) (made used : List Source)
    → AreFull given_rows ks → old ≡ g.columns → made ≡ map (source_of old ks) columns → used ≡ made → IfOk r (λ l. l ≡ map (λ r. map (sourced_cell (row_cells g r) ks (last_row given_rows r)) used) rows)
    → IfOk r (λ l. l ≡ map (λ r. map (λ d. new_cell g given_rows ks d r) columns) rows)
cells_made (Ok l) g columns rows given_rows ks old made used h eo em eu e =
    e ∙ ap (λ l. map (λ r. map (sourced_cell (row_cells g r) ks (last_row given_rows r)) l) rows) (eu ∙ em ∙ ap (λ l. map (source_of l ks) columns) eo)
    ∙ rebuilt_cells g given_rows ks columns rows h
cells_made (Err x) g columns rows given_rows ks old made used h eo em eu e = tt

pub rebuilt_table : (g : Grid ViewCol) (name id : List ℕ) (columns seen : List ViewCol) (rows walked given_rows : List ℕ) (ks : List CellColumn) (cells : List (List CellValue))
    → id ≡ name → seen ≡ columns → walked ≡ rows → cells ≡ (grid_of seen walked (new_cell g given_rows ks)).cells
    → (let t : ViewTable = record { id = id; columns = columns; rows = rows; cells = cells } in t) ≡ table name (grid_of columns rows (new_cell g given_rows ks))
rebuilt_table g name id columns seen rows walked given_rows ks cells named es ew ec =
    ap (λ n. let t : ViewTable = record { id = n; columns = columns; rows = rows; cells = cells } in t) named
    ∙ ap (λ l. let t : ViewTable = record { id = name; columns = columns; rows = rows; cells = l } in t)
    (ec ∙ ap (λ l. (grid_of l walked (new_cell g given_rows ks)).cells) es ∙ ap (λ l. (grid_of columns l (new_cell g given_rows ks)).cells) ew)
