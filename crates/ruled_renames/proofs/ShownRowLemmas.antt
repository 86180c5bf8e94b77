-- Rows as a view shows them, and what is gathered of them.
use Rattle.std.proofs.Common.{◌≡◌, ◌∙◌, ap, refl, subst, sym, ℕ, suc, ◌+◌, ◌<◌, ◌≤◌, ℤ, pos, arith, Bool, true, false, cond, not, ◌||◌, nat_eq, nat_le, nat_lt, List, [], ◌∷◌, ◌++◌, length, Option, Some, None, option_map, slice_get, unwrap_or, bytes_eq, append-nil, append_assoc, zero-add, lt-ltb, le-ltb, ltb, ltb-true, ltb-false}
use Rattle.std.specs.List.{AllByRecursion, position, position_or_len}
use Rattle.std.proofs.lemmas.Bool.{and_parts, eqb-true, false≢true}
use Rattle.cell_types.specs.declared.value.CellValue.{CellValue}
use Rattle.cell_types.specs.declared.value.CellValue.TheVariants as value
use Rattle.cell_types.specs.Reference.{row_number}
use Rattle.doc_model.specs.declared.view.ViewCol.{ViewCol}
use Rattle.doc_model.specs.declared.view.ViewTable.{ViewTable}
use Rattle.doc_model.specs.ByIds.{has_id}
use Rattle.doc_model.specs.Grid.{beside}
use Rattle.doc_model.specs.Records.{or_else, value_for}
use Rattle.doc_model.specs.Rows.{IsAscending, has}
use Rattle.doc_model.specs.Valid.{from_one}
use Rattle.doc_model.specs.ViewEdits.{shown_id}
use Rattle.doc_model.proofs.RowsLaws.{has_below}
use Rattle.rename_flow.specs.declared.row_changes.RowChanges.{RowChanges}
use Rattle.rename_flow.specs.declared.text_change.TextChange.{TextChange}
use Rattle.rename_flow.specs.RuleParts.{no_changes, with_change, with_changes, with_row}
use Rattle.rename_flow.specs.ShownRows.{ShownRow, cells_at, rows_from, shown_cell}
use Rattle.rename_marks.specs.Noted.{capped}
use Rattle.user_actions.specs.Steps.{row_ids}

-- ---- rows with their cells

abbrev pub row_of : List ViewCol → ℕ → List CellValue → ShownRow
row_of ds r vs = record { columns = ds; row = r; cells = vs }

-- rows beside lists of cells
abbrev pub zipped : List ViewCol → List ℕ → List (List CellValue) → List ShownRow
zipped ds [] css = []
zipped ds (r ∷ rows) [] = row_of ds r [] ∷ zipped ds rows []
zipped ds (r ∷ rows) (vs ∷ css) = row_of ds r vs ∷ zipped ds rows css

-- the cells of a row
abbrev pub cells_of_row : List ℕ → List (List CellValue) → ℕ → List CellValue
cells_of_row rows css r = beside (λ q. nat_eq q r) rows css []

-- what stands in the table from a place on
abbrev IsFrom : ViewTable → ℕ → List (List CellValue) → Type 0
IsFrom w i css = (j : ℕ) → slice_get w.cells (i + j) ≡ slice_get css j

at_place : (w : ViewTable) (i : ℕ) (o : Option (List CellValue)) → slice_get w.cells (i + 0) ≡ o → cells_at w i ≡ elim o [ None ↦ [] | Some vs ↦ vs ]
at_place w i o e = ap (λ (x : Option (List CellValue)). elim x as (λ _. List CellValue) [ None ↦ [] | Some vs ↦ vs ]) (ap (slice_get w.cells) (same i) ∙ e)
  where
    same : (i : ℕ) → i ≡ i + 0
    same i = omega arith

next : (w : ViewTable) (i : ℕ) (v : List CellValue) (css : List (List CellValue)) → IsFrom w i (v ∷ css) → IsFrom w (i + 1) css
next w i v css h j = ap (slice_get w.cells) (same i j) ∙ h (suc j)
  where
    same : (i j : ℕ) → (i + 1) + j ≡ i + suc j
    same i j = omega arith

next_none : (w : ViewTable) (i : ℕ) → IsFrom w i [] → IsFrom w (i + 1) []
next_none w i h j = ap (slice_get w.cells) (same i j) ∙ h (suc j)
  where
    same : (i j : ℕ) → (i + 1) + j ≡ i + suc j
    same i j = omega arith

rows_zipped : (w : ViewTable) (i : ℕ) (rows : List ℕ) (css : List (List CellValue)) → IsFrom w i css → rows_from w i rows ≡ zipped w.columns rows css
rows_zipped w i [] css h = refl
rows_zipped w i (r ∷ rows) [] h =
    ap (λ vs. row_of w.columns r vs ∷ rows_from w (i + 1) rows) (at_place w i None (h 0))
    ∙ ap (λ ws. row_of w.columns r [] ∷ ws) (rows_zipped w (i + 1) rows [] (next_none w i h))
rows_zipped w i (r ∷ rows) (v ∷ css) h =
    ap (λ vs. row_of w.columns r vs ∷ rows_from w (i + 1) rows) (at_place w i (Some v) (h 0))
    ∙ ap (λ ws. row_of w.columns r v ∷ ws) (rows_zipped w (i + 1) rows css (next w i v css h))

pub all_zipped : (w : ViewTable) → rows_from w 0 w.rows ≡ zipped w.columns w.rows w.cells
all_zipped w = rows_zipped w 0 w.rows w.cells (λ j. ap (slice_get w.cells) (zero-add j))

-- ---- a cell by its column

abbrev chosen : {K : Type 0} → (K → Bool) → List K → List CellValue → Option CellValue
chosen test [] vs = None
chosen test (k ∷ ks) [] = None
chosen test (k ∷ ks) (v ∷ vs) = cond (test k) (Some v) (chosen test ks vs)

abbrev at : List CellValue → Option ℕ → Option CellValue
at vs o = elim o [ None ↦ None | Some i ↦ slice_get vs i ]

at_none : (o : Option ℕ) → at [] o ≡ None
at_none None = refl
at_none (Some i) = refl

at_later : (v : CellValue) (vs : List CellValue) (m n k : ℕ) → k ≡ suc m → at (v ∷ vs) (cond (ltb k (suc n)) (Some k) None) ≡ at vs (cond (ltb m n) (Some m) None)
at_later v vs m n k e =
    elim (ltb m n) as (λ b. ltb m n ≡ b → at (v ∷ vs) (cond (ltb k (suc n)) (Some k) None) ≡ at vs (cond b (Some m) None)) [
      | true ↦ λ is. let lt : m < n = ltb-true m n is in
          ap (λ b. at (v ∷ vs) (cond b (Some k) None)) (lt-ltb k (suc n) (omega (arith, lt, e))) ∙ ap (slice_get (v ∷ vs)) e
      | false ↦ λ is. let le : n ≤ m = ltb-false m n is in ap (λ b. at (v ∷ vs) (cond b (Some k) None)) (le-ltb k (suc n) (omega (arith, le, e)))
    ] refl

at_position : {K : Type 0} (test : K → Bool) (ks : List K) (vs : List CellValue) → at vs (position test ks) ≡ chosen test ks vs
at_position test [] vs = refl
at_position test (k ∷ ks) [] = at_none (position test (k ∷ ks))
at_position {K} test (k ∷ ks) (v ∷ vs) =
    elim (test k) as (λ b. at (v ∷ vs) (cond (ltb (cond (not b) (1 + position_or_len test ks) 0) (length (k ∷ ks))) (Some (cond (not b) (1 + position_or_len test ks) 0)) None) ≡ cond b (Some v) (chosen test ks vs)) [
      | true ↦ ap (λ b. at (v ∷ vs) (cond b (Some 0) None)) (lt-ltb 0 (suc (length ks)) (omega arith))
      | false ↦ at_later v vs (position_or_len test ks) (length ks) (1 + position_or_len test ks) (omega arith) ∙ at_position test ks vs
    ]

-- the cell of a column, where each column has one
pub cell_shown : (ds : List ViewCol) (vs : List CellValue) (c : List ℕ) → length vs ≡ length ds
    → shown_cell ds vs c ≡ cond (has_id shown_id ds c) (Some (beside (λ (d : ViewCol). bytes_eq d.id c) ds vs value.Null)) None
cell_shown ds vs c l = at_position (λ (d : ViewCol). bytes_eq d.id c) ds vs ∙ by ds vs l
  where
    none_left : (n : ℕ) → 0 ≡ suc n → ⊥
    none_left n e = omega arith

    one_less : (m n : ℕ) → suc m ≡ suc n → m ≡ n
    one_less m n e = omega arith

    by : (ds : List ViewCol) (vs : List CellValue) → length vs ≡ length ds
        → chosen (λ (d : ViewCol). bytes_eq d.id c) ds vs ≡ cond (has_id shown_id ds c) (Some (beside (λ (d : ViewCol). bytes_eq d.id c) ds vs value.Null)) None
    by [] vs l = refl
    by (d ∷ ds) [] l = absurd (none_left (length ds) l)
    by (d ∷ ds) (v ∷ vs) l =
        ap (λ o. cond (bytes_eq d.id c) (Some v) o) (by ds vs (one_less (length vs) (length ds) l))
        ∙ elim (bytes_eq d.id c) as (λ b. cond b (Some v) (cond (has_id shown_id ds c) (Some (beside (λ (d : ViewCol). bytes_eq d.id c) ds vs value.Null)) None)
        ≡ cond (b || has_id shown_id ds c) (Some (cond b v (beside (λ (d : ViewCol). bytes_eq d.id c) ds vs value.Null))) None) [ true ↦ refl | false ↦ refl ]

-- ---- what holds of each row

beside_none : (rows : List ℕ) (r : ℕ) → cells_of_row rows [] r ≡ []
beside_none [] r = refl
beside_none (q ∷ rows) r = refl

module _ (ds : List ViewCol) (P : List CellValue → Type 0) where
  pub at_row : (rows : List ℕ) (css : List (List CellValue)) (r : ℕ) → AllByRecursion (λ (w : ShownRow). w.columns ≡ ds → P w.cells) (zipped ds rows css) → has rows r ≡ true → P (cells_of_row rows css r)
  at_row [] css r h there = absurd (false≢true there)
  at_row (q ∷ rows) [] r h there = h.0 refl
  at_row (q ∷ rows) (vs ∷ css) r h there = by (nat_eq q r) there (at_row rows css r h.1)
    where
      by : (b : Bool) → (b || has rows r) ≡ true → (has rows r ≡ true → P (cells_of_row rows css r)) → P (cond b vs (cells_of_row rows css r))
      by true there later = h.0 refl
      by false there later = later there

-- ---- what is gathered

or_else_none : {X : Type 0} (o : Option X) → or_else o None ≡ o
or_else_none None = refl
or_else_none (Some x) = refl

-- what one change adds in front
abbrev pub rows_before : ℕ → Option (List ℕ) → List ℤ → List ℤ
rows_before r None rows = rows
rows_before r (Some text) rows = pos r ∷ rows

abbrev pub texts_before : Option (List ℕ) → List CellValue → List CellValue
texts_before None texts = texts
texts_before (Some text) texts = value.Text text ∷ texts

module _ (f : List ViewCol → List CellValue → TextChange) where
  abbrev pub text_of : ShownRow → Option (List ℕ)
  text_of w = (f w.columns w.cells).text

  -- the last text for a row
  abbrev pub text_for : List ShownRow → ℕ → Option (List ℕ)
  text_for [] r = None
  text_for (w ∷ ws) r = or_else (text_for ws r) (cond (nat_eq w.row r) (text_of w) None)

  abbrev pub rows_asked : List ShownRow → List ℤ
  rows_asked [] = []
  rows_asked (w ∷ ws) = rows_before w.row (text_of w) (rows_asked ws)

  abbrev pub texts_asked : List ShownRow → List CellValue
  texts_asked [] = []
  texts_asked (w ∷ ws) = texts_before (text_of w) (texts_asked ws)

  row_added : (g : RowChanges) (r : ℕ) (o : Option (List ℕ)) (rows : List ℤ) → (with_row g r o).rows ++ rows ≡ g.rows ++ rows_before r o rows
  row_added g r None rows = refl
  row_added g r (Some text) rows = append_assoc g.rows (pos r ∷ []) rows

  text_added : (g : RowChanges) (r : ℕ) (o : Option (List ℕ)) (texts : List CellValue) → (with_row g r o).texts ++ texts ≡ g.texts ++ texts_before o texts
  text_added g r None texts = refl
  text_added g r (Some text) texts = append_assoc g.texts (value.Text text ∷ []) texts

  count_added : (g : RowChanges) (r : ℕ) (o : Option (List ℕ)) → (with_row g r o).unresolved ≡ g.unresolved
  count_added g r None = refl
  count_added g r (Some text) = refl

  abbrev counted : RowChanges → ℕ → RowChanges
  counted g n = record { rows = g.rows; texts = g.texts; unresolved = capped (g.unresolved + n) }

  gathered_rows : (g : RowChanges) (ws : List ShownRow) → (with_changes f g ws).rows ≡ g.rows ++ rows_asked ws
  unfolding with_change
  gathered_rows g [] = sym (append-nil g.rows)
  gathered_rows g (w ∷ ws) =
      gathered_rows (with_change g w.row (f w.columns w.cells)) ws
      ∙ row_added (counted g (f w.columns w.cells).unresolved) w.row (text_of w) (rows_asked ws)

  gathered_texts : (g : RowChanges) (ws : List ShownRow) → (with_changes f g ws).texts ≡ g.texts ++ texts_asked ws
  unfolding with_change
  gathered_texts g [] = sym (append-nil g.texts)
  gathered_texts g (w ∷ ws) =
      gathered_texts (with_change g w.row (f w.columns w.cells)) ws
      ∙ text_added (counted g (f w.columns w.cells).unresolved) w.row (text_of w) (texts_asked ws)

  pub all_rows : (ws : List ShownRow) → (with_changes f no_changes ws).rows ≡ rows_asked ws
  all_rows ws = gathered_rows no_changes ws

  pub all_texts : (ws : List ShownRow) → (with_changes f no_changes ws).texts ≡ texts_asked ws
  all_texts ws = gathered_texts no_changes ws

  -- a count of none is none of each
  none_capped : (n : ℕ) → capped n ≡ 0 → n ≡ 0
  none_capped n h = omega arith

  no_sum : (m n : ℕ) → m + n ≡ 0 → (m ≡ 0) × (n ≡ 0)
  no_sum m n h = (omega arith, omega arith)

  gathered_none : (g : RowChanges) (ws : List ShownRow) → (with_changes f g ws).unresolved ≡ 0 → (g.unresolved ≡ 0) × AllByRecursion (λ (w : ShownRow). (f w.columns w.cells).unresolved ≡ 0) ws
  unfolding with_change
  gathered_none g [] h = (h, tt)
  gathered_none g (w ∷ ws) h =
      let n : ℕ = (f w.columns w.cells).unresolved in
      let later = gathered_none (with_change g w.row (f w.columns w.cells)) ws h in
      let both = no_sum g.unresolved n (none_capped (g.unresolved + n) (sym (count_added (counted g n) w.row (text_of w)) ∙ later.0)) in
      (both.0, (both.1, later.1))

  pub all_none : (ws : List ShownRow) → (with_changes f no_changes ws).unresolved ≡ 0 → AllByRecursion (λ (w : ShownRow). (f w.columns w.cells).unresolved ≡ 0) ws
  all_none ws h = (gathered_none no_changes ws h).1

  -- ---- what an update of these rows puts

  number_kept : (r : ℕ) → nat_lt 0 (unwrap_or (row_number (pos r)) 0) ≡ true → unwrap_or (row_number (pos r)) 0 ≡ r
  number_kept r h = by (nat_le r 4294967295) refl h
    where
      by : (b : Bool) → nat_le r 4294967295 ≡ b → nat_lt 0 (unwrap_or (cond b (Some r) None) 0) ≡ true → unwrap_or (row_number (pos r)) 0 ≡ r
      by true e h = ap (λ b. unwrap_or (cond b (Some r) None) 0) e
      by false e h = absurd (false≢true h)

  pub values_put : (ws : List ShownRow) (r : ℕ) → from_one (row_ids (rows_asked ws)) ≡ true → value_for (row_ids (rows_asked ws)) (texts_asked ws) r ≡ option_map value.Text (text_for ws r)
  values_put [] r h = refl
  values_put (w ∷ ws) r h = by (text_of w) h (values_put ws r)
    where
      added : (o : Option (List ℕ)) (t : List ℕ) (b : Bool) → or_else (option_map value.Text o) (cond b (Some (value.Text t)) None) ≡ option_map value.Text (or_else o (cond b (Some t) None))
      added None t true = refl
      added None t false = refl
      added (Some x) t b = refl

      none_added : (b : Bool) → text_for ws r ≡ or_else (text_for ws r) (cond b None None)
      none_added true = sym (or_else_none (text_for ws r))
      none_added false = sym (or_else_none (text_for ws r))

      by : (o : Option (List ℕ)) → from_one (row_ids (rows_before w.row o (rows_asked ws))) ≡ true
          → (from_one (row_ids (rows_asked ws)) ≡ true → value_for (row_ids (rows_asked ws)) (texts_asked ws) r ≡ option_map value.Text (text_for ws r))
          → value_for (row_ids (rows_before w.row o (rows_asked ws))) (texts_before o (texts_asked ws)) r ≡ option_map value.Text (or_else (text_for ws r) (cond (nat_eq w.row r) o None))
      by None h later = later h ∙ ap (option_map value.Text) (none_added (nat_eq w.row r))
      by (Some t) h later =
          let p = and_parts (nat_lt 0 (unwrap_or (row_number (pos w.row)) 0)) (from_one (row_ids (rows_asked ws))) h in
          ap (λ q. or_else (value_for (row_ids (rows_asked ws)) (texts_asked ws) r) (cond (nat_eq q r) (Some (value.Text t)) None)) (number_kept w.row p.0)
          ∙ ap (λ o. or_else o (cond (nat_eq w.row r) (Some (value.Text t)) None)) (later p.1)
          ∙ added (text_for ws r) t (nat_eq w.row r)

  -- ---- the text for a row is that of its cells

  text_absent : (ds : List ViewCol) (rows : List ℕ) (css : List (List CellValue)) (r : ℕ) → has rows r ≡ false → text_for (zipped ds rows css) r ≡ None
  text_absent ds [] css r h = refl
  text_absent ds (q ∷ rows) [] r h = by (nat_eq q r) h (text_absent ds rows [] r)
    where
      by : (b : Bool) → (b || has rows r) ≡ false → (has rows r ≡ false → text_for (zipped ds rows []) r ≡ None) → or_else (text_for (zipped ds rows []) r) (cond b (f ds []).text None) ≡ None
      by true h later = absurd (false≢true (sym h))
      by false h later = or_else_none (text_for (zipped ds rows []) r) ∙ later h
  text_absent ds (q ∷ rows) (vs ∷ css) r h = by (nat_eq q r) h (text_absent ds rows css r)
    where
      by : (b : Bool) → (b || has rows r) ≡ false → (has rows r ≡ false → text_for (zipped ds rows css) r ≡ None) → or_else (text_for (zipped ds rows css) r) (cond b (f ds vs).text None) ≡ None
      by true h later = absurd (false≢true (sym h))
      by false h later = or_else_none (text_for (zipped ds rows css) r) ∙ later h

  pub text_at : (ds : List ViewCol) (rows : List ℕ) (css : List (List CellValue)) (r : ℕ) → IsAscending rows → has rows r ≡ true → text_for (zipped ds rows css) r ≡ (f ds (cells_of_row rows css r)).text
  text_at ds [] css r up there = absurd (false≢true there)
  text_at ds (q ∷ rows) [] r up there = by (nat_eq q r) refl there (text_at ds rows [] r up.1)
    where
      by : (b : Bool) → nat_eq q r ≡ b → (b || has rows r) ≡ true → (has rows r ≡ true → text_for (zipped ds rows []) r ≡ (f ds (cells_of_row rows [] r)).text) → or_else (text_for (zipped ds rows []) r) (cond b (f ds []).text None) ≡ (f ds []).text
      by true e there later =
          ap (λ o. or_else o (f ds []).text) (text_absent ds rows [] r (subst (λ (x : ℕ). has rows x ≡ false) (eqb-true q r e) (has_below q rows up.0)))
      by false e there later = or_else_none (text_for (zipped ds rows []) r) ∙ later there ∙ ap (λ vs. (f ds vs).text) (beside_none rows r)
  text_at ds (q ∷ rows) (vs ∷ css) r up there = by (nat_eq q r) refl there (text_at ds rows css r up.1)
    where
      by : (b : Bool) → nat_eq q r ≡ b → (b || has rows r) ≡ true → (has rows r ≡ true → text_for (zipped ds rows css) r ≡ (f ds (cells_of_row rows css r)).text)
          → or_else (text_for (zipped ds rows css) r) (cond b (f ds vs).text None) ≡ (f ds (cond b vs (cells_of_row rows css r))).text
      by true e there later =
          ap (λ o. or_else o (f ds vs).text) (text_absent ds rows css r (subst (λ (x : ℕ). has rows x ≡ false) (eqb-true q r e) (has_below q rows up.0)))
      by false e there later = or_else_none (text_for (zipped ds rows css) r) ∙ later there
