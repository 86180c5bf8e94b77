-- What the cells of a table weigh after a change.
use Rattle.std.proofs.Common.{ℕ, suc, Bool, true, false, cond, not, ◌||◌, ◌&&◌, ◌+◌, ◌*◌, List, [], ◌∷◌, map, filter, ◌≡◌, ◌<◌, ◌≤◌, length, refl, sym, ap, subst, ◌∙◌, Option, Some, None, unwrap_or, eqb, arith}
use Rattle.std.proofs.lemmas.Bool.{false≢true, and_parts, eqb-true}
use Rattle.std.proofs.lemmas.Slice.Eq.{bytes_eq-Decides}
use Rattle.std.specs.List.{AllByRecursion}
use Rattle.std.specs.Str.{bytes_eq}
use Rattle.cell_types.specs.declared.column_type.ColType.{ColType}
use Rattle.cell_types.specs.declared.column_type.ColType.TheVariants as type
use Rattle.cell_types.specs.declared.value.CellValue.{CellValue}
use Rattle.doc_model.specs.declared.column.CellColumn.{CellColumn}
use Rattle.doc_model.specs.declared.column.ColDef.{ColDef}
use Rattle.doc_model.specs.ByIds.{find_id, has_id, AreDistinct}
use Rattle.doc_model.specs.Rows.{has, insert_rows, without, has_no_duplicates, all_in, none_in}
use Rattle.doc_model.specs.Grid.{Grid, grid_of, IsGrid, cell}
use Rattle.doc_model.specs.Records.{or_else, value_for, given, given_id, add_rows, update_rows, remove_rows}
use Rattle.doc_model.specs.Column.{column_id, start_of}
use Rattle.cell_types.specs.Conversion.{default_value}
use Rattle.doc_model.specs.Counts.{total, value_weight, row_weight, formula_bytes, grid_weight}
use Rattle.doc_model.proofs.Choices.{not_true, each_weaker, map-map}
use Rattle.doc_model.proofs.ByIdsLaws.{bytes_apart, found_has, has_apart, each_found}
use Rattle.doc_model.proofs.RowsLaws.{each_has, has-filter}
use Rattle.doc_model.proofs.GridLaws.{grid_of-cell}
use Rattle.doc_model.proofs.RecordsLaws.{value_for_absent, given_unnamed}
use Rattle.doc_model.proofs.TotalsLaws.{sum_of, total-same, total-plus, total-zero, total-swap, total-none, total-one, total-insert_rows, total-without}

abbrev at : Grid ColDef → List ℕ → ℕ → CellValue
at g c r = cell column_id g c r

-- the weights of cells given by a function, row by row
abbrev pub weights : List ColDef → List ℕ → (ColDef → ℕ → CellValue) → ℕ
weights cs rs f = sum_of (λ r. sum_of (λ d. value_weight (f d r)) cs) rs

filled_weight : (cs : List ColDef) (rs : List ℕ) (f : ColDef → ℕ → CellValue) → sum_of row_weight (map (λ r. map (λ d. f d r) cs) rs) ≡ weights cs rs f
filled_weight cs [] f = refl
filled_weight cs (r ∷ rs) f = ap (λ n. total (map value_weight (map (λ d. f d r) cs)) + n) (filled_weight cs rs f) ∙ ap (λ ns. total ns + weights cs rs f) (sym (map-map value_weight (λ d. f d r) cs))

pub grid_weight-grid_of : (cs : List ColDef) (rs : List ℕ) (f : ColDef → ℕ → CellValue) → grid_weight (grid_of cs rs f) ≡ weights cs rs f + sum_of formula_bytes cs
grid_weight-grid_of cs rs f = ap (λ n. n + sum_of formula_bytes cs) (filled_weight cs rs f)

-- a grid weighs what its cells weigh
pub grid_weight-own : (g : Grid ColDef) → IsGrid column_id g → grid_weight g ≡ weights g.columns g.rows (λ d r. at g d.id r) + sum_of formula_bytes g.columns
grid_weight-own g s = ap grid_weight (sym (grid_of-cell column_id g s)) ∙ grid_weight-grid_of g.columns g.rows (λ d r. at g d.id r)

pub start_weight : (d : ColDef) → value_weight (start_of d) ≡ 0
start_weight d = elim d.info.is_formula as (λ b. value_weight (cond b Rattle.cell_types.specs.declared.value.CellValue.TheVariants.Null (default_value d.info.ty)) ≡ 0) [ true ↦ refl | false ↦ default_weight d.info.ty ]
  where
    default_weight : (t : ColType) → value_weight (default_value t) ≡ 0
    default_weight type.Any = refl
    default_weight type.Text = refl
    default_weight type.Int = refl
    default_weight type.Bool = refl
    default_weight type.Date = refl
    default_weight (type.Ref t) = refl
    default_weight (type.RefList t) = refl

-- the values beside rows weigh what the values weigh
beside_weight : (rows : List ℕ) (vs : List CellValue) (x : ℕ → CellValue) → has_no_duplicates rows ≡ true → length vs ≡ length rows
    → sum_of (λ r. value_weight (unwrap_or (value_for rows vs r) (x r))) rows ≡ row_weight vs
beside_weight [] [] x o e = refl
beside_weight [] (v ∷ vs) x o e = absurd (omega arith)
beside_weight (q ∷ rows) [] x o e = absurd (omega arith)
beside_weight (q ∷ rows) (v ∷ vs) x o e =
    let once : (not (has rows q) ≡ true) × (has_no_duplicates rows ≡ true) = and_parts (not (has rows q)) (has_no_duplicates rows) o in
    let absent : has rows q ≡ false = not_true (has rows q) once.0 in
    let first : value_weight (unwrap_or (or_else (value_for rows vs q) (cond (eqb q q) (Some v) None)) (x q)) ≡ value_weight v
    = ap (λ p. value_weight (unwrap_or (or_else p (cond (eqb q q) (Some v) None)) (x q))) (value_for_absent rows vs q absent)
    ∙ ap (λ b. value_weight (unwrap_or (or_else None (cond b (Some v) None)) (x q))) (Rattle.doc_model.proofs.RowsLaws.number_itself q) in
    let rest : sum_of (λ r. value_weight (unwrap_or (or_else (value_for rows vs r) (cond (eqb q r) (Some v) None)) (x r))) rows ≡ sum_of (λ r. value_weight (unwrap_or (value_for rows vs r) (x r))) rows
    = total-same (λ r. value_weight (unwrap_or (or_else (value_for rows vs r) (cond (eqb q r) (Some v) None)) (x r))) (λ r. value_weight (unwrap_or (value_for rows vs r) (x r))) rows
    (each_has (λ r. value_weight (unwrap_or (or_else (value_for rows vs r) (cond (eqb q r) (Some v) None)) (x r)) ≡ value_weight (unwrap_or (value_for rows vs r) (x r))) rows (λ r here.
    ap (λ b. value_weight (unwrap_or (or_else (value_for rows vs r) (cond b (Some v) None)) (x r))) (apart r absent here)
    ∙ ap (λ p. value_weight (unwrap_or p (x r))) (or_none (value_for rows vs r)))) in
    let later : sum_of (λ r. value_weight (unwrap_or (value_for rows vs r) (x r))) rows ≡ row_weight vs = beside_weight rows vs x once.1 (omega arith) in
    omega arith
  where
    or_none : (o : Option CellValue) → or_else o None ≡ o
    or_none None = refl
    or_none (Some y) = refl

    apart : (r : ℕ) → has rows q ≡ false → has rows r ≡ true → eqb q r ≡ false
    apart r absent here =
        elim (eqb q r) as (λ b. eqb q r ≡ b → b ≡ false) [
          | true ↦ λ is. absurd (false≢true (sym absent ∙ ap (has rows) (eqb-true q r is) ∙ here))
          | false ↦ λ _. refl
        ] refl

-- what one column is given, where columns are given once
given_one : (rows : List ℕ) (ks : List CellColumn) (c : List ℕ) (k : CellColumn) (r : ℕ) → AreDistinct given_id ks → find_id given_id c ks ≡ Some k → given rows ks c r ≡ value_for rows k.values r
given_one rows [] c k r d e = absurd (cc)
given_one rows (j ∷ ks) c k r d e =
    elim (bytes_eq j.id c) as (λ b. bytes_eq j.id c ≡ b → cond b (Some j) (find_id given_id c ks) ≡ Some k → or_else (given rows ks c r) (cond b (value_for rows j.values r) None) ≡ value_for rows k.values r) [
      | true ↦ λ is e.
          let same : j ≡ k = cc in
          ap (λ o. or_else o (value_for rows j.values r)) (given_unnamed rows ks c r (has_apart given_id c ks (subst (λ n. AllByRecursion (λ z. bytes_eq n (given_id z) ≡ false) ks) ((bytes_eq-Decides j.id c).0 is) d.0)))
          ∙ ap (λ z. value_for rows z.values r) same
      | false ↦ λ _ e. or_none (given rows ks c r) ∙ given_one rows ks c k r d.1 e
    ] refl e
  where
    or_none : (o : Option CellValue) → or_else o None ≡ o
    or_none None = refl
    or_none (Some y) = refl

bytes_eq_sym : (a b : List ℕ) → bytes_eq a b ≡ bytes_eq b a
bytes_eq_sym a b =
    elim (bytes_eq b a) as (λ x. bytes_eq b a ≡ x → bytes_eq a b ≡ x) [
      | true ↦ λ is. (bytes_eq-Decides a b).1 (sym ((bytes_eq-Decides b a).0 is))
      | false ↦ λ apart. bytes_apart b a apart
    ] refl

-- of each column the amount of what is given to it: in all the amounts of all given
per_column : (cs : List ColDef) (ks : List CellColumn) (m : CellColumn → ℕ) → AreDistinct column_id cs → AllByRecursion (λ k. has_id column_id cs k.id ≡ true) ks
    → sum_of (λ d. sum_of (λ k. cond (bytes_eq k.id d.id) (m k) 0) ks) cs ≡ sum_of m ks
per_column cs ks m d h =
    total-swap (λ (d : ColDef) (k : CellColumn). cond (bytes_eq k.id d.id) (m k) 0) cs ks
    ∙ total-same (λ k. sum_of (λ d. cond (bytes_eq k.id d.id) (m k) 0) cs) m ks (each_weaker (λ k. has_id column_id cs k.id ≡ true) (λ k. sum_of (λ (d : ColDef). cond (bytes_eq k.id d.id) (m k) 0) cs ≡ m k) (λ k there.
    total-same (λ d. cond (bytes_eq k.id d.id) (m k) 0) (λ d. cond (bytes_eq d.id k.id) (m k) 0) cs (turned k cs)
    ∙ total-one column_id (λ _. m k) k.id cs (found_has column_id k.id cs there).0 d (found_has column_id k.id cs there).1) ks h)
  where
    turned : (k : CellColumn) (cs : List ColDef) → AllByRecursion (λ (d : ColDef). cond (bytes_eq k.id d.id) (m k) 0 ≡ cond (bytes_eq d.id k.id) (m k) 0) cs
    turned k [] = tt
    turned k (d ∷ cs) = (ap (λ b. cond b (m k) 0) (bytes_eq_sym k.id d.id), turned k cs)

-- what an action gives weighs
abbrev pub given_weight : List CellColumn → ℕ
given_weight ks = sum_of (λ (k : CellColumn). row_weight k.values) ks

module _ (g : Grid ColDef) (s : IsGrid column_id g) (rows : List ℕ) (once : has_no_duplicates rows ≡ true) where
  abbrev own : ColDef → ℕ → CellValue
  own d r = at g d.id r

  pub weight-remove_rows : all_in rows g.rows ≡ true → grid_weight (remove_rows column_id rows g) + weights g.columns rows own ≡ grid_weight g
  weight-remove_rows there =
      let left : grid_weight (remove_rows column_id rows g) ≡ weights g.columns (without rows g.rows) own + sum_of formula_bytes g.columns = grid_weight-grid_of g.columns (without rows g.rows) own in
      let all : grid_weight g ≡ weights g.columns g.rows own + sum_of formula_bytes g.columns = grid_weight-own g s in
      let sum : weights g.columns (without rows g.rows) own + weights g.columns rows own ≡ weights g.columns g.rows own = total-without (λ r. sum_of (λ d. value_weight (own d r)) g.columns) rows g.rows s.ascending once there in
      omega arith

  module _ (ks : List CellColumn) (distinct : AreDistinct given_id ks) (there : AllByRecursion (λ k. has_id column_id g.columns k.id ≡ true) ks) (lengths : AllByRecursion (λ k. length k.values ≡ length rows) ks) where
    length_of : (c : List ℕ) (k : CellColumn) → find_id given_id c ks ≡ Some k → length k.values ≡ length rows
    length_of c k e = Rattle.doc_model.proofs.ByIdsLaws.found_all given_id (λ k. length k.values ≡ length rows) c ks k lengths e

    abbrev picked : (CellColumn → ℕ) → ColDef → ℕ
    picked m d = sum_of (λ k. cond (bytes_eq k.id d.id) (m k) 0) ks

    -- a new row's cells weigh what they are given
    add_column_weight : (d : ColDef) → sum_of (λ r. value_weight (unwrap_or (given rows ks d.id r) (start_of d))) rows ≡ picked (λ k. row_weight k.values) d
    add_column_weight d = by (find_id given_id d.id ks) refl
      where
        none_of : find_id given_id d.id ks ≡ None → has_id given_id ks d.id ≡ false
        none_of e = Rattle.doc_model.proofs.ByIdsLaws.has_id-find given_id d.id ks ∙ ap Rattle.std.proofs.Common.is_some e

        by : (o : Option CellColumn) → find_id given_id d.id ks ≡ o → sum_of (λ r. value_weight (unwrap_or (given rows ks d.id r) (start_of d))) rows ≡ picked (λ k. row_weight k.values) d
        by None e =
            total-zero (λ r. value_weight (unwrap_or (given rows ks d.id r) (start_of d))) rows (each_has (λ r. value_weight (unwrap_or (given rows ks d.id r) (start_of d)) ≡ 0) rows (λ r here.
            ap (λ o. value_weight (unwrap_or o (start_of d))) (given_unnamed rows ks d.id r (none_of e)) ∙ start_weight d))
            ∙ sym (total-none given_id (λ k. row_weight k.values) d.id ks (none_of e))
        by (Some k) e =
            total-same (λ r. value_weight (unwrap_or (given rows ks d.id r) (start_of d))) (λ r. value_weight (unwrap_or (value_for rows k.values r) (start_of d))) rows
            (each_has (λ r. value_weight (unwrap_or (given rows ks d.id r) (start_of d)) ≡ value_weight (unwrap_or (value_for rows k.values r) (start_of d))) rows (λ r here. ap (λ o. value_weight (unwrap_or o (start_of d))) (given_one rows ks d.id k r distinct e)))
            ∙ beside_weight rows k.values (λ _. start_of d) once (length_of d.id k e)
            ∙ sym (total-one given_id (λ k. row_weight k.values) d.id ks k distinct e)

    pub weight-add_rows : none_in rows g.rows ≡ true → grid_weight (add_rows column_id start_of rows ks g) ≡ grid_weight g + given_weight ks
    weight-add_rows fresh =
        let f : ColDef → ℕ → CellValue = λ d r. cond (has rows r) (unwrap_or (given rows ks d.id r) (start_of d)) (own d r) in
        let new : ColDef → ℕ → CellValue = λ d r. unwrap_or (given rows ks d.id r) (start_of d) in
        let all : grid_weight (add_rows column_id start_of rows ks g) ≡ weights g.columns (insert_rows rows g.rows) f + sum_of formula_bytes g.columns = grid_weight-grid_of g.columns (insert_rows rows g.rows) f in
        let old : grid_weight g ≡ weights g.columns g.rows own + sum_of formula_bytes g.columns = grid_weight-own g s in
        let split : weights g.columns (insert_rows rows g.rows) f ≡ weights g.columns rows f + weights g.columns g.rows f = total-insert_rows (λ r. sum_of (λ d. value_weight (f d r)) g.columns) rows g.rows once fresh in
        let here : weights g.columns rows f ≡ weights g.columns rows new
        = total-same (λ r. sum_of (λ d. value_weight (f d r)) g.columns) (λ r. sum_of (λ d. value_weight (new d r)) g.columns) rows
        (each_has (λ r. sum_of (λ d. value_weight (f d r)) g.columns ≡ sum_of (λ d. value_weight (new d r)) g.columns) rows (λ r is.
        ap (λ b. sum_of (λ d. value_weight (cond b (new d r) (own d r))) g.columns) is)) in
        let there' : weights g.columns g.rows f ≡ weights g.columns g.rows own
        = total-same (λ r. sum_of (λ d. value_weight (f d r)) g.columns) (λ r. sum_of (λ d. value_weight (own d r)) g.columns) g.rows
        (each_has (λ r. sum_of (λ d. value_weight (f d r)) g.columns ≡ sum_of (λ d. value_weight (own d r)) g.columns) g.rows (λ r is.
        ap (λ b. sum_of (λ d. value_weight (cond b (new d r) (own d r))) g.columns) (out r is fresh))) in
        let given' : weights g.columns rows new ≡ given_weight ks
        = total-swap (λ r (d : ColDef). value_weight (new d r)) rows g.columns
        ∙ total-same (λ d. sum_of (λ r. value_weight (new d r)) rows) (picked (λ k. row_weight k.values)) g.columns (each g.columns)
        ∙ per_column g.columns ks (λ k. row_weight k.values) s.distinct there in
        omega arith
      where
        out : (r : ℕ) → has g.rows r ≡ true → none_in rows g.rows ≡ true → has rows r ≡ false
        out r is fresh =
            elim (has rows r) as (λ b. has rows r ≡ b → b ≡ false) [
              | true ↦ λ h. absurd (false≢true (sym (Rattle.doc_model.proofs.RowsLaws.none_in_at rows g.rows r fresh h) ∙ is))
              | false ↦ λ _. refl
            ] refl

        each : (cs : List ColDef) → AllByRecursion (λ d. sum_of (λ r. value_weight (unwrap_or (given rows ks d.id r) (start_of d))) rows ≡ picked (λ k. row_weight k.values) d) cs
        each [] = tt
        each (d ∷ cs) = (add_column_weight d, each cs)

  -- ---- cells written

  module _ (ks : List CellColumn) (distinct : AreDistinct given_id ks) (named : AllByRecursion (λ k. has_id column_id g.columns k.id ≡ true) ks) (lengths : AllByRecursion (λ k. length k.values ≡ length rows) ks) (there : all_in rows g.rows ≡ true) where
    -- what the cells that an action writes weigh before
    abbrev pub old_weight : CellColumn → ℕ
    old_weight k = sum_of (λ r. value_weight (at g k.id r)) rows

    abbrev written : ColDef → ℕ → CellValue
    written d r = unwrap_or (given rows ks d.id r) (own d r)

    one_column : (d : ColDef) → sum_of (λ r. value_weight (written d r)) g.rows + sum_of (λ (k : CellColumn). cond (bytes_eq k.id d.id) (old_weight k) 0) ks
        ≡ sum_of (λ r. value_weight (own d r)) g.rows + sum_of (λ (k : CellColumn). cond (bytes_eq k.id d.id) (row_weight k.values) 0) ks
    one_column d = by (find_id given_id d.id ks) refl
      where
        none_of : find_id given_id d.id ks ≡ None → has_id given_id ks d.id ≡ false
        none_of e = Rattle.doc_model.proofs.ByIdsLaws.has_id-find given_id d.id ks ∙ ap Rattle.std.proofs.Common.is_some e

        by : (o : Option CellColumn) → find_id given_id d.id ks ≡ o → sum_of (λ r. value_weight (written d r)) g.rows + sum_of (λ (k : CellColumn). cond (bytes_eq k.id d.id) (old_weight k) 0) ks
            ≡ sum_of (λ r. value_weight (own d r)) g.rows + sum_of (λ (k : CellColumn). cond (bytes_eq k.id d.id) (row_weight k.values) 0) ks
        by None e =
            let same : sum_of (λ r. value_weight (written d r)) g.rows ≡ sum_of (λ r. value_weight (own d r)) g.rows
            = total-same (λ r. value_weight (written d r)) (λ r. value_weight (own d r)) g.rows (each_has (λ r. value_weight (written d r) ≡ value_weight (own d r)) g.rows (λ r here. ap (λ o. value_weight (unwrap_or o (own d r))) (given_unnamed rows ks d.id r (none_of e)))) in
            let none_old : sum_of (λ (k : CellColumn). cond (bytes_eq k.id d.id) (old_weight k) 0) ks ≡ 0 = total-none given_id old_weight d.id ks (none_of e) in
            let none_new : sum_of (λ (k : CellColumn). cond (bytes_eq k.id d.id) (row_weight k.values) 0) ks ≡ 0 = total-none given_id (λ k. row_weight k.values) d.id ks (none_of e) in
            omega arith
        by (Some k) e =
            let name : k.id ≡ d.id = Rattle.doc_model.proofs.ByIdsLaws.found_id given_id d.id ks k e in
            let h : ℕ → ℕ = λ r. value_weight (written d r) in
            let h0 : ℕ → ℕ = λ r. value_weight (own d r) in
            let new_split : sum_of h (without rows g.rows) + sum_of h rows ≡ sum_of h g.rows = total-without h rows g.rows s.ascending once there in
            let old_split : sum_of h0 (without rows g.rows) + sum_of h0 rows ≡ sum_of h0 g.rows = total-without h0 rows g.rows s.ascending once there in
            let outside : sum_of h (without rows g.rows) ≡ sum_of h0 (without rows g.rows)
            = total-same h h0 (without rows g.rows) (each_has (λ r. h r ≡ h0 r) (without rows g.rows) (λ r here.
            ap (λ o. value_weight (unwrap_or o (own d r))) (Rattle.doc_model.proofs.RecordsLaws.given_absent rows ks d.id r
            (not_true (has rows r) (and_parts (not (has rows r)) (has g.rows r) (sym (has-filter (λ q. not (has rows q)) g.rows r) ∙ here)).0)))) in
            let inside : sum_of h rows ≡ row_weight k.values
            = total-same h (λ r. value_weight (unwrap_or (value_for rows k.values r) (own d r))) rows
            (each_has (λ r. h r ≡ value_weight (unwrap_or (value_for rows k.values r) (own d r))) rows (λ r here. ap (λ o. value_weight (unwrap_or o (own d r))) (given_one rows ks d.id k r distinct e)))
            ∙ beside_weight rows k.values (own d) once (Rattle.doc_model.proofs.ByIdsLaws.found_all given_id (λ k. length k.values ≡ length rows) d.id ks k lengths e) in
            let pick_new : sum_of (λ (k : CellColumn). cond (bytes_eq k.id d.id) (row_weight k.values) 0) ks ≡ row_weight k.values = total-one given_id (λ k. row_weight k.values) d.id ks k distinct e in
            let pick_old : sum_of (λ (k : CellColumn). cond (bytes_eq k.id d.id) (old_weight k) 0) ks ≡ sum_of h0 rows = total-one given_id old_weight d.id ks k distinct e ∙ ap (λ n. sum_of (λ r. value_weight (at g n r)) rows) name in
            omega arith

    pub weight-update_rows : grid_weight (update_rows column_id rows ks g) + sum_of old_weight ks ≡ grid_weight g + given_weight ks
    weight-update_rows =
        let all : grid_weight (update_rows column_id rows ks g) ≡ weights g.columns g.rows written + sum_of formula_bytes g.columns = grid_weight-grid_of g.columns g.rows written in
        let old : grid_weight g ≡ weights g.columns g.rows own + sum_of formula_bytes g.columns = grid_weight-own g s in
        let new_swap : weights g.columns g.rows written ≡ sum_of (λ d. sum_of (λ r. value_weight (written d r)) g.rows) g.columns = total-swap (λ r (d : ColDef). value_weight (written d r)) g.rows g.columns in
        let old_swap : weights g.columns g.rows own ≡ sum_of (λ d. sum_of (λ r. value_weight (own d r)) g.rows) g.columns = total-swap (λ r (d : ColDef). value_weight (own d r)) g.rows g.columns in
        let picks_old : sum_of (λ d. sum_of (λ (k : CellColumn). cond (bytes_eq k.id d.id) (old_weight k) 0) ks) g.columns ≡ sum_of old_weight ks = per_column g.columns ks old_weight s.distinct named in
        let picks_new : sum_of (λ d. sum_of (λ (k : CellColumn). cond (bytes_eq k.id d.id) (row_weight k.values) 0) ks) g.columns ≡ given_weight ks = per_column g.columns ks (λ k. row_weight k.values) s.distinct named in
        let left : sum_of (λ d. sum_of (λ r. value_weight (written d r)) g.rows + sum_of (λ (k : CellColumn). cond (bytes_eq k.id d.id) (old_weight k) 0) ks) g.columns
        ≡ sum_of (λ d. sum_of (λ r. value_weight (written d r)) g.rows) g.columns + sum_of (λ d. sum_of (λ (k : CellColumn). cond (bytes_eq k.id d.id) (old_weight k) 0) ks) g.columns
        = total-plus (λ d. sum_of (λ r. value_weight (written d r)) g.rows) (λ d. sum_of (λ (k : CellColumn). cond (bytes_eq k.id d.id) (old_weight k) 0) ks) g.columns in
        let right : sum_of (λ d. sum_of (λ r. value_weight (own d r)) g.rows + sum_of (λ (k : CellColumn). cond (bytes_eq k.id d.id) (row_weight k.values) 0) ks) g.columns
        ≡ sum_of (λ d. sum_of (λ r. value_weight (own d r)) g.rows) g.columns + sum_of (λ d. sum_of (λ (k : CellColumn). cond (bytes_eq k.id d.id) (row_weight k.values) 0) ks) g.columns
        = total-plus (λ d. sum_of (λ r. value_weight (own d r)) g.rows) (λ d. sum_of (λ (k : CellColumn). cond (bytes_eq k.id d.id) (row_weight k.values) 0) ks) g.columns in
        let same : sum_of (λ d. sum_of (λ r. value_weight (written d r)) g.rows + sum_of (λ (k : CellColumn). cond (bytes_eq k.id d.id) (old_weight k) 0) ks) g.columns
        ≡ sum_of (λ d. sum_of (λ r. value_weight (own d r)) g.rows + sum_of (λ (k : CellColumn). cond (bytes_eq k.id d.id) (row_weight k.values) 0) ks) g.columns
        = total-same (λ d. sum_of (λ r. value_weight (written d r)) g.rows + sum_of (λ (k : CellColumn). cond (bytes_eq k.id d.id) (old_weight k) 0) ks)
        (λ d. sum_of (λ r. value_weight (own d r)) g.rows + sum_of (λ (k : CellColumn). cond (bytes_eq k.id d.id) (row_weight k.values) 0) ks) g.columns (each g.columns) in
        omega arith
      where
        each : (cs : List ColDef) → AllByRecursion (λ d. sum_of (λ r. value_weight (written d r)) g.rows + sum_of (λ (k : CellColumn). cond (bytes_eq k.id d.id) (old_weight k) 0) ks
            ≡ sum_of (λ r. value_weight (own d r)) g.rows + sum_of (λ (k : CellColumn). cond (bytes_eq k.id d.id) (row_weight k.values) 0) ks) cs
        each [] = tt
        each (d ∷ cs) = (one_column d, each cs)
