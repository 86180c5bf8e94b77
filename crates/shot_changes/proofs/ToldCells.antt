-- The formula cells that steps, rows and documents tell of.
use Rattle.std.proofs.Common.{◌≡◌, ◌∙◌, ℕ, Bool, true, false, cond, ◌||◌, ◌&&◌, nat_eq, List, [], ◌∷◌, map, find, Option, Some, None, is_some, refl, sym, ap}
use Rattle.std.proofs.Math.Bool.{or-true}
use Rattle.std.proofs.lemmas.Bool.{false≢true}
use Rattle.std.proofs.lemmas.List.Folds.{list_any-append}
use Rattle.std.proofs.lemmas.Slice.Eq.{bytes_eq-Decides}
use Rattle.std.specs.List.{flat_map, list_any}
use Rattle.std.specs.Option.{option_map}
use Rattle.std.specs.Str.{bytes_eq}
use Rattle.cell_types.specs.declared.cell.CellId.{CellId}
use Rattle.cell_types.specs.declared.cell.CellOld.{CellOld}
use Rattle.cell_types.specs.declared.value.CellValue.{CellValue}
use Rattle.doc_model.specs.declared.column.ColDef.{ColDef}
use Rattle.doc_model.specs.ByIds.{find_id, has_id}
use Rattle.doc_model.specs.Column.{column_id}
use Rattle.doc_model.specs.Document.{Document, Table, table_id}
use Rattle.doc_model.specs.Readers.{cell_at}
use Rattle.doc_model.specs.Rows.{has}
use Rattle.doc_model.proofs.ByIdsLaws.{bytes_itself, has_id-find, has_id-map}
use Rattle.doc_model.proofs.Choices.{both_true, or_false}
use Rattle.doc_readers.specs.Parts.{grid_at}
use Rattle.recalc.specs.Cells.{cell_of}
use Rattle.action_censor.specs.Back.{held_before}
use Rattle.action_censor.specs.Step.{is_in_row}
use Rattle.shot_cells.specs.Places.{is_cell}
use Rattle.shot_cells.specs.ShotDocument.{has_formula, is_formula_at}
use Rattle.shot_changes.specs.NotedCells.{column_cells, document_cells, has_cell, lost_cell, row_cells, table_cells}
use Rattle.shot_changes.proofs.FilledCells.{cell_at-grid, cell_of_grid, parts_of}
use Rattle.shot_changes.proofs.SeenCells.{cell_is}

-- ---- cells of columns in rows

turned : (a b c : Bool) → ((a && b) && c) ≡ (a && (c && b))
turned true true true = refl
turned true true false = refl
turned true false true = refl
turned true false false = refl
turned false b c = refl

-- where one of a list tells of the cell
any_told : {X : Type 0} (f : X → List CellId) (p : X → Bool) (t k : List ℕ) (r : ℕ) → ((x : X) → p x ≡ true → has_cell (f x) t k r ≡ true)
    → (xs : List X) → list_any p xs ≡ true → has_cell (flat_map f xs) t k r ≡ true
any_told f p t k r tells [] is = absurd (false≢true is)
any_told f p t k r tells (x ∷ xs) is =
    list_any-append (λ c. is_cell c t k r) (f x) (flat_map f xs)
    ∙ elim (p x) as (λ b. p x ≡ b → (b || list_any p xs) ≡ true → (has_cell (f x) t k r || has_cell (flat_map f xs) t k r) ≡ true) [
      | true ↦ λ first _. ap (λ b. b || has_cell (flat_map f xs) t k r) (tells x first)
      | false ↦ λ _ later. ap (λ b. has_cell (f x) t k r || b) (any_told f p t k r tells xs later) ∙ or-true (has_cell (f x) t k r)
    ] refl is

module _ (t k : List ℕ) (r : ℕ) where
  in_cells : (rows : List ℕ) → has rows r ≡ true → has_cell (map (cell_of t k) rows) t k r ≡ true
  in_cells [] here = absurd (false≢true here)
  in_cells (q ∷ rows) here =
      elim (nat_eq q r) as (λ b. nat_eq q r ≡ b → (b || has rows r) ≡ true → (is_cell (cell_of t k q) t k r || has_cell (map (cell_of t k) rows) t k r) ≡ true) [
        | true ↦ λ is _. ap (λ b. b || has_cell (map (cell_of t k) rows) t k r) (both_true (bytes_eq t t) (bytes_eq k k && nat_eq q r) (bytes_itself t) (both_true (bytes_eq k k) (nat_eq q r) (bytes_itself k) is))
        | false ↦ λ _ later. ap (λ b. is_cell (cell_of t k q) t k r || b) (in_cells rows later) ∙ or-true (is_cell (cell_of t k q) t k r)
      ] refl here

  in_columns : (rows : List ℕ) → has rows r ≡ true → (ds : List ColDef) → has_formula (find_id column_id k ds) ≡ true → has_cell (flat_map (column_cells t rows) ds) t k r ≡ true
  in_columns rows here [] is = absurd (false≢true is)
  in_columns rows here (d ∷ ds) is =
      list_any-append (λ c. is_cell c t k r) (column_cells t rows d) (flat_map (column_cells t rows) ds)
      ∙ elim (bytes_eq d.id k) as (λ b. bytes_eq d.id k ≡ b → has_formula (cond b (Some d) (find_id column_id k ds)) ≡ true
      → (has_cell (column_cells t rows d) t k r || has_cell (flat_map (column_cells t rows) ds) t k r) ≡ true) [
        | true ↦ λ named is.
            ap (λ b. b || has_cell (flat_map (column_cells t rows) ds) t k r)
            (ap (λ b. has_cell (cond b (map (cell_of t d.id) rows) []) t k r) is
            ∙ ap (λ n. has_cell (map (cell_of t n) rows) t k r) ((bytes_eq-Decides d.id k).0 named) ∙ in_cells rows here)
        | false ↦ λ _ is. ap (λ b. has_cell (column_cells t rows d) t k r || b) (in_columns rows here ds is) ∙ or-true (has_cell (column_cells t rows d) t k r)
      ] refl is

  -- a formula cell in one of these rows is told of
  pub in_rows : (d : Document) (rows : List ℕ) → is_formula_at d t k ≡ true → has rows r ≡ true → has_cell (row_cells d t rows) t k r ≡ true
  in_rows d rows is here = in_columns rows here (grid_at d t).columns is

-- ---- cells that a step lost

module _ (d : Document) (t k : List ℕ) (r : ℕ) (formula : is_formula_at d t k ≡ true) where
  lost_one : (o : CellOld) → has_cell (lost_cell d o) t k r ≡ is_cell o.cell t k r
  lost_one o = by (is_cell o.cell t k r) refl (is_formula_at d o.cell.table o.cell.column) refl
    where
      by : (b : Bool) → is_cell o.cell t k r ≡ b → (f : Bool) → is_formula_at d o.cell.table o.cell.column ≡ f → has_cell (cond f (o.cell ∷ []) []) t k r ≡ is_cell o.cell t k r
      by b is true e = or_false (is_cell o.cell t k r)
      by true is false e = absurd (false≢true (sym e ∙ ap (λ (c : CellId). is_formula_at d c.table c.column) (cell_is t k r o.cell is) ∙ formula))
      by false is false e = sym is

  -- what a step tells that it held is the cell told of
  pub held_told : (cells : List CellOld) → is_some (held_before cells t k r) ≡ has_cell (flat_map (lost_cell d) cells) t k r
  held_told [] = refl
  held_told (o ∷ cells) =
      ap (λ b. is_some (option_map (λ (o : CellOld). o.old) (cond b (Some o) (find (λ (o : CellOld). is_in_row t r o && bytes_eq o.cell.column k) cells))))
      (turned (bytes_eq o.cell.table t) (nat_eq o.cell.row r) (bytes_eq o.cell.column k))
      ∙ by (is_cell o.cell t k r)
      ∙ ap (λ b. is_cell o.cell t k r || b) (held_told cells)
      ∙ ap (λ b. b || has_cell (flat_map (lost_cell d) cells) t k r) (sym (lost_one o))
      ∙ sym (list_any-append (λ c. is_cell c t k r) (lost_cell d o) (flat_map (lost_cell d) cells))
    where
      by : (b : Bool) → is_some (option_map (λ (o : CellOld). o.old) (cond b (Some o) (find (λ (o : CellOld). is_in_row t r o && bytes_eq o.cell.column k) cells))) ≡ (b || is_some (held_before cells t k r))
      by true = refl
      by false = refl

-- ---- all formula cells

pub all_told : (d : Document) (t k : List ℕ) (r : ℕ) (x : CellValue) → is_formula_at d t k ≡ true → cell_at d t k r ≡ Some x → has_cell (document_cells d) t k r ≡ true
all_told d t k r x is at =
    any_told (table_cells d) (λ n. bytes_eq n t) t k r (λ n same. ap (λ m. has_cell (table_cells d m) t k r) ((bytes_eq-Decides n t).0 same) ∙ in_rows t k r d (grid_at d t).rows is here)
    (map table_id d) (has_id-map (λ n. n) table_id d t ∙ there)
  where
    here : has (grid_at d t).rows r ≡ true
    here = (parts_of (grid_at d t) k r x (sym (cell_at-grid d t k r) ∙ at)).1.0

    there : has_id table_id d t ≡ true
    there =
        has_id-find table_id t d
        ∙ elim (find_id table_id t d) as (λ (o : Option Table). elim o as (λ _. Option CellValue) [ None ↦ None | Some u ↦ cell_of_grid u.grid k r ] ≡ Some x → is_some o ≡ true) [
          | None ↦ λ e. absurd (cc)
          | Some u ↦ λ _. refl
        ] at
