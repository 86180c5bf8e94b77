-- A cell of a document with values in its formula cells, by what its column is.
use Rattle.std.proofs.Common.{◌≡◌, ◌∙◌, ℕ, Bool, true, false, cond, ◌&&◌, List, map, Option, Some, None, refl, sym, ap}
use Rattle.std.specs.Option.{is_some, option_map}
use mathlib.Core.Path.{fun_ext}
use Rattle.cell_types.specs.declared.value.CellValue.{CellValue}
use Rattle.doc_model.specs.declared.column.ColDef.{ColDef}
use Rattle.doc_model.specs.ByIds.{find_id, has_id}
use Rattle.doc_model.specs.Column.{column_id}
use Rattle.doc_model.specs.Document.{Table, Document, table_id}
use Rattle.doc_model.specs.Grid.{Grid, cell}
use Rattle.doc_model.specs.Readers.{cell_at}
use Rattle.doc_model.specs.Rows.{has}
use Rattle.doc_model.specs.Schema.{no_grid}
use Rattle.doc_model.proofs.ByIdsLaws.{has_id-find}
use Rattle.formula_eval.specs.Reader.{Told, known, no_table, no_row}
use Rattle.recalc.specs.Cells.{cell_of}
use Rattle.recalc.specs.Evaluated.{base_in, filled_by, formula_in}
use Rattle.recalc.specs.Seen.{value_told}
use Rattle.recalc.specs.Sheet.{told_by}
use Rattle.recalc.proofs.FilledCells.{filled_told}
use Rattle.shot_cells.specs.ShotDocument.{has_formula, is_formula_at}

module _ (v : List ℕ → List ℕ → ℕ → CellValue) (s : Document) (t c : List ℕ) (r : ℕ) where
  -- the value of a formula cell, or what a cell has otherwise
  abbrev chosen : Bool → Option CellValue → Option CellValue
  chosen b o = option_map (λ x. cond b (v t c r) x) o

  by_kind : (f h : Bool) (text : List ℕ) (x : CellValue)
      → value_told (told_by (cond (f && h) (Some text) None) (cond h (known x) no_row) (Some (v t c r))) ≡ chosen f (cond h (Some x) None)
  by_kind true true text x = refl
  by_kind true false text x = refl
  by_kind false true text x = refl
  by_kind false false text x = refl

  abbrev formula_of : Grid ColDef → Option ColDef → Option (List ℕ)
  formula_of g o = elim o as (λ _. Option (List ℕ)) [ None ↦ None | Some d ↦ formula_in g r d ]

  in_column : (g : Grid ColDef) (o : Option ColDef)
      → value_told (told_by (formula_of g o) (base_in g (cell_of t c r) o) (Some (v t c r))) ≡ chosen (has_formula o) (cond (is_some o && has g.rows r) (Some (cell column_id g c r)) None)
  in_column g None = refl
  in_column g (Some d) = by_kind d.info.is_formula (has g.rows r) d.info.formula (cell column_id g c r)

  abbrev formula_told : Option Table → Option (List ℕ)
  formula_told o = elim o as (λ _. Option (List ℕ)) [ None ↦ None | Some u ↦ formula_of u.grid (find_id column_id c u.grid.columns) ]

  abbrev base_told : Option Table → Told
  base_told o = elim o as (λ _. Told) [ None ↦ no_table | Some u ↦ base_in u.grid (cell_of t c r) (find_id column_id c u.grid.columns) ]

  abbrev grid_told : Option Table → Grid ColDef
  grid_told o = elim o as (λ _. Grid ColDef) [ None ↦ no_grid | Some u ↦ u.grid ]

  abbrev cell_told : Option Table → Option CellValue
  cell_told o = elim o as (λ _. Option CellValue) [ None ↦ None | Some u ↦ cond (has_id column_id u.grid.columns c && has u.grid.rows r) (Some (cell column_id u.grid c r)) None ]

  in_table : (o : Option Table)
      → value_told (told_by (formula_told o) (base_told o) (Some (v t c r))) ≡ chosen (has_formula (find_id column_id c (grid_told o).columns)) (cell_told o)
  in_table None = refl
  in_table (Some u) =
      in_column u.grid (find_id column_id c u.grid.columns)
      ∙ ap (λ b. chosen (has_formula (find_id column_id c u.grid.columns)) (cond (b && has u.grid.rows r) (Some (cell column_id u.grid c r)) None)) (sym (has_id-find column_id c u.grid.columns))

  filled_cell : cell_at (filled_by v s) t c r ≡ chosen (is_formula_at s t c) (cell_at s t c r)
  filled_cell = sym (filled_told v s (λ q. Some (v q.table q.column q.row)) t c r (λ f h. refl)) ∙ in_table (find_id table_id t s)

  -- a formula cell, where it is not there and where it is
  pub formula_none : cell_at s t c r ≡ None → None ≡ cell_at (filled_by v s) t c r
  formula_none none = sym (filled_cell ∙ ap (chosen (is_formula_at s t c)) none)

  pub formula_some : (x : CellValue) → cell_at s t c r ≡ Some x → is_formula_at s t c ≡ true → Some (v t c r) ≡ cell_at (filled_by v s) t c r
  formula_some x there is = sym (filled_cell ∙ ap (chosen (is_formula_at s t c)) there ∙ ap (λ b. Some (cond b (v t c r) x)) is)

  kept : (o : Option CellValue) → chosen false o ≡ o
  kept None = refl
  kept (Some x) = refl

  -- any other cell
  pub other_cell : is_formula_at s t c ≡ false → cell_at s t c r ≡ cell_at (filled_by v s) t c r
  other_cell lacks = sym (filled_cell ∙ ap (λ b. chosen b (cell_at s t c r)) lacks ∙ kept (cell_at s t c r))

-- the other cells of a column
pub other_cells : (v : List ℕ → List ℕ → ℕ → CellValue) (s : Document) (t c : List ℕ) → is_formula_at s t c ≡ false → (rows : List ℕ) → map (cell_at s t c) rows ≡ map (cell_at (filled_by v s) t c) rows
other_cells v s t c lacks rows = ap (λ f. map f rows) (fun_ext (λ r. other_cell v s t c r lacks))
