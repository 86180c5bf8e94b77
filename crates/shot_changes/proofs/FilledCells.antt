-- Documents filled with values, cell by cell.
use Rattle.std.proofs.Common.{◌≡◌, ◌∙◌, ℕ, Bool, true, false, cond, ◌&&◌, List, Option, Some, None, refl, sym, ap}
use Rattle.std.specs.Option.{option_map}
use Rattle.cell_types.specs.declared.value.CellValue.{CellValue}
use Rattle.doc_model.specs.declared.column.ColDef.{ColDef}
use Rattle.doc_model.specs.ByIds.{find_id, has_id}
use Rattle.doc_model.specs.Column.{column_id}
use Rattle.doc_model.specs.Document.{Document, Table, table_id}
use Rattle.doc_model.specs.Grid.{Grid, IsGrid, cell}
use Rattle.doc_model.specs.LaidOut.{IsLaidOut}
use Rattle.doc_model.specs.Readers.{cell_at}
use Rattle.doc_model.specs.Rows.{has}
use Rattle.doc_model.specs.Schema.{no_grid}
use Rattle.doc_model.proofs.ByIdsLaws.{each_found, found_all, has_found}
use Rattle.doc_model.proofs.Choices.{both_true, cond_true, map_each}
use Rattle.doc_model.proofs.GridLaws.{grid_of_same}
use Rattle.doc_readers.specs.Parts.{grid_at}
use Rattle.recalc.specs.Evaluated.{filled_by}
use Rattle.recalc.proofs.FilledLemmas.{filled_table, find_filled}
use Rattle.shot_cells.specs.Places.{ByCell}
use Rattle.shot_cells.specs.ShotDocument.{has_formula, is_formula_at}
use Rattle.shot_cells.proofs.ValueLemmas.{formula_none, formula_some}

-- a cell by the columns, rows and cells of its table
abbrev pub cell_of_grid : Grid ColDef → List ℕ → ℕ → Option CellValue
cell_of_grid g c r = cond (has_id column_id g.columns c && has g.rows r) (Some (cell column_id g c r)) None

pub cell_at-grid : (d : Document) (t c : List ℕ) (r : ℕ) → cell_at d t c r ≡ cell_of_grid (grid_at d t) c r
cell_at-grid d t c r =
    elim (find_id table_id t d) as (λ (o : Option Table). elim o as (λ _. Option CellValue) [ None ↦ None | Some u ↦ cell_of_grid u.grid c r ]
    ≡ cell_of_grid (elim o as (λ _. Grid ColDef) [ None ↦ no_grid | Some u ↦ u.grid ]) c r) [ None ↦ refl | Some u ↦ refl ]

-- what such a cell says of its parts, and they of it
pub parts_of : (g : Grid ColDef) (k : List ℕ) (r : ℕ) (x : CellValue) → cell_of_grid g k r ≡ Some x → (has_id column_id g.columns k ≡ true) × ((has g.rows r ≡ true) × (cell column_id g k r ≡ x))
parts_of g k r x at = by (has_id column_id g.columns k) refl (has g.rows r) refl at
  where
    by : (b : Bool) → has_id column_id g.columns k ≡ b → (h : Bool) → has g.rows r ≡ h → cond (b && h) (Some (cell column_id g k r)) None ≡ Some x
        → (has_id column_id g.columns k ≡ true) × ((has g.rows r ≡ true) × (cell column_id g k r ≡ x))
    by true column true row at = let same : cell column_id g k r ≡ x = cc in (column, (row, same))
    by true column false row at = absurd (cc)
    by false column h row at = absurd (cc)

pub whole_of : (g : Grid ColDef) (k : List ℕ) (r : ℕ) → has_id column_id g.columns k ≡ true → has g.rows r ≡ true → cell_of_grid g k r ≡ Some (cell column_id g k r)
whole_of g k r column row = cond_true (has_id column_id g.columns k && has g.rows r) (Some (cell column_id g k r)) None (both_true (has_id column_id g.columns k) (has g.rows r) column row)

module _ (v : ByCell CellValue) (s : Document) where
  columns_filled : (t : List ℕ) → (grid_at (filled_by v s) t).columns ≡ (grid_at s t).columns
  columns_filled t =
      ap (λ (o : Option Table). (elim o as (λ _. Grid ColDef) [ None ↦ no_grid | Some u ↦ u.grid ]).columns) (find_filled v t s)
      ∙ elim (find_id table_id t s) as (λ (o : Option Table). (elim (option_map (filled_table v) o) as (λ _. Grid ColDef) [ None ↦ no_grid | Some u ↦ u.grid ]).columns
      ≡ (elim o as (λ _. Grid ColDef) [ None ↦ no_grid | Some u ↦ u.grid ]).columns) [ None ↦ refl | Some u ↦ refl ]

  -- which columns have formulas stays
  pub formula_filled : (t c : List ℕ) → is_formula_at (filled_by v s) t c ≡ is_formula_at s t c
  formula_filled t c = ap (λ ds. has_formula (find_id column_id c ds)) (columns_filled t)

  -- a formula cell of a table has its value
  module _ (u : Table) (found : find_id table_id u.id s ≡ Some u) (d : ColDef) (r : ℕ) (column : find_id column_id d.id u.grid.columns ≡ Some d) (here : has u.grid.rows r ≡ true) (is : d.info.is_formula ≡ true) where
    pub formula_here : is_formula_at s u.id d.id ≡ true
    formula_here =
        ap (λ (o : Option Table). has_formula (find_id column_id d.id (elim o as (λ _. Grid ColDef) [ None ↦ no_grid | Some x ↦ x.grid ]).columns)) found
        ∙ ap has_formula column ∙ is

    there : cell_at s u.id d.id r ≡ Some (cell column_id u.grid d.id r)
    there =
        ap (λ (o : Option Table). elim o as (λ _. Option CellValue) [ None ↦ None | Some x ↦ cell_of_grid x.grid d.id r ]) found
        ∙ cond_true (has_id column_id u.grid.columns d.id && has u.grid.rows r) (Some (cell column_id u.grid d.id r)) None
        (both_true (has_id column_id u.grid.columns d.id) (has u.grid.rows r) (has_found column_id d.id u.grid.columns d column) here)

    pub value_here : cell_at (filled_by v s) u.id d.id r ≡ Some (v u.id d.id r)
    value_here = sym (formula_some v s u.id d.id r (cell column_id u.grid d.id r) there formula_here)

-- values fill a document alike where they agree at each formula cell
module _ (w v : ByCell CellValue) (s : Document) where
  abbrev Agree : Type 0
  Agree = (t c : List ℕ) (r : ℕ) (x : CellValue) → is_formula_at s t c ≡ true → cell_at (filled_by v s) t c r ≡ Some x → w t c r ≡ x

  pub same_filled : IsLaidOut s → Agree → filled_by w s ≡ filled_by v s
  same_filled laid agree =
      map_each (filled_table w) (filled_table v) s (each_found table_id (λ u. filled_table w u ≡ filled_table v u) s laid.distinct (λ u found.
      ap (λ g. let x : Table = record { id = u.id; row = u.row; grid = g } in x)
      (grid_of_same column_id u.grid.columns u.grid.rows
      (λ d r. cond d.info.is_formula (w u.id d.id r) (cell column_id u.grid d.id r)) (λ d r. cond d.info.is_formula (v u.id d.id r) (cell column_id u.grid d.id r))
      (found_all table_id (λ (t : Table). IsGrid column_id t.grid) u.id s u laid.grids found).distinct
      (λ d r column here. by u found d r column here d.info.is_formula refl))))
    where
      by : (u : Table) → find_id table_id u.id s ≡ Some u → (d : ColDef) (r : ℕ) → find_id column_id d.id u.grid.columns ≡ Some d → has u.grid.rows r ≡ true → (b : Bool) → d.info.is_formula ≡ b
          → cond b (w u.id d.id r) (cell column_id u.grid d.id r) ≡ cond b (v u.id d.id r) (cell column_id u.grid d.id r)
      by u found d r column here true is = agree u.id d.id r (v u.id d.id r) (formula_here v s u found d r column here is) (value_here v s u found d r column here is)
      by u found d r column here false is = refl

  -- and only there
  pub filled_same : filled_by w s ≡ filled_by v s → Agree
  filled_same same t c r x is at =
      let told : cell_at (filled_by w s) t c r ≡ Some x = ap (λ d. cell_at d t c r) same ∙ at in
      by told (cell_at s t c r) refl
    where
      by : cell_at (filled_by w s) t c r ≡ Some x → (o : Option CellValue) → cell_at s t c r ≡ o → w t c r ≡ x
      by told None e = let none : None ≡ Some x = formula_none w s t c r e ∙ told in absurd (cc)
      by told (Some y) e = let some : Some (w t c r) ≡ Some x = formula_some w s t c r y e is ∙ told in cc
