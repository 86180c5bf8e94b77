-- The formula cells that an action may affect.
use Rattle.std.specs.Prelude.{ℕ, zero, suc, Bool, false, not, ◌&&◌, ◌||◌, length}
use Rattle.std.specs.List.{list_any}
use Rattle.std.specs.Option.{is_some}
use Rattle.std.specs.Str.{bytes_eq}
use Rattle.cell_types.specs.declared.cell.CellId.{CellId}
use Rattle.cell_types.specs.declared.cell.Read.{Read}
use Rattle.cell_types.specs.declared.cell.Read.TheVariants.{Cell, Key, Rows}
use Rattle.doc_model.specs.declared.action.DocAction.{DocAction}
use Rattle.doc_model.specs.declared.action.DocAction.TheVariants.{ModifyColumn}
use Rattle.doc_model.specs.Apply.{apply}
use Rattle.doc_model.specs.Document.{Document}
use Rattle.recalc.specs.Evaluated.{sheet_of}
use Rattle.recalc.specs.Sheet.{Sheet, reads}
use Rattle.affected_cells.specs.Touched.{is_touched}

-- s is the sheet before, t the sheet after; `fresh` are the cells that the change itself affects,
-- `touched` the reads that it touches
module _ (s t : Sheet) (fresh : CellId → Bool) (touched : Read → Bool) where
  -- the read names one of these cells: the cell, or a cell of the key column
  abbrev pub names_one : (CellId → Bool) → Read → Bool
  names_one p (Cell d) = p d
  names_one p (Key u k) =
      list_any (λ d. bytes_eq d.table u && bytes_eq d.column k && p d) t.cells
  names_one p (Rows u) = false

  -- these cells, the fresh ones, and those with a read that is touched or names one of these
  abbrev pub affect_step : (CellId → Bool) → CellId → Bool
  affect_step p c =
      is_some (t.formula c)
      && (p c || (fresh c || list_any (λ q. touched q || names_one p q) (reads s c)))

  abbrev pub affected_by : ℕ → CellId → Bool
  affected_by zero c = false
  affected_by (suc n) c = affect_step (affected_by n) c

  -- the least such set: as many rounds as there are formula cells are enough
  abbrev pub affected_in : CellId → Bool
  affected_in = affected_by (length t.cells)

-- a cell of the column that the action modifies
abbrev pub is_modified : DocAction → CellId → Bool
is_modified (ModifyColumn t k info) c = bytes_eq c.table t && bytes_eq c.column k
is_modified _ c = false

-- a cell that was no formula cell, or whose column is modified
abbrev pub is_fresh_cell : Document → DocAction → CellId → Bool
is_fresh_cell s a c = not (is_some ((sheet_of s).formula c)) || is_modified a c

abbrev pub affected : Document → DocAction → CellId → Bool
affected s a =
    affected_in (sheet_of s) (sheet_of (apply s a)) (is_fresh_cell s a) (is_touched s a)
