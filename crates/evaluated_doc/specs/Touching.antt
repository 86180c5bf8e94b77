-- Reads and cells that may have changed: what they are by the numbers of a graph, and the cells
-- that they affect.
use Rattle.std.specs.Prelude.{ℕ, Bool, true, false, ◌||◌, ◌&&◌, List, [], ◌∷◌, ◌++◌, Option, Some, None, ◌≡◌}
use Rattle.std.specs.List.{list_any}
use Rattle.std.specs.Option.{is_some}
use Rattle.std.specs.Str.{bytes_eq}
use Rattle.cell_types.specs.declared.cell.CellId.{CellId}
use Rattle.cell_types.specs.declared.cell.Read.{Read}
use Rattle.cell_types.specs.declared.cell.Read.TheVariants.{Cell, Key, Rows}
use Rattle.cell_types.specs.declared.value.CellValue.{CellValue}
use Rattle.doc_model.specs.Document.{Document}
use Rattle.dep_graph.specs.declared.numbers.CellNumber.{CellNumber}
use Rattle.dep_graph.specs.declared.numbers.ReadNumber.{ReadNumber}
use Rattle.dep_graph.specs.Graph.{Graph}
use Rattle.dep_graph.specs.Sources.{cell_in, read_source, source_in}
use Rattle.recalc.specs.declared.kept.KeptTable.{KeptTable}
use Rattle.recalc.specs.Cells.{same_cell}
use Rattle.recalc.specs.Evaluated.{formula_at, sheet_of}
use Rattle.recalc.specs.Kept.{held_at}
use Rattle.recalc.specs.Sheet.{evaluated}
use Rattle.recalc.specs.Stack.{on}
use Rattle.affected_cells.specs.Affected.{affected_in}
use Rattle.affected_cells.specs.Bound.{names_cell}
use Rattle.affected_search.specs.ExactNotes.{HasNotes}
use Rattle.affected_search.specs.Reached.{reads_naming}

-- whether the reads are the same
abbrev pub same_read : Read → Read → Bool
same_read (Cell c) (Cell d) = same_cell c d
same_read (Key t k) (Key u m) = bytes_eq t u && bytes_eq k m
same_read (Rows t) (Rows u) = bytes_eq t u
same_read _ _ = false

module _ (reads : List Read) (cells : List CellId) where
  -- whether the read is one of these, or names one of these cells
  abbrev pub is_read_touched : Read → Bool
  is_read_touched q = list_any (same_read q) reads || list_any (λ c. names_cell c q) cells

  -- the formula cells that these affect: those of them, each with such a read, and each with a read
  -- that names an affected cell; the least set
  abbrev pub is_refreshed : Document → CellId → Bool
  is_refreshed s = affected_in (sheet_of s) (sheet_of s) (on cells) is_read_touched

  -- each formula cell outside that set holds its value
  abbrev pub IsRightOutside : Document → List KeptTable → Type 0
  IsRightOutside s ks = (c : CellId) → is_some (formula_at s c) ≡ true
      → is_refreshed s c ≡ false → held_at s ks c ≡ Some (evaluated (sheet_of s) c)

  -- these are the cells of the set, with the touched cells
  pub record AreRefreshed (s : Document) (found : List CellId) : Type 0 where
    pub all : (c : CellId) → is_refreshed s c ≡ true → on found c ≡ true
    pub only : (c : CellId) → on found c ≡ true → is_some (formula_at s c) ≡ true
        → is_refreshed s c ≡ true

  -- so it is of each document of which a graph has just what cells note
  abbrev pub FindsRefreshed : Graph → List CellId → Type 0
  FindsRefreshed graph found = (s : Document) → HasNotes graph (sheet_of s) → AreRefreshed s found

-- the numbers of a read; without one no cell reads it
abbrev pub read_numbers : List (List ℕ) → Read → List ReadNumber
read_numbers names q = elim (source_in names (read_source q)) [ None ↦ [] | Some n ↦ n ∷ [] ]

-- those of what names a cell
abbrev pub cell_numbers : List (List ℕ) → CellId → List ReadNumber
cell_numbers names c = elim (cell_in names c) [ None ↦ [] | Some k ↦ reads_naming k ]

abbrev pub reads_numbers : List (List ℕ) → List Read → List ReadNumber
reads_numbers names [] = []
reads_numbers names (q ∷ qs) = read_numbers names q ++ reads_numbers names qs

abbrev pub cells_numbers : List (List ℕ) → List CellId → List ReadNumber
cells_numbers names [] = []
cells_numbers names (c ∷ cs) = cell_numbers names c ++ cells_numbers names cs

abbrev pub touched_numbers : List (List ℕ) → List Read → List CellId
    → List ReadNumber
touched_numbers names reads cells = reads_numbers names reads ++ cells_numbers names cells
