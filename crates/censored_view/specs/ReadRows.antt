-- Rows of which the cells of some columns were read.
use Rattle.std.specs.Prelude.{ℕ, cond, List, [], ◌∷◌, map, Option, Some, None, bytes_eq, slice_get, ◌≡◌}
use Rattle.std.specs.List.{AllByRecursion}
use Rattle.std.specs.Option.{option_copied}
use Rattle.cell_types.specs.declared.value.CellValue.{CellValue}
use Rattle.doc_model.specs.Document.{Document}
use Rattle.doc_model.specs.Readers.{cell_at}
use Rattle.acl_formula.specs.RuleRow.{RuleRow}
use Rattle.censored_view.specs.declared.read_rows.ReadColumn.{ReadColumn}
use Rattle.censored_view.specs.declared.read_rows.ReadRow.{ReadRow}
use Rattle.censored_view.specs.Rows.{row_told}

-- the cell at a place of a column that was read
abbrev pub cell_in : ReadColumn → ℕ → Option CellValue
cell_in k i = elim (slice_get k.cells.items i) [ None ↦ None | Some o ↦ option_copied o ]

-- the cell of a column: as it was read, or else another
abbrev pub read_cell : ℕ → Option CellValue → List ℕ → List ReadColumn → Option CellValue
read_cell i other c [] = other
read_cell i other c (k ∷ ks) = cond (bytes_eq k.id c) (cell_in k i) (read_cell i other c ks)

-- the row, where the tables are seen as a document
abbrev pub read_told : {D : Type 0} → (D → Document) → ReadRow D → RuleRow
read_told document w = record {
  id = w.row.row;
  cell = λ c. read_cell w.place ((row_told document w.row).cell c) c w.columns.now;
}

-- the column was read in these rows of the table
abbrev pub IsRead : Document → List ℕ → List ℕ → ReadColumn → Type 0
IsRead s table rows k = map option_copied k.cells.items ≡ map (cell_at s table k.id) rows

abbrev pub AreRead : Document → List ℕ → List ℕ → List ReadColumn → Type 0
AreRead s table rows ks = AllByRecursion (IsRead s table rows) ks
