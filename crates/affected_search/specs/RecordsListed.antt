-- What has to be listed of an action on records, by numbers: the cells that it writes, that rows
-- come or go, and the values by which lookups find these rows before and after.
use Rattle.std.specs.Prelude.{ℕ, true, false, List, Some, ◌≡◌}
use Rattle.cell_types.specs.declared.cell.CellId.{CellId}
use Rattle.cell_types.specs.declared.cell.KeyItem.{KeyItem}
use Rattle.cell_types.specs.declared.cell.Read.TheVariants.{Cell, Rows}
use Rattle.doc_model.specs.declared.action.DocAction.{DocAction}
use Rattle.doc_model.specs.declared.action.DocAction.TheVariants.{BulkAdd, BulkRemove, BulkUpdate}
use Rattle.doc_model.specs.declared.column.CellColumn.{CellColumn}
use Rattle.doc_model.specs.Apply.{apply}
use Rattle.doc_model.specs.Document.{Document}
use Rattle.doc_model.specs.Rows.{has}
use Rattle.doc_model.specs.Valid.{valid}
use Rattle.formula_parse.specs.Lexemes.{is_id}
use Rattle.recalc.specs.Cells.{cell_of}
use Rattle.recalc.specs.Evaluated.{sheet_of}
use Rattle.affected_cells.specs.Met.{IsUnmet}
use Rattle.affected_cells.specs.Touched.{is_touched}
use Rattle.dep_graph.specs.declared.numbers.ReadNumber.{ReadNumber}
use Rattle.dep_graph.specs.Records.{holds}
use Rattle.dep_graph.specs.Sources.{all_source, read_source, source_in}
use Rattle.affected_search.specs.Noted.{IsFreeKey, ListsChanges}

module _ (names : List (List ℕ)) (numbers : List ReadNumber) (s : Document) (a : DocAction)
    (t rows : List ℕ) where
  -- cells that are touched, and all rows of the table where they come or go
  pub record ListsCells : Type 0 where
    pub cell : (d : CellId) (n : ReadNumber) → is_touched s a (Cell d) ≡ true
        → source_in names (read_source (Cell d)) ≡ Some n → holds numbers n ≡ true
    pub all : (n : ReadNumber) → is_touched s a (Rows t) ≡ true
        → source_in names (all_source t) ≡ Some n → holds numbers n ≡ true

  -- in a document the rows do not meet a key that is not listed and whose column is touched
  abbrev pub ListsValues : Document → Type 0
  ListsValues x = (r : ℕ) → has rows r ≡ true → (k : KeyItem)
      → is_touched s a (Cell (cell_of t k.column r)) ≡ true → IsFreeKey names numbers t k
      → IsUnmet (sheet_of x) t r k

  -- the same of keys that do not go by `id`
  abbrev pub ListsGiven : Document → Type 0
  ListsGiven x = (r : ℕ) → has rows r ≡ true → (k : KeyItem) → is_id k.column ≡ false
      → is_touched s a (Cell (cell_of t k.column r)) ≡ true → IsFreeKey names numbers t k
      → IsUnmet (sheet_of x) t r k

  -- then what is not listed tells the same before and after
  abbrev pub AreListed : Type 0
  AreListed = ListsChanges names numbers (sheet_of s) (sheet_of (apply s a))

-- for rows that go their values before are enough, for rows that come those after
pub record RecordsListed (names : List (List ℕ)) (numbers : List ReadNumber) (s : Document)
    (t rows : List ℕ) : Type 0 where
  pub removed : valid s (BulkRemove t rows) ≡ true
      → ListsCells names numbers s (BulkRemove t rows) t rows
      → ListsValues names numbers s (BulkRemove t rows) t rows s
      → AreListed names numbers s (BulkRemove t rows) t rows
  pub added : (ks : List CellColumn) → valid s (BulkAdd t rows ks) ≡ true
      → ListsCells names numbers s (BulkAdd t rows ks) t rows
      → ListsValues names numbers s (BulkAdd t rows ks) t rows (apply s (BulkAdd t rows ks))
      → AreListed names numbers s (BulkAdd t rows ks) t rows
  pub updated : (ks : List CellColumn) → valid s (BulkUpdate t rows ks) ≡ true
      → ListsCells names numbers s (BulkUpdate t rows ks) t rows
      → ListsGiven names numbers s (BulkUpdate t rows ks) t rows s
      → ListsGiven names numbers s (BulkUpdate t rows ks) t rows (apply s (BulkUpdate t rows ks))
      → AreListed names numbers s (BulkUpdate t rows ks) t rows

abbrev pub RecordsListedLaw : Type 0
RecordsListedLaw = (names : List (List ℕ)) (numbers : List ReadNumber) (s : Document)
    (t rows : List ℕ) → RecordsListed names numbers s t rows
