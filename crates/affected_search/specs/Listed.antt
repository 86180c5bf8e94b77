-- The reads to be listed of an action on records, by numbers, as a document shows its rows.
use Rattle.std.specs.Prelude.{ℕ, zero, suc, true, List, [], ◌∷◌, ◌++◌, map, length, Option, Some, None, ◌≡◌}
use Rattle.std.specs.List.{list_any}
use Rattle.cell_types.specs.declared.cell.CellId.{CellId}
use Rattle.doc_model.specs.declared.action.DocAction.{DocAction}
use Rattle.doc_model.specs.declared.action.DocAction.TheVariants.{BulkAdd, BulkRemove, BulkUpdate}
use Rattle.doc_model.specs.declared.column.CellColumn.{CellColumn}
use Rattle.doc_model.specs.declared.column.ColDef.{ColDef}
use Rattle.doc_model.specs.Apply.{apply}
use Rattle.doc_model.specs.ByIds.{find_id}
use Rattle.doc_model.specs.Column.{column_id}
use Rattle.doc_model.specs.Document.{Document}
use Rattle.doc_model.specs.Grid.{Grid}
use Rattle.doc_model.specs.Valid.{valid}
use Rattle.doc_readers.specs.Parts.{grid_at}
use Rattle.recalc.specs.Evaluated.{sheet_of}
use Rattle.recalc.specs.MayLose.{is_record}
use Rattle.recalc.specs.Sheet.{Sheet, reads}
use Rattle.affected_cells.specs.Affected.{affected}
use Rattle.dep_graph.specs.declared.numbers.CellNumber.{CellNumber}
use Rattle.dep_graph.specs.declared.numbers.ColumnNumber.{ColumnNumber}
use Rattle.dep_graph.specs.declared.numbers.ReadNumber.{ReadNumber}
use Rattle.dep_graph.specs.declared.numbers.ReadNumber.TheVariants as read
use Rattle.dep_graph.specs.Graph.{Graph}
use Rattle.dep_graph.specs.Names.{number_in}
use Rattle.dep_graph.specs.Records.{holds, reads_under}
use Rattle.dep_graph.specs.Sources.{cell_in, column_in}
use Rattle.affected_search.specs.Actions.{KeepsOthers}
use Rattle.affected_search.specs.Noted.{HoldsNotes, ListsChanges}
use Rattle.affected_search.specs.Reached.{is_among}
use Rattle.affected_search.specs.RowValues.{column_values, row_values}
use Rattle.affected_search.specs.Sheets.{has_number}
use Rattle.affected_search.specs.CellNumbers.{cell_at, column_at}

-- the cells in rows of each column of a table whose number is below this
abbrev pub cells_below : ℕ → List ℕ → ℕ → List ReadNumber
cells_below t rows zero = []
cells_below t rows (suc n) =
    cells_below t rows n ++ map (λ r. read.Cell (cell_at (column_at t n) r)) rows

-- all rows of a table, and the cells in these, where it has a number
abbrev pub moved_cells : List (List ℕ) → Option ℕ → List ℕ → List ReadNumber
moved_cells names None rows = []
moved_cells names (Some t) rows = read.All t ∷ cells_below t rows (length names)

-- of rows that come or go these, and the values by which lookups find them
abbrev pub moved_reads : List (List ℕ) → Document → List ℕ → List ℕ → List ReadNumber
moved_reads names s t rows = moved_cells names (number_in names t) rows ++ row_values names s t rows

-- of a column that an update gives its cells, and its values, where it has a number
abbrev pub given_reads : Grid ColDef → Option ColumnNumber → List ℕ → Option ColDef
    → List ReadNumber
given_reads g None rows o = []
given_reads g (Some k) rows o = map (λ r. read.Cell (cell_at k r)) rows ++ elim o [
  | None ↦ []
  | Some d ↦ column_values g (Some k) rows d
]

abbrev pub update_reads : List (List ℕ) → List ℕ → Grid ColDef → List ℕ → List CellColumn
    → List ReadNumber
update_reads names t g rows [] = []
update_reads names t g rows (k ∷ ks) =
    given_reads g (column_in names t k.id) rows (find_id column_id k.id g.columns)
    ++ update_reads names t g rows ks

-- the reads of rows, where there are some
abbrev pub where_some : List ℕ → List ReadNumber → List ReadNumber
where_some [] reads = []
where_some (r ∷ rows) reads = reads

-- of another action nothing
abbrev pub record_reads : List (List ℕ) → Document → DocAction → List ReadNumber
record_reads names s (BulkAdd t rows ks) = where_some rows (moved_reads names s t rows)
record_reads names s (BulkRemove t rows) = where_some rows (moved_reads names s t rows)
record_reads names s (BulkUpdate t rows ks) = update_reads names t (grid_at s t) rows ks
record_reads names s _ = []

-- they are among these
abbrev pub ListsIn : List (List ℕ) → List ReadNumber → Document → DocAction → Type 0
ListsIn names numbers s a = (n : ReadNumber)
    → holds (record_reads names s a) n ≡ true → holds numbers n ≡ true

-- listed as the documents before and after show the rows, they are all that an action on records
-- changes
abbrev pub RecordReadsLaw : Type 0
RecordReadsLaw = (names : List (List ℕ)) (numbers : List ReadNumber) (s : Document) (a : DocAction)
    → is_record a ≡ true → valid s a ≡ true
    → ListsIn names numbers s a → ListsIn names numbers (apply s a) a
    → ListsChanges names numbers (sheet_of s) (sheet_of (apply s a))

-- a formula cell that is not found and is not new keeps its value and what its run notes, over each
-- action on records of which these were listed before and after, where the graph holds what
-- formula cells note
abbrev pub KeepsListed : Graph → List ReadNumber → List ReadNumber → List CellNumber → Type 0
KeepsListed graph before after cells = (s : Document) (a : DocAction) → is_record a ≡ true
    → before ≡ record_reads graph.names s a → after ≡ record_reads graph.names (apply s a) a
    → HoldsNotes graph (sheet_of s) → KeepsOthers s graph a cells

-- the read that a run makes beside this one: which rows the table has, where all of them are taken,
-- and the column as a key column, where a value of it is looked up
abbrev pub read_beside : ReadNumber → ReadNumber
read_beside (read.All t) = read.Rows t
read_beside (read.Value v) = read.Key v.column
read_beside (read.Part v) = read.Key v.column
read_beside n = n

-- the graph has nothing of a cell but what its formula reads, or looks up beside that
abbrev pub HoldsNoMore : Graph → Sheet → Type 0
HoldsNoMore graph s = (c : CellId) (k : CellNumber) (n : ReadNumber)
    → cell_in graph.names c ≡ Some k → holds (reads_under graph.reads k) n ≡ true
    → list_any (has_number graph.names (read_beside n)) (reads s c) ≡ true

-- a formula cell that is found is one that the action may affect, over each action on records of
-- which these were listed before and after, where the graph holds no more than formula cells note
abbrev pub FindsListed : Graph → List ReadNumber → List ReadNumber → List CellNumber → Type 0
FindsListed graph before after cells = (s : Document) (a : DocAction) → is_record a ≡ true
    → before ≡ record_reads graph.names s a → after ≡ record_reads graph.names (apply s a) a
    → valid s a ≡ true → HoldsNoMore graph (sheet_of s)
    → (c : CellId) (k : CellNumber) (f : List ℕ) → (sheet_of (apply s a)).formula c ≡ Some f
    → cell_in graph.names c ≡ Some k → is_among cells k ≡ true → affected s a c ≡ true
