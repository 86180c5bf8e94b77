-- The cells of each read: the rows of each column under the read, and the columns.
use Rattle.std.specs.Prelude.{ℕ, Bool, true, false, cond, not, ◌&&◌, ◌||◌, ◌++◌, List, [], ◌∷◌, Option, Some, None, Vec, ◌≡◌}
use Rattle.std.specs.Global.{Global}
use Rattle.std.specs.List.{list_any}
use Rattle.std.specs.Map.{lookup}
use Rattle.doc_model.specs.Rows.{has}
use Rattle.lookup_index.specs.Under.{under_key, HasRoom}
use Rattle.dep_graph.specs.declared.numbers.CellNumber.{CellNumber}
use Rattle.dep_graph.specs.declared.numbers.ColumnNumber.{ColumnNumber}
use Rattle.dep_graph.specs.declared.numbers.ReadNumber.{ReadNumber}
use Rattle.dep_graph.specs.declared.numbers.ReadNumber.TheVariants as read
use Rattle.dep_graph.specs.declared.numbers.Reading.{Reading}
use Rattle.dep_graph.specs.Numbers.{is_cell, is_column, is_read, is_reading}

-- the items of a list that may be missing
abbrev pub items_of : {A : Type 0} → Option (Vec A Global) → List A
items_of None = []
items_of (Some list) = list.items

pub record ReaderLists : Type 0 where
  pub rows : List (Reading × Vec ℕ Global)
  pub columns : List (ReadNumber × Vec ColumnNumber Global)

abbrev pub lists_of : List (Reading × Vec ℕ Global)
    → List (ReadNumber × Vec ColumnNumber Global) → ReaderLists
lists_of rows columns = record { rows = rows; columns = columns }

-- the read without its row, or without the value that is looked up
abbrev pub wide : ReadNumber → ReadNumber
wide (read.Cell c) = read.Cell (record { column = c.column; row = 0 })
wide (read.Value v) = read.Value (record { column = v.column; bucket = 0 })
wide (read.Part v) = read.Part (record { column = v.column; bucket = 0 })
wide q = q

-- the columns under a read, and under all reads that differ from it in row or value
abbrev pub columns_under : List (ReadNumber × Vec ColumnNumber Global) → ReadNumber
    → List ColumnNumber
columns_under columns q = items_of (lookup (is_read (wide q)) columns)

-- the list with the column, once
abbrev pub with_column : ColumnNumber → List ColumnNumber → List ColumnNumber
with_column k columns = cond (list_any (is_column k) columns) columns (columns ++ k ∷ [])

-- the read, and the column of the cell
abbrev pub reading_of : ReadNumber → CellNumber → Reading
reading_of q c = record { read = q; column = c.column }

-- whether the cell is under the read
abbrev pub links : ReaderLists → ReadNumber → CellNumber → Bool
links l q c = has (under_key is_reading l.rows (reading_of q c)) c.row

-- whether the column of the cell is under the read
abbrev pub lists_column : ReaderLists → ReadNumber → CellNumber → Bool
lists_column l q c = list_any (is_column c.column) (columns_under l.columns q)

-- each cell under a read has its column there
abbrev pub HasColumns : ReaderLists → Type 0
HasColumns l = (q : ReadNumber) (c : CellNumber) → links l q c ≡ true → lists_column l q c ≡ true

-- a column that is under a read stays there
abbrev pub KeepsColumns : ReaderLists → ReaderLists → Type 0
KeepsColumns old new = (q : ReadNumber) (c : CellNumber)
    → lists_column old q c ≡ true → lists_column new q c ≡ true

-- the cell is under the read too
abbrev pub IsLinked : ReaderLists → ReaderLists → ReadNumber → CellNumber → Type 0
IsLinked old new read cell = (q : ReadNumber) (c : CellNumber)
    → links new q c ≡ (links old q c || (is_read read q && is_cell cell c))

-- the cell is no longer under the read
abbrev pub IsUnlinked : ReaderLists → ReaderLists → ReadNumber → CellNumber → Type 0
IsUnlinked old new read cell = (q : ReadNumber) (c : CellNumber)
    → links new q c ≡ (links old q c && not (is_read read q && is_cell cell c))

-- under each read are the same cells
abbrev pub HasSameLinks : ReaderLists → ReaderLists → Type 0
HasSameLinks old new = (q : ReadNumber) (c : CellNumber) → links new q c ≡ links old q c

-- the cell can be put under the read without memory, where it is not there
pub record IsBackable (l : ReaderLists) (q : ReadNumber) (c : CellNumber) : Type 0 where
  pub column : lists_column l q c ≡ true
  pub room : links l q c ≡ false → HasRoom is_reading l.rows (reading_of q c)

-- so can the cell afterwards, where it could before
abbrev pub KeepsBackable : ReaderLists → ReaderLists → CellNumber → Type 0
KeepsBackable old new c = (q : ReadNumber) → IsBackable old q c → IsBackable new q c
