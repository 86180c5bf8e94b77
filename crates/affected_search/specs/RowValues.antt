-- The reads by which lookups find rows of a table, by numbers.
use Rattle.std.specs.Prelude.{ℕ, true, cond, List, [], ◌∷◌, ◌++◌, filter, map, Option, Some, None, ◌≡◌}
use Rattle.cell_types.specs.declared.cell.KeyItem.{KeyItem}
use Rattle.cell_types.specs.declared.column_type.ColType.{ColType}
use Rattle.cell_types.specs.declared.value.CellValue.{CellValue}
use Rattle.doc_model.specs.declared.column.ColDef.{ColDef}
use Rattle.doc_model.specs.Column.{column_id}
use Rattle.doc_model.specs.Document.{Document}
use Rattle.doc_model.specs.Grid.{Grid, cell}
use Rattle.doc_model.specs.Rows.{has}
use Rattle.doc_readers.specs.Parts.{grid_at}
use Rattle.formula_parse.specs.Lexemes.{id_word}
use Rattle.formula_eval.specs.Reading.{as_read}
use Rattle.lookup_index.specs.Buckets.{bucket_of, part_buckets}
use Rattle.recalc.specs.Evaluated.{sheet_of}
use Rattle.recalc.specs.Indexes.{is_error}
use Rattle.affected_cells.specs.Met.{IsUnmet}
use Rattle.dep_graph.specs.declared.numbers.ColumnNumber.{ColumnNumber}
use Rattle.dep_graph.specs.declared.numbers.ReadNumber.{ReadNumber}
use Rattle.dep_graph.specs.declared.numbers.ReadNumber.TheVariants as read
use Rattle.dep_graph.specs.declared.numbers.ValueNumber.{ValueNumber}
use Rattle.dep_graph.specs.Records.{holds}
use Rattle.dep_graph.specs.Sources.{column_in}
use Rattle.affected_search.specs.Noted.{IsFreeKey}

abbrev pub value_at : ColumnNumber → ℕ → ValueNumber
value_at k b = record { column = k; bucket = b }

-- a value as lookups find it, whole and by its parts; an error is found by none, but a circular one
-- ends them all, so it is listed as the whole column
abbrev pub value_reads : ColumnNumber → CellValue → List ReadNumber
value_reads k v = cond (is_error v) (read.Key k ∷ [])
    (read.Value (value_at k (bucket_of v)) ∷ map (λ b. read.Part (value_at k b)) (part_buckets v))

-- the values of a column of this type in rows
abbrev pub cells_values : ColumnNumber → ColType → (ℕ → CellValue) → List ℕ → List ReadNumber
cells_values k ty f [] = []
cells_values k ty f (r ∷ rows) = value_reads k (as_read ty (f r)) ++ cells_values k ty f rows

-- of a formula column the whole column, where it has a number
abbrev pub column_values : Grid ColDef → Option ColumnNumber → List ℕ → ColDef → List ReadNumber
column_values g None rows d = []
column_values g (Some k) rows d =
    cond d.info.is_formula (read.Key k ∷ []) (cells_values k d.info.ty (cell column_id g d.id) rows)

abbrev pub columns_values : List (List ℕ) → List ℕ → Grid ColDef → List ℕ → List ColDef
    → List ReadNumber
columns_values names t g rows [] = []
columns_values names t g rows (d ∷ ds) =
    column_values g (column_in names t d.id) rows d ++ columns_values names t g rows ds

-- rows as lookups by `id` find them
abbrev pub id_reads : Option ColumnNumber → List ℕ → List ReadNumber
id_reads None rows = []
id_reads (Some k) rows = map (λ r. read.Value (value_at k r)) rows

-- all by which a lookup finds rows of a table; those that are not there have no values
abbrev pub row_values : List (List ℕ) → Document → List ℕ → List ℕ → List ReadNumber
row_values names s t rows = id_reads (column_in names t id_word) rows
    ++ columns_values names t (grid_at s t) (filter (has rows) (grid_at s t).rows)
    (grid_at s t).columns

-- where they are listed, the rows do not meet a key that is not listed
abbrev pub RowValuesLaw : Type 0
RowValuesLaw = (names : List (List ℕ)) (numbers : List ReadNumber) (s : Document) (t rows : List ℕ)
    → ((n : ReadNumber) → holds (row_values names s t rows) n ≡ true → holds numbers n ≡ true)
    → (r : ℕ) → has rows r ≡ true → (k : KeyItem) → IsFreeKey names numbers t k
    → IsUnmet (sheet_of s) t r k
