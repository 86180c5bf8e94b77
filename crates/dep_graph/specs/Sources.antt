-- What is read, by name, and the numbers of that.
use Rattle.std.specs.Prelude.{ℕ, cond, List, [], ◌∷◌, ◌++◌, map, Option, Some, None, ◌≡◌, ⊤}
use Rattle.std.specs.Option.{option_map}
use Rattle.cell_types.specs.declared.cell.CellId.{CellId}
use Rattle.cell_types.specs.declared.cell.KeyItem.{KeyItem}
use Rattle.cell_types.specs.declared.cell.Read.{Read}
use Rattle.cell_types.specs.declared.cell.Read.TheVariants.{Cell, Key, Rows}
use Rattle.formula_eval.specs.declared.note.Note.{Note}
use Rattle.formula_eval.specs.declared.note.Note.TheVariants as note
use Rattle.lookup_index.specs.Buckets.{bucket_of}
use Rattle.dep_graph.specs.declared.numbers.CellNumber.{CellNumber}
use Rattle.dep_graph.specs.declared.numbers.ColumnNumber.{ColumnNumber}
use Rattle.dep_graph.specs.declared.numbers.ReadNumber.{ReadNumber}
use Rattle.dep_graph.specs.declared.numbers.ReadNumber.TheVariants as read
use Rattle.dep_graph.specs.Names.{number_in}

-- a cell, every cell of a key column, which rows a table has, all these rows, or the cells of a key
-- column that a value of the bucket finds, each whole or by a part
pub data Source : Type 0 where
  read_source : Read → Source
  all_source : List ℕ → Source
  value_source : List ℕ → List ℕ → ℕ → Source
  part_source : List ℕ → List ℕ → ℕ → Source

-- what a key of a lookup reads of a table
abbrev pub source_of_key : List ℕ → KeyItem → Source
source_of_key t k = cond k.contains (part_source t k.column (bucket_of k.value))
    (value_source t k.column (bucket_of k.value))

-- what the keys of a lookup read of a table: without a key it takes all rows
abbrev pub sources_of_keys : List ℕ → List KeyItem → List Source
sources_of_keys t [] = all_source t ∷ []
sources_of_keys t (k ∷ ks) = map (source_of_key t) (k ∷ ks)

-- what a note reads: of a lookup each of its keys
abbrev pub sources_of : Note → List Source
sources_of (note.Read r) = read_source r ∷ []
sources_of (note.All t) = all_source t ∷ []
sources_of (note.Met t ks) = sources_of_keys t ks

-- what notes read
abbrev pub sources : List Note → List Source
sources [] = []
sources (n ∷ notes) = sources_of n ++ sources notes

-- the number of a column, of two numbers of names that may be missing
abbrev pub column_of : Option ℕ → Option ℕ → Option ColumnNumber
column_of None c = None
column_of (Some t) None = None
column_of (Some t) (Some c) = Some (record { table = t; column = c })

module _ (names : List (List ℕ)) where
  -- the number of a column of a table, where both have numbers
  abbrev pub column_in : List ℕ → List ℕ → Option ColumnNumber
  column_in t c = column_of (number_in names t) (number_in names c)

  -- the number of a cell
  abbrev pub cell_in : CellId → Option CellNumber
  cell_in c = option_map (λ k. record { column = k; row = c.row }) (column_in c.table c.column)

  -- the number of what is read
  abbrev pub source_in : Source → Option ReadNumber
  source_in (read_source (Cell c)) = option_map read.Cell (cell_in c)
  source_in (read_source (Key t c)) = option_map read.Key (column_in t c)
  source_in (read_source (Rows t)) = option_map read.Rows (number_in names t)
  source_in (all_source t) = option_map read.All (number_in names t)
  source_in (value_source t c b) =
      option_map (λ k. read.Value (record { column = k; bucket = b })) (column_in t c)
  source_in (part_source t c b) =
      option_map (λ k. read.Part (record { column = k; bucket = b })) (column_in t c)

  -- these are the numbers of what is read, in order
  abbrev pub AreNumbers : List Source → List ReadNumber → Type 0
  AreNumbers [] [] = ⊤
  AreNumbers [] (q ∷ reads) = ⊥
  AreNumbers (s ∷ rest) [] = ⊥
  AreNumbers (s ∷ rest) (q ∷ reads) = (source_in s ≡ Some q) × AreNumbers rest reads
