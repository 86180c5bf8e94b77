-- What cells read, by name: what numbers stand for, and what was read before.
use Rattle.std.specs.Prelude.{ℕ, List, [], ◌∷◌, ◌++◌, Option, Some, None, slice_get}
use Rattle.std.specs.Option.{option_map}
use Rattle.cell_types.specs.declared.cell.CellId.{CellId}
use Rattle.cell_types.specs.declared.cell.Read.TheVariants.{Cell, Key, Rows}
use Rattle.dep_graph.specs.declared.named.NamedRead.{NamedRead}
use Rattle.dep_graph.specs.declared.named.NamedRead.TheVariants as named
use Rattle.dep_graph.specs.declared.numbers.ReadNumber.{ReadNumber}
use Rattle.dep_graph.specs.declared.numbers.ReadNumber.TheVariants as read
use Rattle.dep_graph.specs.Sources.{Source, all_source, part_source, read_source, value_source}

-- what is read, of what is told by name
abbrev pub source_named : NamedRead → Source
source_named (named.Read r) = read_source r
source_named (named.All t) = all_source t
source_named (named.Value t c b) = value_source t c b
source_named (named.Part t c b) = part_source t c b

-- a cell, and what it read
pub record Were : Type 0 where
  pub cell : CellId
  pub reads : List Source

-- what is made of two names that may be missing
abbrev pub of_names : {X : Type 0} → (List ℕ → List ℕ → X) → Option (List ℕ) → Option (List ℕ)
    → Option X
of_names f None c = None
of_names f (Some t) None = None
of_names f (Some t) (Some c) = Some (f t c)

abbrev pub told_or_none : Option Source → List Source
told_or_none None = []
told_or_none (Some x) = x ∷ []

module _ (names : List (List ℕ)) where
  -- what a number stands for
  abbrev pub source_told : ReadNumber → Option Source
  source_told (read.Cell k) =
      of_names (λ t c. read_source (Cell (record { table = t; column = c; row = k.row })))
      (slice_get names k.column.table) (slice_get names k.column.column)
  source_told (read.Key k) =
      of_names (λ t c. read_source (Key t c)) (slice_get names k.table) (slice_get names k.column)
  source_told (read.Rows n) = option_map (λ t. read_source (Rows t)) (slice_get names n)
  source_told (read.All n) = option_map all_source (slice_get names n)
  source_told (read.Value v) =
      of_names (λ t c. value_source t c v.bucket)
      (slice_get names v.column.table) (slice_get names v.column.column)
  source_told (read.Part v) =
      of_names (λ t c. part_source t c v.bucket)
      (slice_get names v.column.table) (slice_get names v.column.column)

  -- what numbers stand for, in order
  abbrev pub sources_told : List ReadNumber → List Source
  sources_told [] = []
  sources_told (q ∷ reads) = told_or_none (source_told q) ++ sources_told reads
