-- A graph of reads: the names that have numbers, and the reads of each cell by numbers.
use Rattle.std.specs.Prelude.{ℕ, List, [], Some, None, Vec, ◌≡◌}
use Rattle.std.specs.Global.{Global}
use Rattle.cell_types.specs.declared.cell.CellId.{CellId}
use Rattle.formula_eval.specs.declared.note.Note.{Note}
use Rattle.dep_graph.specs.declared.numbers.CellNumber.{CellNumber}
use Rattle.dep_graph.specs.declared.numbers.ReadNumber.{ReadNumber}
use Rattle.dep_graph.specs.Names.{IsGrown}
use Rattle.dep_graph.specs.Records.{HasSameReads, IsRecorded, reads_under}
use Rattle.dep_graph.specs.Sources.{AreNumbers, Source, cell_in, sources}

pub record Graph : Type 0 where
  pub names : List (List ℕ)
  pub reads : List (CellNumber × Vec ReadNumber Global)

-- the cell reads this, and each other cell what it read; numbers stay
pub record IsSetTo (old new : Graph) (reader : CellId) (read : List Source) : Type 0 where
  pub cell : CellNumber
  pub is_cell : cell_in new.names reader ≡ Some cell
  pub reads : List ReadNumber
  pub are_reads : AreNumbers new.names read reads
  pub recorded : IsRecorded old.reads new.reads cell reads
  pub grown : IsGrown old.names new.names

-- so where it reads what notes say
abbrev pub IsSet : Graph → Graph → CellId → List Note → Type 0
IsSet old new reader notes = IsSetTo old new reader (sources notes)

-- each cell reads what it read; numbers stay
pub record IsKept (old new : Graph) : Type 0 where
  pub reads : HasSameReads old.reads new.reads
  pub grown : IsGrown old.names new.names

-- the cell reads nothing, and each other cell what it read
pub record IsDropped (old new : Graph) (reader : CellId) : Type 0 where
  pub names : new.names ≡ old.names
  pub unknown : cell_in old.names reader ≡ None → HasSameReads old.reads new.reads
  -- nor will it read anything for getting a number
  pub later : cell_in old.names reader ≡ None → (names : List (List ℕ)) (k : CellNumber)
      → IsGrown old.names names → cell_in names reader ≡ Some k → reads_under old.reads k ≡ []
  pub known : (k : CellNumber) → cell_in old.names reader ≡ Some k
      → IsRecorded old.reads new.reads k []
