-- Cells that are found one after the other.
use Rattle.std.specs.Prelude.{Bool, true, cond, ◌||◌, ◌++◌, List, [], ◌∷◌, ◌≡◌}
use Rattle.std.specs.List.{list_any, IsDistinct}
use Rattle.dep_graph.specs.declared.numbers.CellNumber.{CellNumber}
use Rattle.dep_graph.specs.declared.numbers.ColumnNumber.{ColumnNumber}
use Rattle.dep_graph.specs.declared.numbers.ReadNumber.{ReadNumber}
use Rattle.dep_graph.specs.declared.numbers.ReadNumber.TheVariants as read
use Rattle.dep_graph.specs.Numbers.{is_cell, is_column}
use Rattle.dep_graph.specs.Records.{holds, reads_under}
use Rattle.affected_search.specs.Reached.{ReadLists, is_among}

-- each cell stands once, and these keys are the same cells
pub record IsKnownBy (cells keys : List CellNumber) : Type 0 where
  pub once : IsDistinct is_cell cells
  pub same : (c : CellNumber) → is_among keys c ≡ is_among cells c

-- the cells with this one, once
abbrev pub with_cell : CellNumber → List CellNumber → List CellNumber
with_cell c cells = cond (is_among cells c) cells (cells ++ c ∷ [])

-- whether the cell reads this
abbrev pub is_reader : ReadLists → ReadNumber → CellNumber → Bool
is_reader reads q c = holds (reads_under reads c) q

-- these cells too, behind those that there were
pub record IsMore (old new : List CellNumber) (more : CellNumber → Bool) : Type 0 where
  pub cells : (c : CellNumber) → is_among new c ≡ (is_among old c || more c)
  pub behind : List CellNumber
  pub follows : new ≡ old ++ behind

-- what reads one of these columns as a key column is among the cells
abbrev pub HasKeyReaders : ReadLists → List ColumnNumber → List CellNumber → Type 0
HasKeyReaders reads columns cells = (k : ColumnNumber) (c : CellNumber)
    → list_any (is_column k) columns ≡ true → is_reader reads (read.Key k) c ≡ true
    → is_among cells c ≡ true
