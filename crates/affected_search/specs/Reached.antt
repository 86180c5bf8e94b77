-- The cells that a change affects, by the reads of each cell: by numbers, as a graph holds them.
use Rattle.std.specs.Prelude.{Bool, true, List, [], ◌∷◌, Vec, ◌≡◌}
use Rattle.std.specs.Global.{Global}
use Rattle.std.specs.List.{list_any, IsDistinct}
use Rattle.dep_graph.specs.declared.numbers.CellNumber.{CellNumber}
use Rattle.dep_graph.specs.declared.numbers.ReadNumber.{ReadNumber}
use Rattle.dep_graph.specs.declared.numbers.ReadNumber.TheVariants as read
use Rattle.dep_graph.specs.Numbers.{is_cell}
use Rattle.dep_graph.specs.Records.{holds, reads_under}

-- the reads of each cell
abbrev pub ReadLists : Type 0
ReadLists = List (CellNumber × Vec ReadNumber Global)

-- whether the cell is one of these
abbrev pub is_among : List CellNumber → CellNumber → Bool
is_among cells c = list_any (is_cell c) cells

-- whether the cell reads one of these
abbrev pub reads_one : ReadLists → List ReadNumber → CellNumber → Bool
reads_one reads qs c = list_any (holds (reads_under reads c)) qs

-- the reads that name a cell: of itself, and of its column as a key column. A lookup reads its key
-- columns beside the values that it looks up, so no values are among them
abbrev pub reads_naming : CellNumber → List ReadNumber
reads_naming d = read.Cell d ∷ read.Key d.column ∷ []

module _ (reads : ReadLists) (touched : List ReadNumber) where
  -- the cell reads something touched, or a cell that is reached
  pub data IsReached : CellNumber → Type 0 where
    from_touched : {c : CellNumber} → reads_one reads touched c ≡ true → IsReached c
    from_cell : {c : CellNumber} (d : CellNumber) → IsReached d
        → reads_one reads (reads_naming d) c ≡ true → IsReached c

  -- what reads something touched, or one of these cells, is one of them
  pub record IsClosed (cells : List CellNumber) : Type 0 where
    pub of_touched : (c : CellNumber) → reads_one reads touched c ≡ true → is_among cells c ≡ true
    pub of_cells : (d c : CellNumber) → is_among cells d ≡ true
        → reads_one reads (reads_naming d) c ≡ true → is_among cells c ≡ true

  -- these are the cells that are affected, each once
  pub record IsAffected (cells : List CellNumber) : Type 0 where
    pub closed : IsClosed cells
    pub reached : (c : CellNumber) → is_among cells c ≡ true → IsReached c
    pub once : IsDistinct is_cell cells

-- each closed list has the cells that are reached
abbrev pub LeastLaw : Type 0
LeastLaw = (reads : ReadLists) (touched : List ReadNumber) (cells : List CellNumber)
    → IsClosed reads touched cells
    → (c : CellNumber) → IsReached reads touched c → is_among cells c ≡ true
