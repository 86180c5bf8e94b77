-- The reads of each cell, and the cells of each read as their inverse.
use Rattle.std.specs.Prelude.{ℕ, Bool, true, cond, not, ◌&&◌, ◌||◌, List, [], length, Vec, ◌≡◌, ◌≤◌, ◌⊎◌}
use Rattle.std.specs.Global.{Global}
use Rattle.std.specs.List.{list_any}
use Rattle.std.specs.Map.{lookup}
use Rattle.dep_graph.specs.declared.numbers.CellNumber.{CellNumber}
use Rattle.dep_graph.specs.declared.numbers.ReadNumber.{ReadNumber}
use Rattle.dep_graph.specs.Numbers.{is_cell, is_read}
use Rattle.dep_graph.specs.Readers.{ReaderLists, items_of, links, IsBackable}

-- whether one of the reads is this one
abbrev pub holds : List ReadNumber → ReadNumber → Bool
holds reads q = list_any (is_read q) reads

-- the reads of a cell
abbrev pub reads_under : List (CellNumber × Vec ReadNumber Global) → CellNumber → List ReadNumber
reads_under reads c = items_of (lookup (is_cell c) reads)

-- under each read are exactly the cells whose reads hold it
abbrev pub IsInverse : List (CellNumber × Vec ReadNumber Global) → ReaderLists → Type 0
IsInverse reads l = (q : ReadNumber) (c : CellNumber) → links l q c ≡ holds (reads_under reads c) q

-- the cell has these reads, and each other cell those that it had
abbrev pub IsRecorded : List (CellNumber × Vec ReadNumber Global)
    → List (CellNumber × Vec ReadNumber Global) → CellNumber → List ReadNumber → Type 0
IsRecorded old new cell reads = (c : CellNumber)
    → reads_under new c ≡ cond (is_cell cell c) reads (reads_under old c)

-- only cells whose table and column have numbers have reads
abbrev pub AreOfNames : List (List ℕ) → List (CellNumber × Vec ReadNumber Global) → Type 0
AreOfNames names reads = (c : CellNumber)
    → (length names ≤ c.column.table) ⊎ (length names ≤ c.column.column)
    → reads_under reads c ≡ []

-- each cell has the reads that it had
abbrev pub HasSameReads : List (CellNumber × Vec ReadNumber Global)
    → List (CellNumber × Vec ReadNumber Global) → Type 0
HasSameReads old new = (c : CellNumber) → reads_under new c ≡ reads_under old c

-- the cell is under these reads too
abbrev pub IsJoined : ReaderLists → ReaderLists → List ReadNumber → CellNumber → Type 0
IsJoined old new reads cell = (q : ReadNumber) (c : CellNumber)
    → links new q c ≡ (links old q c || (holds reads q && is_cell cell c))

-- the cell is no longer under the first reads, but for those that are among the second
abbrev pub IsParted : ReaderLists → ReaderLists → List ReadNumber → List ReadNumber → CellNumber
    → Type 0
IsParted old new gone kept cell = (q : ReadNumber) (c : CellNumber)
    → links new q c
    ≡ (links old q c && not ((holds gone q && not (holds kept q)) && is_cell cell c))

-- the cell can be put under each of these reads without memory
abbrev pub AreBackable : ReaderLists → List ReadNumber → CellNumber → Type 0
AreBackable l reads cell = (q : ReadNumber) → holds reads q ≡ true → IsBackable l q cell

-- the cell is no longer under the first reads, but is under the second
abbrev pub IsExchanged : ReaderLists → ReaderLists → List ReadNumber → List ReadNumber → CellNumber
    → Type 0
IsExchanged old new gone reads cell = (q : ReadNumber) (c : CellNumber) → links new q c
    ≡ ((links old q c && not (holds gone q && is_cell cell c)) || (holds reads q && is_cell cell c))
