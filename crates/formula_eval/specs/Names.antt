-- Which cells a read names.
use Rattle.std.specs.Prelude.{List, [], ◌∷◌, ◌++◌, ◌≡◌, ◌⊎◌}
use Rattle.std.specs.List.{AllByRecursion}
use Rattle.cell_types.specs.declared.cell.CellId.{CellId}
use Rattle.cell_types.specs.declared.cell.Read.{Read}
use Rattle.cell_types.specs.declared.cell.Read.TheVariants.{Cell, Key, Rows}
use Rattle.formula_eval.specs.Reader.{Reader, needed}
use Rattle.formula_eval.specs.Run.{Out, stops, need, Run, reads_of}

-- the cell itself, or its column as a key
abbrev pub Names : CellId → Read → Type 0
Names d (Cell c) = c ≡ d
Names d (Key t c) = (t ≡ d.table) × (c ≡ d.column)
Names d (Rows t) = ⊥

-- one of the reads names the cell
abbrev pub AnyNames : CellId → List Read → Type 0
AnyNames d [] = ⊥
AnyNames d (q ∷ qs) = Names d q ⊎ AnyNames d qs

module _ (x : Reader) where
  -- the reader tells that the cell is needed, and one of the reads names it
  abbrev pub IsNeeded : List Read → CellId → Type 0
  IsNeeded l d = (x.cell d ≡ needed) × AnyNames d l

  abbrev pub NamedOut : {A : Type 0} → List Read → Out A → Type 0
  NamedOut l (stops (need ds)) = AllByRecursion (IsNeeded l) ds
  NamedOut l o = Unit {0}

  -- each cell for which the run stops is needed, and named by the reads before it or its own
  abbrev pub Named : {A : Type 0} → List Read → Run A → Type 0
  Named pre a = NamedOut (pre ++ reads_of a.notes) a.out
