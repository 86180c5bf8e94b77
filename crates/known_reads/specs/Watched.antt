-- A graph of which it is noted what cells read that come to read something else.
use Rattle.std.specs.Prelude.{ℕ, true, false, List, Some, None, ◌≡◌}
use Rattle.std.specs.Option.{is_some}
use Rattle.cell_types.specs.declared.cell.CellId.{CellId}
use Rattle.doc_model.specs.Document.{Document}
use Rattle.dep_graph.specs.declared.numbers.CellNumber.{CellNumber}
use Rattle.dep_graph.specs.Graph.{Graph}
use Rattle.dep_graph.specs.Named.{Were}
use Rattle.dep_graph.specs.Names.{IsGrown}
use Rattle.dep_graph.specs.Records.{reads_under}
use Rattle.dep_graph.specs.Sources.{Source, cell_in}
use Rattle.dep_graph.specs.Were.{HadReads}
use Rattle.recalc.specs.Cells.{same_cell}
use Rattle.recalc.specs.Evaluated.{formula_at, sheet_of}
use Rattle.recalc.specs.Stack.{on}
use Rattle.affected_search.specs.ExactNotes.{HasNotes}
use Rattle.known_reads.specs.Beside.{Beside, LeadsReads, is_stale, were}

-- the second graph has of the cell what the first one has, also once more names have numbers
abbrev pub HasSameReadsOf : Graph → Graph → CellId → Type 0
HasSameReadsOf old new c = (names : List (List ℕ)) (k : CellNumber) → IsGrown new.names names
    → cell_in names c ≡ Some k → reads_under new.reads k ≡ reads_under old.reads k

-- numbers stay, and what is read of all cells but this one
pub record KeepsOthersOf (old new : Graph) (cell : CellId) : Type 0 where
  pub grown : IsGrown old.names new.names
  pub same : (c : CellId) → same_cell cell c ≡ false → HasSameReadsOf old new c

-- numbers stay, and what is read of all cells but these
pub record KeepsAllBut (old new : Graph) (cells : List CellId) : Type 0 where
  pub grown : IsGrown old.names new.names
  pub same : (c : CellId) → on cells c ≡ false → HasSameReadsOf old new c

-- of a cell that is not noted the second graph has what the first one has, and it is not stale of
-- it where the first was not; what is noted of others is what the first one had, and stays noted
pub record IsWatched (old new : Beside) : Type 0 where
  pub grown : IsGrown old.graph.names new.graph.names
  pub same : (c : CellId) → were new.log c ≡ None → HasSameReadsOf old.graph new.graph c
  pub fresh : (c : CellId) → were new.log c ≡ None → is_stale new c ≡ true
      → is_stale old c ≡ true
  pub logged : (c : CellId) (xs : List Source) → were old.log c ≡ None
      → were new.log c ≡ Some xs → HadReads old.graph c xs
  pub kept : (c : CellId) (xs : List Source) → were old.log c ≡ Some xs
      → were new.log c ≡ Some xs
  pub owed : new.owed ≡ old.owed

-- it is noted of the cell what it read, where it has no formula any more
abbrev pub IsGoneNoted : Document → Beside → Beside → CellId → Type 0
IsGoneNoted s old new c = formula_at s c ≡ None
    → is_some (cell_in old.graph.names c) ≡ true → is_some (were new.log c) ≡ true

-- what was noted leads from what cells read in the document to what they read in one of which the
-- graph was right before, and in which the same cells but these have formulas
abbrev pub AreBefore : Document → Beside → List CellId → List Were → Type 0
AreBefore t old cells log = (s : Document) → HasNotes old.graph (sheet_of s)
    → ((c : CellId) → on cells c ≡ false
    → is_some (formula_at t c) ≡ is_some (formula_at s c))
    → LeadsReads t s log
