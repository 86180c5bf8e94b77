-- A graph of reads beside the values of a document, which may not be right of some cells.
use Rattle.std.specs.Prelude.{ℕ, Bool, true, false, cond, List, [], ◌∷◌, ◌++◌, Option, Some, None, ◌≡◌}
use Rattle.std.specs.Option.{is_some}
use Rattle.cell_types.specs.declared.cell.CellId.{CellId}
use Rattle.doc_model.specs.declared.action.DocAction.TheVariants.{BulkUpdate}
use Rattle.doc_model.specs.declared.column.CellColumn.{CellColumn}
use Rattle.doc_model.specs.Apply.{apply}
use Rattle.doc_model.specs.Document.{Document}
use Rattle.doc_model.specs.Valid.{valid}
use Rattle.dep_graph.specs.declared.numbers.CellNumber.{CellNumber}
use Rattle.dep_graph.specs.Graph.{Graph}
use Rattle.dep_graph.specs.Named.{Were}
use Rattle.dep_graph.specs.Sources.{Source, sources}
use Rattle.recalc.specs.Cells.{same_cell}
use Rattle.recalc.specs.Evaluated.{formula_at, sheet_of}
use Rattle.recalc.specs.Stack.{on}
use Rattle.affected_cells.specs.Noted.{notes}
use Rattle.affected_search.specs.Actions.{KeepsOthers}
use Rattle.affected_search.specs.ExactNotes.{HasNotes}
use Rattle.affected_search.specs.Sheets.{is_found}
use Rattle.known_reads.specs.Known.{IsRead}
use Rattle.known_reads.specs.Laid.{all_laid}

-- a graph, and the cells of which it is not right yet; what was noted of cells that came to read
-- something else; and what cells read that was laid aside
pub record Beside : Type 0 where
  pub graph : Graph
  pub stale : List CellId
  pub log : List Were
  pub owed : List (List Were)

-- whether the graph may not be right of the cell
abbrev pub is_stale : Beside → CellId → Bool
is_stale known c = on known.stale c

-- what the first note of a cell says that it read
abbrev pub were : List Were → CellId → Option (List Source)
were [] c = None
were (w ∷ ws) c = cond (same_cell w.cell c) (Some w.reads) (were ws c)

-- the graph has just what each cell that is not stale notes
abbrev pub KnowsOthers : Document → Beside → Type 0
KnowsOthers s known = (c : CellId) → is_stale known c ≡ false → IsRead s known.graph c

-- where it was noted what the cell reads, that is right; else the graph has just what it notes
abbrev pub IsKnownBy : Document → Graph → CellId → Option (List Source) → Type 0
IsKnownBy s graph c None = IsRead s graph c
IsKnownBy s graph c (Some xs) = xs ≡ sources (notes (sheet_of s) c)

-- so it is of each cell
abbrev pub KnowsWith : Document → Graph → List Were → Type 0
KnowsWith s graph ws = (c : CellId) → IsKnownBy s graph c (were ws c)

-- the graph has just what each cell notes, once what was laid aside is recorded again
pub record KnowsReads (s : Document) (known : Beside) : Type 0 where
  pub none : known.stale ≡ []
  pub each : KnowsWith s known.graph (all_laid known.owed)

-- it has, and nothing is laid aside
pub record KnowsExact (s : Document) (known : Beside) : Type 0 where
  pub none : known.stale ≡ []
  pub owed : known.owed ≡ []
  pub each : HasNotes known.graph (sheet_of s)

-- the documents have the same formula cells, and each but these notes the same in both
pub record ReadsSameBut (s t : Document) (cells : List CellId) : Type 0 where
  pub there : (c : CellId) → is_some (formula_at s c) ≡ is_some (formula_at t c)
  pub same : (c : CellId) → is_some (formula_at s c) ≡ true → on cells c ≡ false
      → notes (sheet_of s) c ≡ notes (sheet_of t) c

-- what a cell reads in the second document that was noted so; else it reads there what it reads in
-- the first, in which it has a formula if it has one there
abbrev pub IsReadThere : Document → Document → CellId → Option (List Source) → Type 0
IsReadThere now s c (Some xs) = xs ≡ sources (notes (sheet_of s) c)
IsReadThere now s c None =
    (is_some (formula_at s c) ≡ true → is_some (formula_at now c) ≡ true)
    × (sources (notes (sheet_of now) c) ≡ sources (notes (sheet_of s) c))

-- the notes lead from what cells read in the first document to what they read in the second
abbrev pub LeadsReads : Document → Document → List Were → Type 0
LeadsReads now s ws = (c : CellId) → IsReadThere now s c (were ws c)

-- so once they are laid aside it is known what cells read in the second
abbrev pub LaidLaw : Type 0
LaidLaw = (now s : Document) (graph : Graph) (ws laid : List Were) → LeadsReads now s ws
    → KnowsWith now graph laid → KnowsWith s graph (ws ++ laid)

-- over an update each formula cell but the found ones notes the same
abbrev pub ReadsSameLaw : Type 0
ReadsSameLaw =
    (s : Document) (t rows : List ℕ) (ks : List CellColumn) (graph : Graph)
    (found : List CellNumber) (cells : List CellId)
    → valid s (BulkUpdate t rows ks) ≡ true → KeepsOthers s graph (BulkUpdate t rows ks) found
    → ((c : CellId) → is_found graph found c ≡ true → on cells c ≡ true)
    → ReadsSameBut s (apply s (BulkUpdate t rows ks)) cells
