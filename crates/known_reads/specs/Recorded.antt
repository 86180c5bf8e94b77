-- Cells whose notes are recorded as their values are found.
use Rattle.std.specs.Prelude.{ℕ, true, false, ◌&&◌, List, Some, ◌≡◌}
use Rattle.std.specs.Option.{is_some}
use Rattle.cell_types.specs.declared.cell.CellId.{CellId}
use Rattle.cell_types.specs.declared.column_type.ColType.{ColType}
use Rattle.doc_model.specs.Document.{Document}
use Rattle.formula_eval.specs.declared.note.Note.{Note}
use Rattle.formula_eval.specs.declared.outcome.Tried.{Tried}
use Rattle.formula_eval.specs.declared.outcome.Tried.TheVariants.{Value as Given, Need as Lacks}
use Rattle.recalc.specs.Evaluated.{formula_at, sheet_of}
use Rattle.recalc.specs.Sheet.{IsIn, Sheet, Values, evaluated, fit_in}
use Rattle.recalc.specs.Stack.{IsOpen, Waits, count, is_open, on}
use Rattle.affected_cells.specs.Bound.{names}
use Rattle.affected_cells.specs.Noted.{notes}
use Rattle.affected_search.specs.ExactNotes.{HasNotesOf}
use Rattle.par_recalc.specs.declared.running.Found.{Found}
use Rattle.par_recalc.specs.declared.running.Found.TheVariants.{Value, Need}
use Rattle.known_reads.specs.Beside.{Beside, is_stale}
use Rattle.known_reads.specs.Known.{IsRead, KeepsReads}

-- what an attempt leads to, its value fitted to the column's type
abbrev pub IsFitted : Found → ColType → Tried → List Note → Type 0
IsFitted (Value w l) k (Given v) noted = (w ≡ fit_in (Some k) v) × (l ≡ noted)
IsFitted (Value w l) k (Lacks e) noted = ⊥
IsFitted (Need d) k (Given v) noted = ⊥
IsFitted (Need d) k (Lacks e) noted = d ≡ e

-- what is found of a cell: its value and what its run notes, or an open cell for which it waits,
-- and which its reads name
abbrev pub IsTold : Sheet → Values → CellId → Found → Type 0
IsTold s k c (Value v noted) = (evaluated s c ≡ v) × (notes s c ≡ noted)
IsTold s k c (Need d) = Waits s c d × IsOpen s k d × (names s c d ≡ true)

-- the graph has just what the cell notes, or is stale of it; what it had it has, and it is stale of
-- what it was stale of
pub record IsNotedOf (old new : Beside) (s : Sheet) (c : CellId) : Type 0 where
  pub here : is_stale new c ≡ false → HasNotesOf new.graph s c
  pub others : KeepsReads s old.graph new.graph
  pub stale : (d : CellId) → is_stale old d ≡ true → is_stale new d ≡ true

-- from the first values to the second the graph came to have the notes of each cell whose value
-- became known, but of those of which it is stale
pub record IsRecording (s : Document) (k : Values) (old : Beside) (j : Values) (new : Beside) :
    Type 0 where
  pub read : (c : CellId) → is_some (k c) ≡ false → is_some (j c) ≡ true
      → is_stale new c ≡ false → HasNotesOf new.graph (sheet_of s) c
  pub others : KeepsReads (sheet_of s) old.graph new.graph
  pub stale : (c : CellId) → is_stale old c ≡ true → is_stale new c ≡ true

-- the formula cells without a value are among these
abbrev pub HasOpen : Sheet → Values → List CellId → Type 0
HasOpen s k cells = (c : CellId) → IsOpen s k c → IsIn c cells

-- how many of the cells have no value
abbrev pub open_count : Values → List CellId → ℕ
open_count k cells = count (is_open k) cells

-- the graph has just what each cell that is not stale notes, but of these
abbrev pub KnowsBut : Document → Beside → List CellId → Type 0
KnowsBut s known cells = (c : CellId) → is_stale known c ≡ false → on cells c ≡ false
    → IsRead s known.graph c

-- the same, but of formula cells among these
abbrev pub KnowsButFormulas : Document → Beside → List CellId → Type 0
KnowsButFormulas s known cells = (c : CellId) → is_stale known c ≡ false
    → (on cells c && is_some (formula_at s c)) ≡ false → IsRead s known.graph c
