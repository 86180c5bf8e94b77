-- What is kept over rows of one table that come or go, and what leads back.
use Rattle.std.specs.Prelude.{ℕ, true, false, List, [], Some, unwrap_or, ◌≡◌}
use Rattle.std.specs.Option.{is_some}
use Rattle.cell_types.specs.declared.cell.CellId.{CellId}
use Rattle.doc_model.specs.Document.{Document}
use Rattle.dep_graph.specs.declared.numbers.CellNumber.{CellNumber}
use Rattle.dep_graph.specs.Graph.{Graph}
use Rattle.recalc.specs.declared.kept.KeptTable.{KeptTable}
use Rattle.recalc.specs.Evaluated.{formula_at, sheet_of}
use Rattle.recalc.specs.Kept.{IsEvaluated, held_at}
use Rattle.recalc.specs.Sheet.{evaluated}
use Rattle.recalc.specs.Stack.{on}
use Rattle.affected_search.specs.Actions.{KeepsOthers}
use Rattle.affected_search.specs.Sheets.{is_found}
use Rattle.affected_values.specs.declared.relaying.LaidAside.{LaidAside}
use Rattle.affected_values.specs.declared.taking.HeldValue.{HeldValue}
use Rattle.affected_values.specs.Carried.{HasCellsOf, moved_rows}
use Rattle.affected_values.specs.Relaid.{IsLaidAnew, IsLaidBack, IsMovedFrom, aside_at, is_beyond}
use Rattle.affected_values.specs.Taken.{IsRightBut, LeadsBack, taken_of}

-- over rows that come or go the values that were laid anew are known and right of all cells but
-- these, where these are the found ones and those of the rows
abbrev pub RightLaidLaw : Type 0
RightLaidLaw =
    (s now : Document) (id : List ℕ) (graph : Graph) (found : List CellNumber) (cells : List CellId)
    (old new : List KeptTable) (aside : LaidAside) (m : IsMovedFrom s now id)
    → KeepsOthers s graph m.action found
    → ((c : CellId) → is_found graph found c ≡ true → on cells c ≡ true)
    → HasCellsOf now id (moved_rows m.action) cells → IsEvaluated s old
    → IsLaidAnew s now id old new aside → IsRightBut now new cells

-- what was taken and what was laid aside lead from the values of the second document to those of
-- the first
pub record LeadsOverRows (s now : Document) (taken : List HeldValue) (aside : LaidAside) :
    Type 0 where
  pub there : (c : CellId) → is_some (formula_at s c) ≡ true → is_beyond now aside.table c ≡ false
      → is_some (formula_at now c) ≡ true
  pub stays : (c : CellId) → is_some (formula_at s c) ≡ true → is_beyond now aside.table c ≡ false
      → unwrap_or (taken_of taken c) (Some (evaluated (sheet_of now) c))
      ≡ Some (evaluated (sheet_of s) c)
  pub goes : (c : CellId) → is_some (formula_at s c) ≡ true → is_beyond now aside.table c ≡ true
      → aside_at s aside c ≡ Some (evaluated (sheet_of s) c)

-- what leads back to the values that were laid anew leads back over the rows
abbrev pub LeadsOverRowsLaw : Type 0
LeadsOverRowsLaw =
    (s now : Document) (id : List ℕ) (taken : List HeldValue) (old laid new : List KeptTable)
    (aside : LaidAside)
    → IsMovedFrom s now id → IsEvaluated s old → IsLaidAnew s now id old laid aside
    → IsEvaluated now new → LeadsBack now taken new laid → LeadsOverRows s now taken aside

-- what was taken put back, and the table laid back, the values are those of the first document
abbrev pub RowsBackLaw : Type 0
RowsBackLaw =
    (s now : Document) (taken : List HeldValue) (present put back : List KeptTable)
    (aside : LaidAside)
    → LeadsOverRows s now taken aside → IsEvaluated now present
    → ((c : CellId) → is_some (formula_at now c) ≡ true
    → held_at now put c ≡ unwrap_or (taken_of taken c) (held_at now present c))
    → IsLaidBack s now put back aside → IsEvaluated s back

-- so they are where the values that were laid anew are as they were
abbrev pub RowsLeftLaw : Type 0
RowsLeftLaw =
    (s now : Document) (id : List ℕ) (old laid new back : List KeptTable) (aside : LaidAside)
    → IsMovedFrom s now id → IsEvaluated s old → IsLaidAnew s now id old laid aside
    → LeadsBack now [] new laid → IsLaidBack s now new back aside → IsEvaluated s back
