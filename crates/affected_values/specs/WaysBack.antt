-- What leads back from the values after an update to those before it.
use Rattle.std.specs.Prelude.{ℕ, true, List, Some, unwrap_or, ◌≡◌}
use Rattle.std.specs.Option.{is_some}
use Rattle.cell_types.specs.declared.cell.CellId.{CellId}
use Rattle.doc_model.specs.declared.action.DocAction.TheVariants.{BulkUpdate}
use Rattle.doc_model.specs.declared.column.CellColumn.{CellColumn}
use Rattle.doc_model.specs.Apply.{apply}
use Rattle.doc_model.specs.Document.{Document}
use Rattle.doc_model.specs.Valid.{valid}
use Rattle.recalc.specs.declared.kept.KeptTable.{KeptTable}
use Rattle.recalc.specs.Evaluated.{formula_at, sheet_of}
use Rattle.recalc.specs.Kept.{IsEvaluated, IsKeptOf, held_at}
use Rattle.recalc.specs.Sheet.{evaluated}
use Rattle.affected_values.specs.declared.taking.HeldValue.{HeldValue}
use Rattle.affected_values.specs.Taken.{LeadsBack, taken_of}

-- what was taken leads from the values of the second document to those of the first
pub record LeadsOver (s t : Document) (taken : List HeldValue) : Type 0 where
  pub there : (c : CellId) → is_some (formula_at s c) ≡ true → is_some (formula_at t c) ≡ true
  pub values : (c : CellId) → is_some (formula_at s c) ≡ true
      → unwrap_or (taken_of taken c) (Some (evaluated (sheet_of t) c))
      ≡ Some (evaluated (sheet_of s) c)

-- what leads back from the values that are kept leads back over the update
abbrev pub LeadsOverLaw : Type 0
LeadsOverLaw =
    (s : Document) (t rows : List ℕ) (ks : List CellColumn) (taken : List HeldValue)
    (new old : List KeptTable)
    → valid s (BulkUpdate t rows ks) ≡ true → IsEvaluated s old
    → IsEvaluated (apply s (BulkUpdate t rows ks)) new
    → LeadsBack (apply s (BulkUpdate t rows ks)) taken new old
    → LeadsOver s (apply s (BulkUpdate t rows ks)) taken

-- put back among the values after the update, it makes them those before it
abbrev pub WayBackLaw : Type 0
WayBackLaw =
    (s : Document) (t rows : List ℕ) (ks : List CellColumn) (taken : List HeldValue)
    (now back : List KeptTable)
    → LeadsOver s (apply s (BulkUpdate t rows ks)) taken
    → IsEvaluated (apply s (BulkUpdate t rows ks)) now → IsKeptOf s back
    → ((c : CellId) → is_some (formula_at s c) ≡ true
    → held_at s back c ≡ unwrap_or (taken_of taken c) (held_at s now c))
    → IsEvaluated s back
