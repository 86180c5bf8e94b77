-- Which cells a change attempts.
use Rattle.std.specs.Prelude.{true, List, ◌≡◌}
use Rattle.std.specs.Option.{is_some}
use Rattle.cell_types.specs.declared.cell.CellId.{CellId}
use Rattle.doc_model.specs.declared.action.DocAction.{DocAction}
use Rattle.doc_model.specs.Apply.{apply}
use Rattle.doc_model.specs.Document.{Document}
use Rattle.doc_model.specs.Valid.{valid}
use Rattle.recalc.specs.Evaluated.{formula_at}
use Rattle.recalc.specs.Stack.{on}
use Rattle.affected_cells.specs.Affected.{affected}

-- those of the cells that are formula cells after a valid action are cells that it may affect
abbrev pub AreAffected : Document → DocAction → List CellId → Type 0
AreAffected s a cells = valid s a ≡ true → (c : CellId) → on cells c ≡ true
    → is_some (formula_at (apply s a) c) ≡ true → affected s a c ≡ true
