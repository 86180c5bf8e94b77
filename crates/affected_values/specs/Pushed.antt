-- Formula cells of a document put last.
use Rattle.std.specs.Prelude.{Bool, true, false, List, ◌≡◌}
use Rattle.std.specs.Option.{is_some}
use Rattle.cell_types.specs.declared.cell.CellId.{CellId}
use Rattle.doc_model.specs.Document.{Document}
use Rattle.recalc.specs.Evaluated.{formula_at}
use Rattle.recalc.specs.Stack.{on}

-- the formula cells that pass the test were put to the cells, and no others
pub record ArePushed (s : Document) (test : CellId → Bool) (old new : List CellId) : Type 0 where
  pub stays : (c : CellId) → on old c ≡ true → on new c ≡ true
  pub pushed : (c : CellId) → test c ≡ true → is_some (formula_at s c) ≡ true → on new c ≡ true
  pub only : (c : CellId) → on new c ≡ true → on old c ≡ false → test c ≡ true
