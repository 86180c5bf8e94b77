use Rattle.std.proofs.Common.{◌≡◌, Ok}
use Rattle.std.specs.Fn.{FnReturnsAt}
use Rattle.cell_types.specs.declared.value.CellValue.{CellValue}
use Rattle.doc_readers.specs.Parts.{grid_at}
use Rattle.user_actions.proofs.UpdateLemmas.{AreChanged}
use Rattle.user_actions.proofs.cell_updates.changes.Given as goal

-- the cells so far, whatever function tells what becomes of one
abbrev pub invariant-loop-row : goal.invariant-loop-row
invariant-loop-row g l =
    (f : CellValue → CellValue) → ((x : CellValue) (y : CellValue) → FnReturnsAt g.F.Fn l.fn.change x (Ok y) → y ≡ f x)
    → AreChanged (grid_at (g.D.DocReader.document l.tables) l.table) l.column f l.rows l.row-index l.changed.items l.values.items
