-- The cells that an action may lose: those of formula columns, and those in rows that it touches.
use Rattle.std.specs.Prelude.{Bool, true, false, ◌||◌, filter, Some, None, ◌≡◌}
use Rattle.cell_types.specs.declared.cell.CellId.{CellId}
use Rattle.cell_types.specs.declared.cell.CellOld.{CellOld}
use Rattle.doc_model.specs.declared.action.DocAction.{DocAction}
use Rattle.doc_model.specs.Apply.{apply}
use Rattle.doc_model.specs.Document.{Document}
use Rattle.doc_model.specs.DocumentLaws.{IsWhole}
use Rattle.doc_model.specs.Touched.{is_row_touched}
use Rattle.doc_model.specs.Valid.{valid}
use Rattle.recalc.specs.Evaluated.{column_in, filled}
use Rattle.recalc.specs.Lost.{all_cells, is_lost, lost}

-- whether the cell stands in a formula column
abbrev pub is_computed : Document → CellId → Bool
is_computed s c = elim (column_in s c.table c.column) [ None ↦ false | Some d ↦ d.info.is_formula ]

abbrev pub is_watched : Document → DocAction → CellOld → Bool
is_watched s a o = is_computed s o.cell || is_row_touched s a o.cell.table o.cell.row

-- they are all that can be lost
abbrev pub WatchedLaw : Type 0
WatchedLaw =
    (s : Document) (a : DocAction) → IsWhole s → valid s a ≡ true
    → lost s (apply s a) a
    ≡ filter (is_lost (filled (apply s a)) a) (filter (is_watched s a) (all_cells (filled s)))
