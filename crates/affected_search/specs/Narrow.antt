-- The cells that an action on records loses, looked for among the found ones alone, and among those
-- of the rows and columns that it writes or removes.
use Rattle.std.specs.Prelude.{Bool, true, ◌&&◌, ◌||◌, filter, List, ◌≡◌}
use Rattle.cell_types.specs.declared.cell.CellOld.{CellOld}
use Rattle.doc_model.specs.declared.action.DocAction.{DocAction}
use Rattle.doc_model.specs.Apply.{apply}
use Rattle.doc_model.specs.Document.{Document}
use Rattle.doc_model.specs.DocumentLaws.{IsWhole}
use Rattle.doc_model.specs.Valid.{valid}
use Rattle.dep_graph.specs.declared.numbers.CellNumber.{CellNumber}
use Rattle.dep_graph.specs.Graph.{Graph}
use Rattle.recalc.specs.Evaluated.{filled}
use Rattle.recalc.specs.Lost.{all_cells, is_lost, lost}
use Rattle.recalc.specs.MayLose.{is_record, may_lose_column, may_lose_row}
use Rattle.affected_search.specs.Actions.{KeepsOthers}
use Rattle.affected_search.specs.Sheets.{is_found}

-- whether the action writes or removes the cell
abbrev pub is_written : Document → DocAction → CellOld → Bool
is_written v a o = may_lose_column a o.cell.column && may_lose_row v a o.cell.table o.cell.row

-- whether the cell is found, or written or removed
abbrev pub is_narrow : Graph → List CellNumber → Document → DocAction → CellOld → Bool
is_narrow graph cells v a o = is_found graph cells o.cell || is_written v a o

-- these are all that an action on records can lose
abbrev pub NarrowLaw : Type 0
NarrowLaw = (s : Document) (a : DocAction) (graph : Graph) (cells : List CellNumber)
    → IsWhole s → valid s a ≡ true → is_record a ≡ true → KeepsOthers s graph a cells
    → lost s (apply s a) a
    ≡ filter (is_lost (filled (apply s a)) a)
    (filter (is_narrow graph cells (filled s) a) (all_cells (filled s)))
