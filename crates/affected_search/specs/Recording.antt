-- A cell's reads as one attempt over known values records them.
use Rattle.std.specs.Prelude.{List, ℕ, Option, Some, ◌≡◌}
use Rattle.cell_types.specs.declared.cell.CellId.{CellId}
use Rattle.formula_parse.specs.FormulaOf.{formula_of}
use Rattle.formula_parse.specs.Tree.{Tree}
use Rattle.formula_eval.specs.Reader.{Reader, needed}
use Rattle.recalc.specs.Sheet.{Sheet, evaluated, over}
use Rattle.dep_graph.specs.Graph.{Graph}
use Rattle.affected_search.specs.Upkeep.{IsRecordedOf}

-- the reader tells the value of each formula cell
abbrev pub NeedsNone : Reader → Type 0
NeedsNone x = (c : CellId) → x.cell c ≡ needed → ⊥

-- of each sheet that is so read, all its values known, and has this formula in the cell
abbrev pub RecordsCell : Reader → Option Tree → Graph → Graph → CellId → Type 0
RecordsCell x tree old new c = (s : Sheet) (f : List ℕ) → s.formula c ≡ Some f
    → formula_of f ≡ tree → x ≡ over s (λ d. Some (evaluated s d)) → IsRecordedOf new old s c
