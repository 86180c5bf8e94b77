use Rattle.std.proofs.Common.{◌≡◌, map, take}
use Rattle.std.specs.Option.{option_copied}
use Rattle.doc_model.specs.Readers.{cell_at}
use Rattle.recalc.specs.Evaluated.{filled_by}
use Rattle.shot_cells.specs.Places.{seen_at}
use Rattle.shot_cells.proofs.document.ShotDocument.formula_values.Given as goal

-- the values so far
abbrev pub invariant-loop-row : goal.invariant-loop-row
invariant-loop-row g l =
    map option_copied l.values.items ≡ map (cell_at (filled_by (seen_at l.self.cells.tables) (g.D.DocReader.document l.self.tables)) l.table l.column) (take l.row-index l.rows)
