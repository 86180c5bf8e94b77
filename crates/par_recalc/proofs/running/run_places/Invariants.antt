use Rattle.std.proofs.Common.{take}
use Rattle.std.specs.List.{AllZip}
use Rattle.par_recalc.specs.Attempts.{IsAt, places_cells}
use Rattle.par_recalc.proofs.running.run_places.Given as goal

abbrev pub invariant-loop-place : goal.invariant-loop-place
invariant-loop-place g l =
    AllZip (IsAt (g.R.CellSource.told l.reader)) (places_cells (g.R.CellSource.told l.reader) l.columns (take l.place-index l.places)) l.all.items
