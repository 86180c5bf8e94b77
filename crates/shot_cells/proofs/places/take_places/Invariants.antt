use Rattle.std.proofs.Common.{◌≡◌, None, take}
use Rattle.shot_cells.specs.Places.{place_at, with_each}
use Rattle.shot_cells.proofs.places.take_places.Given as goal

-- the cells so far have none
abbrev pub invariant-loop-cell : goal.invariant-loop-cell
invariant-loop-cell l = place_at l.tables ≡ with_each (take l.cell-index l.cells) None (place_at l.initial.tables)
