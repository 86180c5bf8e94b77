use Rattle.shot_cells.proofs.SeenLemmas.{IsMaking}
use Rattle.shot_cells.proofs.places.make_places.Given as goal

-- the cells so far have a place
abbrev pub invariant-loop-cell : goal.invariant-loop-cell
invariant-loop-cell l = IsMaking l.initial.tables l.cells l.cell-index l.tables
