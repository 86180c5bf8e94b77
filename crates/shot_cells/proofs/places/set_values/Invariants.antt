use Rattle.shot_cells.proofs.SeenLemmas.{IsSetting}
use Rattle.shot_cells.proofs.places.set_values.Given as goal

-- the values behind those that are left are set
abbrev pub invariant-loop-value : goal.invariant-loop-value
invariant-loop-value l = IsSetting l.initial.tables l.cells l.initial.values.items l.values.items l.tables

abbrev pub decreases-loop-value : goal.decreases-loop-value
decreases-loop-value l = goal.left-loop-value l
