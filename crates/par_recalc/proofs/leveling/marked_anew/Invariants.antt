use Rattle.std.proofs.Common.{◌≡◌, ◌++◌, drop}
use Rattle.par_recalc.specs.Levels.{marked_anew}
use Rattle.par_recalc.proofs.leveling.marked_anew.Given as goal

abbrev pub invariant-loop-place : goal.invariant-loop-place
invariant-loop-place l = l.places.items ++ marked_anew l.place (drop l.place l.before) (drop l.place l.after) ≡ marked_anew 0 l.before l.after
