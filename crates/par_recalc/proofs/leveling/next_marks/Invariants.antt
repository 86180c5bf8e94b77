use Rattle.std.proofs.Common.{◌≡◌, ◌++◌, drop}
use Rattle.par_recalc.specs.Rounds.{next_marks}
use Rattle.par_recalc.proofs.leveling.next_marks.Given as goal

abbrev pub invariant-loop-place : goal.invariant-loop-place
invariant-loop-place l =
    l.next.items ++ next_marks l.waiting (drop l.place l.all) (drop l.place l.before) ≡ next_marks l.waiting l.all l.before
