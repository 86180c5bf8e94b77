use Rattle.std.proofs.Common.{◌≡◌, drop}
use Rattle.par_recalc.specs.Rounds.{with_columns}
use Rattle.par_recalc.proofs.leveling.with_columns.Given as goal

abbrev pub invariant-loop-place : goal.invariant-loop-place
invariant-loop-place l = with_columns l.waiting (drop l.place l.own) (drop l.place l.before) ≡ with_columns l.fn.waiting l.own l.before
