use Rattle.std.proofs.Common.{◌≡◌, drop, max}
use Rattle.doc_model.specs.Counts.{greatest}
use Rattle.action_limits.proofs.maxima.greatest.Given as goal

-- what is greatest so far and among those that are left
abbrev pub invariant-loop-row : goal.invariant-loop-row
invariant-loop-row l = max l.most (greatest (drop l.row-index l.rows)) ≡ greatest l.rows
