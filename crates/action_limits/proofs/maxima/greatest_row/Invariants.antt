use Rattle.std.proofs.Common.{◌≡◌, drop, map, max}
use Rattle.doc_model.specs.Column.{column_row}
use Rattle.doc_model.specs.Counts.{greatest}
use Rattle.action_limits.proofs.maxima.greatest_row.Given as goal

-- what is greatest so far and among those that are left
abbrev pub invariant-loop-column : goal.invariant-loop-column
invariant-loop-column l = max l.most (greatest (map column_row (drop l.column-index l.columns))) ≡ greatest (map column_row l.columns)
