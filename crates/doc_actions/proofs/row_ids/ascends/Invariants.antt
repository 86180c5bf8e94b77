use Rattle.std.proofs.Common.{◌≡◌, drop}
use Rattle.doc_actions.specs.Parts.{ascends_from}
use Rattle.doc_actions.proofs.row_ids.ascends.Given as goal

-- the rest decides
abbrev pub invariant-loop-row : goal.invariant-loop-row
invariant-loop-row l = ascends_from l.least (drop l.row-index l.rows) ≡ ascends_from 0 l.rows
