use Rattle.std.proofs.Common.{◌≡◌, take}
use Rattle.view_patch.specs.Given.{last_row}
use Rattle.view_patch.proofs.given.last_index.Given as goal

abbrev pub invariant-loop-index : goal.invariant-loop-index
invariant-loop-index l = l.found ≡ last_row (take l.index l.rows) l.row
