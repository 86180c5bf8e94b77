use Rattle.std.proofs.Common.{◌≡◌, take}
use Rattle.view_patch.specs.Given.{last_named}
use Rattle.view_patch.proofs.given.named_index.Given as goal

abbrev pub invariant-loop-index : goal.invariant-loop-index
invariant-loop-index l = l.found ≡ last_named (take l.index l.columns) l.id
