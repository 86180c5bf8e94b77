use Rattle.std.proofs.Common.{◌≡◌, take}
use Rattle.cell_types.proofs.sequence.SequenceSame.same_as.Given as goal

abbrev pub invariant-loop-place : goal.invariant-loop-place
invariant-loop-place g l =
    take l.place l.self-inside.items.items ≡ take l.place l.other-inside.items.items
