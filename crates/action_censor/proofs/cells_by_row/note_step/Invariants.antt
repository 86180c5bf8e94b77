use Rattle.std.proofs.Common.{◌≡◌, ◌++◌, ℕ, take}
use Rattle.action_censor.specs.ToldCells.{cells_at, told_in_row}
use Rattle.action_censor.proofs.cells_by_row.note_step.Given as goal

-- the cells so far, under each row
abbrev pub invariant-loop-old : goal.invariant-loop-old
invariant-loop-old l = (r : ℕ) → cells_at l.noted r ≡ cells_at l.initial.noted r ++ told_in_row l.id r (take l.old-index l.cells)
