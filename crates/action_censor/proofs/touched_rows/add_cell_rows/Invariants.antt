use Rattle.std.proofs.Common.{◌≡◌, ◌++◌, drop}
use Rattle.action_censor.specs.Touched.{cell_rows}
use Rattle.action_censor.proofs.touched_rows.add_cell_rows.Given as goal

-- the rows so far, with those that are left
abbrev pub invariant-loop-old : goal.invariant-loop-old
invariant-loop-old l = l.rows.items ++ cell_rows (drop l.old-index l.cells) l.id ≡ l.initial.rows.items ++ cell_rows l.cells l.id
