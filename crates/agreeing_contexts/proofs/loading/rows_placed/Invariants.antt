use Rattle.std.proofs.Common.{◌≡◌, map, take}
use Rattle.agreeing_contexts.proofs.loading.rows_placed.Given as goal

abbrev pub invariant-loop-row : goal.invariant-loop-row
invariant-loop-row l = l.rows.items ≡ map (λ p. p.1) (take l.row-index l.placed)
