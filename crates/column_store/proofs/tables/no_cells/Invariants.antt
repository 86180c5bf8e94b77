use Rattle.std.proofs.Common.{◌≡◌, None, map, take}
use Rattle.std.specs.Option.{option_copied}
use Rattle.column_store.proofs.tables.no_cells.Given as goal

abbrev pub invariant-loop-row : goal.invariant-loop-row
invariant-loop-row l = map option_copied l.cells.items ≡ map (λ _. None) (take l._row-index l.rows)
