use Rattle.std.proofs.Common.{◌≡◌, map, take}
use Rattle.doc_model.specs.Column.{start_of}
use Rattle.column_store.proofs.reshaped.starts.Given as goal

-- so many are made
abbrev pub invariant-loop-row : goal.invariant-loop-row
invariant-loop-row l = l.cells.items ≡ map (λ _. start_of l.column) (take l._row-index l.rows)
