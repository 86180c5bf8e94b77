use Rattle.std.proofs.Common.{◌≡◌, ◌+◌, drop}
use Rattle.row_tables.specs.InPlace.{id_index}
use Rattle.column_store.proofs.look.index_of_id.Given as goal

-- the index is behind those that were passed
abbrev pub invariant-loop-index : goal.invariant-loop-index
invariant-loop-index l = id_index l.id l.columns ≡ l.index + id_index l.id (drop l.index l.columns)
