use Rattle.std.proofs.Common.{◌≡◌, map, take}
use Rattle.doc_model.specs.Column.{column_id}
use Rattle.column_store.proofs.places.column_places.Given as goal

-- the first names stand in their places
abbrev pub invariant-loop-column : goal.invariant-loop-column
invariant-loop-column l = l.places ≡ map column_id (take l.column-index l.columns)
