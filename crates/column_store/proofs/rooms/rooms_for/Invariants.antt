use Rattle.std.proofs.Common.{◌≡◌, length}
use Rattle.column_store.specs.Crossed.{AreRooms}
use Rattle.column_store.proofs.rooms.rooms_for.Given as goal

-- so many are made
abbrev pub invariant-loop-column : goal.invariant-loop-column
invariant-loop-column l = AreRooms l.cells l.rooms.items × (length l.rooms.items ≡ l._column)
