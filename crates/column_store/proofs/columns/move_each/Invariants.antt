use Rattle.std.proofs.Common.{◌≡◌, ◌≤◌, ◌+◌, length}
use Rattle.column_store.specs.Crossed.{AreRooms, RoomFrom, all_items}
use Rattle.column_store.proofs.columns.move_each.Given as goal

-- the cells stay, and the last columns have room
abbrev pub invariant-loop-room : goal.invariant-loop-room
invariant-loop-room l =
    (all_items l.columns.items ≡ all_items l.initial.columns.items)
    × (length l.columns.items ≡ length l.initial.columns.items)
    × (length l.rooms.items ≤ length l.columns.items)
    × AreRooms (l.height + l.more) l.rooms.items
    × RoomFrom (length l.rooms.items) l.more l.columns.items

abbrev pub decreases-loop-room : goal.decreases-loop-room
decreases-loop-room l = length l.rooms.items
