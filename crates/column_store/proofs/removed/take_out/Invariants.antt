use Rattle.std.proofs.Common.{◌≡◌, ◌≤◌, ◌+◌, ◌-◌, length, vec_len, vec_capacity}
use Rattle.row_tables.proofs.TakenLaws.{IsTaking}
use Rattle.column_store.specs.Changes.{AreWide}
use Rattle.column_store.specs.Crossed.{AreRooms}
use Rattle.column_store.proofs.removed.take_out.Given as goal

-- as many rows as cells are there, and there is room to note those that go
abbrev pub invariant-loop-row : goal.invariant-loop-row
invariant-loop-row l =
    IsTaking l.gone l.initial.rows.items l.rows.items l.initial.cells.rows l.cells.rows l.row-index l.taken.items
    × (length l.cells.rows ≡ vec_len l.rows) × (vec_len l.rows + vec_len l.taken ≡ vec_len l.initial.rows)
    × (vec_len l.taken + (length l.gone - l.row-index) ≤ vec_capacity l.taken)
    × (l.cells.width ≡ l.initial.cells.width) × AreRooms l.initial.cells.width l.lists.items
    × (length l.lists.items + l.row-index ≡ length l.gone) × AreWide l.initial.cells.width l.taken.items
