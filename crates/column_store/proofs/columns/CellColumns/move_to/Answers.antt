use Rattle.std.proofs.Common.{ℕ, ◌≡◌, ◌+◌, length, sym, ap, subst, ◌∙◌}
use Rattle.column_store.specs.Crossed.{AreRooms, Rows, all_items}
use Rattle.column_store.proofs.CrossedLaws.{length_crossed}
use Rattle.column_store.proofs.columns.CellColumns.move_to.Goals as goal

pub move_each-requires-clause-rooms : goal.move_each-requires-clause-rooms
move_each-requires-clause-rooms c =
    let h : ℕ = c.self.inside.height in
    let high : length c.args.self.now.rows ≡ h = sym (ap (λ (r : Rows). length r.rows) c.self.view_is) ∙ length_crossed h (all_items c.self.inside.columns.items) in
    subst (λ n. AreRooms (n + c.args.more) c.args.rooms.items) high c.requires.rooms
