use Rattle.std.proofs.Common.{◌≡◌, ◌≤◌, ◌∷◌, ◌++◌, ◌+◌, [], length, sym, subst, ap, ◌∙◌, vec_len, vec_capacity, arith}
use Rattle.column_store.specs.Crossed.{AreRooms}
use Rattle.column_store.proofs.MoveLaws.{each_more, length_more}
use Rattle.column_store.proofs.rooms.rooms_for.Goals as goal

pub loop-column-preserved : goal.loop-column-preserved
loop-column-preserved c = (
  subst (AreRooms c.args.cells) (sym c.in_ok-push.ensures.items)
      (each_more (λ v. (vec_len v ≡ 0) × (c.args.cells ≤ vec_capacity v)) c.loop-column.rooms.items c.in_ok-room_for.field-0 c.loop-column.invariant.0 (c.in_ok-room_for.ensures.len, c.in_ok-room_for.ensures.room)),
  ap length c.in_ok-push.ensures.items ∙ length_more c.loop-column.rooms.items c.in_ok-room_for.field-0 ∙ ap (λ n. n + 1) c.loop-column.invariant.1,
)
