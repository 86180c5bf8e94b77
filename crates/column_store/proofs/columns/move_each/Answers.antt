use Rattle.std.proofs.Common.{ℕ, suc, List, Vec, get_or, set, length, vec_len, vec_capacity, ◌≡◌, ◌<◌, ◌≤◌, ◌+◌, ◌∷◌, ◌++◌, [], refl, sym, ap, subst, ◌∙◌, arith}
use Rattle.std.proofs.lemmas.List.{length-set}
use Rattle.std.specs.Global.{Global}
use Rattle.cell_types.specs.declared.value.CellValue.{CellValue}
use Rattle.column_store.specs.Crossed.{AreRooms, HaveHeight, RoomFrom, all_items}
use Rattle.column_store.proofs.CrossedLaws.{column_height, items_at, len_map}
use Rattle.column_store.proofs.FrontLaws.{from_none, from_all, from_set, items_same}
use Rattle.column_store.proofs.MoveLaws.{each_fewer, one_fewer}
use Rattle.column_store.proofs.columns.move_each.Goals as goal

pub loop-room-init : goal.loop-room-init
loop-room-init c =
    let each = c.requires.each in
    (refl, refl, omega arith, c.requires.rooms, subst (λ n. RoomFrom n c.args.more c.args.columns.now.items) (sym each) (from_none c.args.more c.args.columns.now.items))

-- the column at an index is as high as all
high : (n j : ℕ) (before cols : List (Vec CellValue Global)) (v : Vec CellValue Global) → HaveHeight n (all_items before) → all_items cols ≡ all_items before → j < length cols → v ≡ get_or cols j v → vec_len v ≡ n
high n j before cols v h e l is =
    let tall : HaveHeight n (all_items cols) = subst (HaveHeight n) (sym e) h in
    let all : length (all_items cols) ≡ length cols = len_map (λ (u : Vec CellValue Global). u.items) cols in
    let len : length (get_or (all_items cols) j []) ≡ n = column_height n (all_items cols) j tall (omega arith) in
    let read : length (get_or (all_items cols) j []) ≡ length v.items = ap length (items_at cols j v l ∙ ap (λ (u : Vec CellValue Global). u.items) (sym is)) in
    let counted = v.ok.0 in
    omega arith

pub move_to-requires : goal.move_to-requires
move_to-requires c =
    let cols : List (Vec CellValue Global) = c.loop-room.columns.items in
    let left : ℕ = length c.pop.new.self.items in
    let more : length c.loop-room.rooms.items ≡ suc left = one_fewer c.loop-room.rooms.items c.pop.new.self.items c.in-Some.room c.in-Some.ensures.items in
    let at : c.len-column.result ≡ left = omega (arith, c.len-column.ensures, c.pop.new.self.ok.0) in
    let fewer = c.loop-room.invariant.2 in
    let rooms = each_fewer (λ v. (vec_len v ≡ 0) × (c.args.height + c.args.more ≤ vec_capacity v)) c.pop.new.self.items c.in-Some.room (subst (AreRooms (c.args.height + c.args.more)) c.in-Some.ensures.items c.loop-room.invariant.3) in
    let room = rooms.1.1 in
    let tall : vec_len c.index_mut.result.now ≡ c.args.height = high c.args.height c.len-column.result c.args.columns.now.items cols c.index_mut.result.now c.requires.height c.loop-room.invariant.0 (omega arith) c.index_mut.ensures.value in
    omega arith

pub loop-room-preserved : goal.loop-room-preserved
loop-room-preserved c =
    let cols : List (Vec CellValue Global) = c.loop-room.columns.items in
    let left : ℕ = length c.pop.new.self.items in
    let more : length c.loop-room.rooms.items ≡ suc left = one_fewer c.loop-room.rooms.items c.pop.new.self.items c.in-Some.room c.in-Some.ensures.items in
    let at : c.len-column.result ≡ left = omega (arith, c.len-column.ensures, c.pop.new.self.ok.0) in
    let fewer = c.loop-room.invariant.2 in
    let within : c.len-column.result < length cols = omega arith in
    let rooms = each_fewer (λ v. (vec_len v ≡ 0) × (c.args.height + c.args.more ≤ vec_capacity v)) c.pop.new.self.items c.in-Some.room (subst (AreRooms (c.args.height + c.args.more)) c.in-Some.ensures.items c.loop-room.invariant.3) in
    let room = rooms.1.1 in
    let tall : vec_len c.index_mut.result.now ≡ c.args.height = high c.args.height c.len-column.result c.args.columns.now.items cols c.index_mut.result.now c.requires.height c.loop-room.invariant.0 within c.index_mut.ensures.value in
    let stays = c.move_to.ensures.len in
    let grown = c.move_to.ensures.capacity in
    let enough : vec_len c.move_to.new.items + c.args.more ≤ vec_capacity c.move_to.new.items = omega arith in
    let len = length-set cols c.len-column.result c.move_to.new.items in
    let next : length c.loop-room.rooms.items ≡ suc c.len-column.result = omega arith in (
      items_same cols c.len-column.result c.index_mut.result.now c.move_to.new.items c.index_mut.ensures.value c.move_to.ensures.items ∙ c.loop-room.invariant.0,
      len ∙ c.loop-room.invariant.1,
      omega arith,
      rooms.0,
      subst (λ n. RoomFrom n c.args.more (set cols c.len-column.result c.move_to.new.items)) at
          (from_set c.args.more c.len-column.result cols c.move_to.new.items (subst (λ n. RoomFrom n c.args.more cols) next c.loop-room.invariant.4) within enough),
    )

pub returns-clause-room : goal.returns-clause-room
returns-clause-room c =
    let counted = c.loop-room.rooms.ok.0 in
    let empty = c.in_default.ensures.cases.0 in
    let none : length c.loop-room.rooms.items ≡ 0 = omega arith in
    from_all c.args.more c.loop-room.columns.items (subst (λ n. RoomFrom n c.args.more c.loop-room.columns.items) none c.loop-room.invariant.4)
