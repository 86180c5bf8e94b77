use Rattle.std.proofs.Common.{ℕ, suc, List, Vec, insert, length, min, ◌≡◌, ◌-◌, ◌+◌, ◌<◌, ◌≤◌, sym, ap, subst, ◌∙◌, arith}
use Rattle.std.specs.Global.{Global}
use Rattle.cell_types.specs.declared.value.CellValue.{CellValue}
use Rattle.column_store.specs.Crossed.{HaveHeight, HaveRoom, Rows, all_items, crossed}
use Rattle.column_store.proofs.ColumnLaws.{insert_end}
use Rattle.column_store.proofs.CrossedLaws.{length_crossed, insert_crossed, len_map}
use Rattle.column_store.proofs.FrontLaws.{insert_height, room_each, room_fewer}
use Rattle.column_store.proofs.columns.CellColumns.insert_row.Goals as goal

-- room for one row more in each column
one_more : (room now : ℕ) (cols : List (Vec CellValue Global)) → HaveRoom 0 room cols → room ≡ now → 0 < now → HaveRoom (length cols) (room - 1) cols
one_more room now cols h e some =
    let more : room ≡ suc (room - 1) = omega arith in
    room_each (room - 1) cols (subst (λ r. HaveRoom 0 r cols) more h)

within : (h index at : ℕ) → at ≡ min index h → at ≤ h
within h index at e = omega (arith, e)

pub insert_each-requires-clause-room : goal.insert_each-requires-clause-room
insert_each-requires-clause-room c =
    let cols : List (Vec CellValue Global) = c.self.inside.columns.items in
    room_fewer (c.self.inside.room - 1) cols (one_more c.self.inside.room c.args.self.now.room cols c.self.invariant.1 (ap (λ (r : Rows). r.room) c.self.view_is) c.requires.room)

pub overflow_add-self : goal.overflow_add-self
overflow_add-self c =
    let h : ℕ = c.self.inside.height in
    let high : length c.args.self.now.rows ≡ h = sym (ap (λ (r : Rows). length r.rows) c.self.view_is) ∙ length_crossed h (all_items c.self.inside.columns.items) in
    let few = c.requires.few in
    omega arith

pub returns-clause-rows : goal.returns-clause-rows
returns-clause-rows c =
    let h : ℕ = c.self.inside.height in
    let cols : List (List CellValue) = all_items c.self.inside.columns.items in
    let high : length c.args.self.now.rows ≡ h = sym (ap (λ (r : Rows). length r.rows) c.self.view_is) ∙ length_crossed h cols in
    let wide : length c.self.inside.columns.items ≡ c.args.self.now.width = ap (λ (r : Rows). r.width) c.self.view_is in
    let each = c.requires.each in
    let all = len_map (λ (v : Vec CellValue Global). v.items) c.self.inside.columns.items in
    let next : h + 1 ≡ suc h = omega arith in
    ap (λ n. crossed n (all_items c.insert_each.new.columns.items)) next
    ∙ ap (crossed (suc h)) c.insert_each.ensures.columns
    ∙ insert_crossed h cols c.min.result c.args.cells.items c.self.invariant.0 (within h c.args.index c.min.result c.min.ensures) (omega arith)
    ∙ ap (λ i. insert (crossed h cols) i c.args.cells.items) c.min.ensures
    ∙ insert_end (crossed h cols) c.args.index h c.args.cells.items (length_crossed h cols)
    ∙ ap (λ (r : Rows). insert r.rows c.args.index c.args.cells.items) c.self.view_is

pub invariant_of-self : goal.invariant_of-self
invariant_of-self c =
    let h : ℕ = c.self.inside.height in
    let vecs : List (Vec CellValue Global) = c.self.inside.columns.items in
    let cols : List (List CellValue) = all_items vecs in
    let high : length c.args.self.now.rows ≡ h = sym (ap (λ (r : Rows). length r.rows) c.self.view_is) ∙ length_crossed h cols in
    let wide : length vecs ≡ c.args.self.now.width = ap (λ (r : Rows). r.width) c.self.view_is in
    let each = c.requires.each in
    let all = len_map (λ (v : Vec CellValue Global). v.items) vecs in
    let next : suc h ≡ h + 1 = omega arith in (
      subst (λ n. HaveHeight n (all_items c.insert_each.new.columns.items)) next
          (subst (HaveHeight (suc h)) (sym c.insert_each.ensures.columns)
          (insert_height h c.min.result c.args.cells.items cols c.self.invariant.0 (within h c.args.index c.min.result c.min.ensures) (omega arith))),
      c.insert_each.ensures.room (c.self.inside.room - 1)
          (one_more c.self.inside.room c.args.self.now.room vecs c.self.invariant.1 (ap (λ (r : Rows). r.room) c.self.view_is) c.requires.room),
    )
