use Rattle.std.proofs.Common.{ℕ, suc, List, ◌≡◌, ◌<◌, ◌≤◌, ◌+◌, ◌∷◌, ◌++◌, [], Vec, true, get_or, length, vec_len, vec_capacity, sym, ap, subst, ◌∙◌, arith}
use Rattle.std.proofs.lemmas.List.{get_or_default}
use Rattle.std.specs.Global.{Global}
use Rattle.std.specs.List.{AllByRecursion, remove}
use Rattle.cell_types.specs.declared.value.CellValue.{CellValue}
use Rattle.doc_model.specs.Rows.{has}
use Rattle.doc_model.specs.Indexes.{row_index, row_search}
use Rattle.doc_model.proofs.RowIndexLaws.{search_ok, search_err}
use Rattle.row_tables.specs.declared.removed.TakenRow.{TakenRow}
use Rattle.row_tables.proofs.TakenLaws.{not_there, taken}
use Rattle.row_tables.proofs.WrittenLaws.{index_found}
use Rattle.column_store.specs.Changes.{AreWide}
use Rattle.column_store.specs.Crossed.{AreRooms}
use Rattle.column_store.proofs.MoveLaws.{each_fewer, each_more, length_out, one_fewer}
use Rattle.column_store.proofs.removed.take_out.Goals as goal
use Rattle.column_store.proofs.removed.take_out.Goals.{in-Ok, in_default-search_row}

-- the list that is given for a row
spare : (w : ℕ) (lists left : List (Vec CellValue Global)) (list : Vec CellValue Global) → AreRooms w lists → lists ≡ left ++ list ∷ [] → AreRooms w left × ((vec_len list ≡ 0) × (w ≤ vec_capacity list))
spare w lists left list h e = each_fewer (λ v. (vec_len v ≡ 0) × (w ≤ vec_capacity v)) left list (subst (AreRooms w) e h)

pub remove-row-requires : goal.remove-row-requires
remove-row-requires c =
    let row : ℕ = get_or c.args.gone.now c.loop-row.row-index 0 in
    let there : (has c.loop-row.rows.items row ≡ true) × (c.in-Ok.index ≡ row_index row c.loop-row.rows.items)
    = search_ok row c.in-Ok.index c.loop-row.rows.items (c.in-Ok.ensures ∙ ap (row_search row) c.deref.ensures.value) in
    let found : (row_index row c.loop-row.rows.items < length c.loop-row.rows.items) × (get_or c.loop-row.rows.items (row_index row c.loop-row.rows.items) 0 ≡ row)
    = index_found row c.loop-row.rows.items c.loop-row.invariant.0.ascending there.0 in
    let at = there.1 in
    let within = found.0 in
    let kept = c.loop-row.rows.ok.0 in
    omega arith

pub take_row-cells-requires-clause-none : goal.take_row-cells-requires-clause-none
take_row-cells-requires-clause-none c = (spare c.args.cells.now.width c.loop-row.lists.items c.pop.new.self.items c.in-Some.list c.loop-row.invariant.5 c.in-Some.ensures.items).1.0

pub take_row-cells-requires-clause-room : goal.take_row-cells-requires-clause-room
take_row-cells-requires-clause-room c =
    let room = (spare c.args.cells.now.width c.loop-row.lists.items c.pop.new.self.items c.in-Some.list c.loop-row.invariant.5 c.in-Some.ensures.items).1.1 in
    let same = c.loop-row.invariant.4 in
    omega arith

pub loop-row-preserved : goal.loop-row-preserved
loop-row-preserved c =
    let i : ℕ = c.loop-row.row-index in
    let width : ℕ = c.args.cells.now.width in
    let row : ℕ = get_or c.args.gone.now i 0 in
    let read : row ≡ get_or c.args.gone.now i row = get_or_default c.args.gone.now i 0 row c.loop-row-test.true in
    let beside = c.loop-row.invariant.1 in
    let sum = c.loop-row.invariant.2 in
    let room = c.loop-row.invariant.3 in
    let before = c.loop-row-test.true in
    let lists = spare width c.loop-row.lists.items c.pop.new.self.items c.in-Some.list c.loop-row.invariant.5 c.in-Some.ensures.items in
    let one : length c.loop-row.lists.items ≡ suc (length c.pop.new.self.items) = one_fewer c.loop-row.lists.items c.pop.new.self.items c.in-Some.list c.in-Some.ensures.items in
    let enough = c.loop-row.invariant.6 in
    elim c.match-search_row.branch [
      | in-Ok w ↦
          let there : (has c.loop-row.rows.items row ≡ true) × (w.in-Ok.index ≡ row_index row c.loop-row.rows.items)
          = search_ok row w.in-Ok.index c.loop-row.rows.items (w.in-Ok.ensures ∙ ap (row_search row) c.deref.ensures.value) in
          let found : (row_index row c.loop-row.rows.items < length c.loop-row.rows.items) × (get_or c.loop-row.rows.items (row_index row c.loop-row.rows.items) 0 ≡ row)
          = index_found row c.loop-row.rows.items c.loop-row.invariant.0.ascending there.0 in
          let at = there.1 in
          let inside = found.0 in
          let rows_kept = c.loop-row.rows.ok.0 in
          let within : w.in-Ok.index < length c.loop-row.cells.rows = omega arith in
          let t : TakenRow = record { index = w.in-Ok.index; row = w.remove-row.result; cells = w.take_row-cells.result.items } in
          let value : t.cells ≡ get_or c.loop-row.cells.rows t.index t.cells = w.take_row-cells.ensures.cells ∙ get_or_default c.loop-row.cells.rows w.in-Ok.index [] w.take_row-cells.result.items within in
          let rows_len = w.remove-row.ensures.len in
          let taken_len = w.push_reserved.ensures.len in
          let taken_capacity = w.push_reserved.ensures.capacity in
          let rows_is = ap vec_len w.rows-is in
          let cells_are : c.match-search_row.cells.rows ≡ remove c.loop-row.cells.rows w.in-Ok.index = ap (λ v. v.rows) w.cells-is ∙ w.take_row-cells.ensures.rows in
          let cells_len : length c.match-search_row.cells.rows + 1 ≡ length c.loop-row.cells.rows = ap (λ n. n + 1) (ap length cells_are) ∙ length_out c.loop-row.cells.rows w.in-Ok.index within in
          let taken_is = ap vec_len w.taken-is in
          let capacity_is = ap vec_capacity w.taken-is in
          let wide : length t.cells ≡ width = w.take_row-cells.ensures.each ∙ c.loop-row.invariant.4 in (
            taken c.args.gone.now c.args.rows.now.items c.loop-row.rows.items c.args.cells.now.rows c.loop-row.cells.rows i row c.loop-row.taken.items c.loop-row.invariant.0 before read
                t c.match-search_row.rows.items c.match-search_row.cells.rows c.match-search_row.taken.items there.0 at within w.remove-row.ensures.value value
                (ap (λ v. v.items) w.rows-is ∙ w.remove-row.ensures.items) cells_are (ap (λ v. v.items) w.taken-is ∙ w.push_reserved.ensures.items),
            omega arith,
            omega arith,
            omega arith,
            ap (λ v. v.width) w.cells-is ∙ w.take_row-cells.ensures.width ∙ c.loop-row.invariant.4,
            lists.0,
            omega arith,
            subst (AreWide width) (sym (ap (λ v. v.items) w.taken-is ∙ w.push_reserved.ensures.items)) (each_more (λ (t : TakenRow). length t.cells ≡ width) c.loop-row.taken.items t c.loop-row.invariant.7 wide),
          )
      | in_default-search_row w ↦
          let rows_is = ap vec_len w.rows-is in
          let cells_is = ap (λ v. length v.rows) w.cells-is in
          let taken_is = ap vec_len w.taken-is in
          let capacity_is = ap vec_capacity w.taken-is in (
            not_there c.args.gone.now c.args.rows.now.items c.loop-row.rows.items c.args.cells.now.rows c.loop-row.cells.rows i row c.loop-row.taken.items c.loop-row.invariant.0 before read
                c.match-search_row.rows.items c.match-search_row.cells.rows c.match-search_row.taken.items (ap (λ v. v.items) w.rows-is) (ap (λ v. v.rows) w.cells-is) (ap (λ v. v.items) w.taken-is)
                (search_err row w.in_default-search_row.field-0 c.loop-row.rows.items (w.in_default-search_row.ensures ∙ ap (row_search row) c.deref.ensures.value)),
            omega arith,
            omega arith,
            omega arith,
            ap (λ v. v.width) w.cells-is ∙ c.loop-row.invariant.4,
            lists.0,
            omega arith,
            subst (AreWide width) (sym (ap (λ v. v.items) w.taken-is)) c.loop-row.invariant.7,
          )
    ]
