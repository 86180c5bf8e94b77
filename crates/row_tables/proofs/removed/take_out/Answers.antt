use Rattle.std.proofs.Common.{ℕ, ◌≡◌, ◌<◌, true, get_or, length, vec_len, vec_capacity, ap, ◌∙◌, arith}
use Rattle.std.proofs.lemmas.List.{get_or_default}
use Rattle.doc_model.specs.Rows.{has}
use Rattle.doc_model.specs.Indexes.{row_index, row_search}
use Rattle.row_tables.specs.declared.removed.TakenRow.{TakenRow}
use Rattle.doc_model.proofs.RowIndexLaws.{search_ok, search_err}
use Rattle.row_tables.proofs.TakenLaws.{not_there, taken}
use Rattle.row_tables.proofs.WrittenLaws.{index_found}
use Rattle.row_tables.proofs.removed.take_out.Goals as goal
use Rattle.row_tables.proofs.removed.take_out.Goals.{in-Ok, in_default}

pub remove-row-requires : goal.remove-row-requires
remove-row-requires c =
    let row : ℕ = get_or c.args.gone.now c.loop-row.row-index 0 in
    let there : (has c.loop-row.rows.items row ≡ true) × (c.in-Ok.index ≡ row_index row c.loop-row.rows.items)
    = search_ok row c.in-Ok.index c.loop-row.rows.items (c.in-Ok.ensures ∙ ap (row_search row) c.deref.ensures.value) in
    let found : (row_index row c.loop-row.rows.items < length c.loop-row.rows.items) × (get_or c.loop-row.rows.items (row_index row c.loop-row.rows.items) 0 ≡ row)
    = index_found row c.loop-row.rows.items c.loop-row.invariant.0.ascending there.0 in
    let at = there.1 in
    let within = found.0 in
    let kept = c.loop-row.rows.ok.0 in
    omega arith

pub loop-row-preserved : goal.loop-row-preserved
loop-row-preserved c =
    let i : ℕ = c.loop-row.row-index in
    let row : ℕ = get_or c.args.gone.now i 0 in
    let read : row ≡ get_or c.args.gone.now i row = get_or_default c.args.gone.now i 0 row c.loop-row-test.true in
    let beside = c.loop-row.invariant.1 in
    let sum = c.loop-row.invariant.2 in
    let room = c.loop-row.invariant.3 in
    let before = c.loop-row-test.true in
    elim c.match-search_row.branch [
      | in-Ok w ↦
          let there : (has c.loop-row.rows.items row ≡ true) × (w.in-Ok.index ≡ row_index row c.loop-row.rows.items)
          = search_ok row w.in-Ok.index c.loop-row.rows.items (w.in-Ok.ensures ∙ ap (row_search row) c.deref.ensures.value) in
          let found : (row_index row c.loop-row.rows.items < length c.loop-row.rows.items) × (get_or c.loop-row.rows.items (row_index row c.loop-row.rows.items) 0 ≡ row)
          = index_found row c.loop-row.rows.items c.loop-row.invariant.0.ascending there.0 in
          let at = there.1 in
          let inside = found.0 in
          let rows_kept = c.loop-row.rows.ok.0 in
          let cells_kept = c.loop-row.cells.ok.0 in
          let within : w.in-Ok.index < length c.loop-row.cells.items = omega arith in
          let t : TakenRow = record { index = w.in-Ok.index; row = w.remove-row.result; cells = w.remove-cells.result } in
          let rows_len = w.remove-row.ensures.len in
          let cells_len = w.remove-cells.ensures.len in
          let taken_len = w.push_reserved.ensures.len in
          let taken_capacity = w.push_reserved.ensures.capacity in
          let rows_is = ap vec_len w.rows-is in
          let cells_is = ap vec_len w.cells-is in
          let taken_is = ap vec_len w.taken-is in
          let capacity_is = ap vec_capacity w.taken-is in (
            taken c.args.gone.now c.args.rows.now.items c.loop-row.rows.items c.args.cells.now.items c.loop-row.cells.items i row c.loop-row.taken.items c.loop-row.invariant.0 before read
                t c.match-search_row.rows.items c.match-search_row.cells.items c.match-search_row.taken.items there.0 at within w.remove-row.ensures.value w.remove-cells.ensures.value
                (ap (λ v. v.items) w.rows-is ∙ w.remove-row.ensures.items) (ap (λ v. v.items) w.cells-is ∙ w.remove-cells.ensures.items) (ap (λ v. v.items) w.taken-is ∙ w.push_reserved.ensures.items),
            omega arith,
            omega arith,
            omega arith,
          )
      | in_default w ↦
          let rows_is = ap vec_len w.rows-is in
          let cells_is = ap vec_len w.cells-is in
          let taken_is = ap vec_len w.taken-is in
          let capacity_is = ap vec_capacity w.taken-is in (
            not_there c.args.gone.now c.args.rows.now.items c.loop-row.rows.items c.args.cells.now.items c.loop-row.cells.items i row c.loop-row.taken.items c.loop-row.invariant.0 before read
                c.match-search_row.rows.items c.match-search_row.cells.items c.match-search_row.taken.items (ap (λ v. v.items) w.rows-is) (ap (λ v. v.items) w.cells-is) (ap (λ v. v.items) w.taken-is)
                (search_err row w.in_default.field-0 c.loop-row.rows.items (w.in_default.ensures ∙ ap (row_search row) c.deref.ensures.value)),
            omega arith,
            omega arith,
            omega arith,
          )
    ]
