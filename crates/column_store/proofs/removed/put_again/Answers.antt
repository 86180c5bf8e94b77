use Rattle.std.proofs.Common.{◌≡◌, ◌+◌, insert, length, sym, ap, subst, ◌∙◌, arith}
use Rattle.row_tables.specs.InPlace.{rows_again, cells_again}
use Rattle.row_tables.specs.declared.removed.TakenRow.{TakenRow}
use Rattle.row_tables.proofs.TakenLaws.{rows_again-append, cells_again-append}
use Rattle.column_store.specs.Changes.{AreWide}
use Rattle.column_store.proofs.MoveLaws.{each_fewer, length_put}
use Rattle.column_store.proofs.removed.put_again.Goals as goal

pub loop-last-preserved : goal.loop-last-preserved
loop-last-preserved c =
    let fewer = c.in-Some.ensures.cases in
    let rows_room = c.loop-last.invariant.2 in
    let cells_room = c.loop-last.invariant.3 in
    let sum = c.loop-last.invariant.4 in
    let rows_len = c.insert_reserved.ensures.len in
    let rows_capacity = c.insert_reserved.ensures.capacity in
    let less = c.insert_row.ensures.room in
    let more : length c.insert_row.new.self.rows ≡ length c.loop-last.cells.rows + 1 = ap length c.insert_row.ensures.rows ∙ length_put c.loop-last.cells.rows c.last.inside.index c.last.inside.cells.items in
    let wide = each_fewer (λ (t : TakenRow). length t.cells ≡ c.args.cells.now.width) c.pop.new.self.items c.in-Some.last (subst (AreWide c.args.cells.now.width) c.in-Some.ensures.items c.loop-last.invariant.6) in (
      ap (rows_again c.pop.new.self.items) (c.insert_reserved.ensures.items ∙ ap (λ (t : TakenRow). insert c.loop-last.rows.items t.index t.row) c.last.view_is)
          ∙ sym (rows_again-append c.pop.new.self.items c.in-Some.last c.loop-last.rows.items)
          ∙ ap (λ ts. rows_again ts c.loop-last.rows.items) (sym c.in-Some.ensures.items) ∙ c.loop-last.invariant.0,
      ap (cells_again c.pop.new.self.items) (c.insert_row.ensures.rows ∙ ap (λ (t : TakenRow). insert c.loop-last.cells.rows t.index t.cells) c.last.view_is)
          ∙ sym (cells_again-append c.pop.new.self.items c.in-Some.last c.loop-last.cells.rows)
          ∙ ap (λ ts. cells_again ts c.loop-last.cells.rows) (sym c.in-Some.ensures.items) ∙ c.loop-last.invariant.1,
      omega arith,
      omega arith,
      omega arith,
      c.insert_row.ensures.width ∙ c.loop-last.invariant.5,
      wide.0,
    )
