use Rattle.std.proofs.Common.{sym, ap, ◌∙◌, arith}
use Rattle.row_tables.specs.InPlace.{rows_again, cells_again}
use Rattle.row_tables.proofs.TakenLaws.{rows_again-append, cells_again-append}
use Rattle.row_tables.proofs.removed.put_again.Goals as goal

pub loop-last-preserved : goal.loop-last-preserved
loop-last-preserved c =
    let fewer = c.in-Some.ensures.cases in
    let rows_room = c.loop-last.invariant.2 in
    let cells_room = c.loop-last.invariant.3 in
    let rows_len = c.insert_reserved.ensures.len in
    let rows_capacity = c.insert_reserved.ensures.capacity in
    let cells_len = c.insert_reserved-in-Some.ensures.len in
    let cells_capacity = c.insert_reserved-in-Some.ensures.capacity in (
      ap (rows_again c.pop.new.self.items) c.insert_reserved.ensures.items ∙ sym (rows_again-append c.pop.new.self.items c.in-Some.last c.loop-last.rows.items)
          ∙ ap (λ ts. rows_again ts c.loop-last.rows.items) (sym c.in-Some.ensures.items) ∙ c.loop-last.invariant.0,
      ap (cells_again c.pop.new.self.items) c.insert_reserved-in-Some.ensures.items ∙ sym (cells_again-append c.pop.new.self.items c.in-Some.last c.loop-last.cells.items)
          ∙ ap (λ ts. cells_again ts c.loop-last.cells.items) (sym c.in-Some.ensures.items) ∙ c.loop-last.invariant.1,
      omega arith,
      omega arith,
    )
