use Rattle.std.proofs.Common.{sym, ap, ◌∙◌}
use Rattle.row_tables.specs.InPlace.{written_back}
use Rattle.row_tables.proofs.WrittenLaws.{written_back-append}
use Rattle.column_store.proofs.table.ColumnTable.write_back.Goals as goal

pub loop-write-preserved : goal.loop-write-preserved
loop-write-preserved c = (
  c.loop-write.invariant.0,
  c.loop-write.invariant.1,
  c.loop-write.invariant.2,
  c.loop-write.invariant.3,
  c.loop-write.invariant.4,
  c.write_cell.ensures.width ∙ c.loop-write.invariant.5,
  ap (written_back c.pop.new.self.items) c.write_cell.ensures.rows ∙ sym (written_back-append c.pop.new.self.items c.in-Some.write c.loop-write.self-inside.cells.rows)
      ∙ ap (λ ws. written_back ws c.loop-write.self-inside.cells.rows) (sym c.in-Some.ensures.items) ∙ c.loop-write.invariant.6,
)
