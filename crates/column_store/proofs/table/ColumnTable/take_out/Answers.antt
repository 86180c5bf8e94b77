use Rattle.std.proofs.Common.{sym, ap, ◌∙◌}
use Rattle.row_tables.specs.RowIndexes.{taken_out}
use Rattle.row_tables.proofs.AddedLaws.{taken_out-append}
use Rattle.column_store.proofs.table.ColumnTable.take_out.Goals as goal

pub loop-index-preserved : goal.loop-index-preserved
loop-index-preserved c = (
  c.loop-index.invariant.0,
  c.loop-index.invariant.1,
  c.loop-index.invariant.2,
  c.loop-index.invariant.3,
  c.remove_at-in-Some.ensures.width ∙ c.loop-index.invariant.4,
  ap (taken_out c.pop.new.self.items) c.remove_at.ensures.items ∙ sym (taken_out-append c.pop.new.self.items c.in-Some.index c.loop-index.self-inside.rows.items)
      ∙ ap (λ ps. taken_out ps c.loop-index.self-inside.rows.items) (sym c.in-Some.ensures.items) ∙ c.loop-index.invariant.5,
  ap (taken_out c.pop.new.self.items) c.remove_at-in-Some.ensures.rows ∙ sym (taken_out-append c.pop.new.self.items c.in-Some.index c.loop-index.self-inside.cells.rows)
      ∙ ap (λ ps. taken_out ps c.loop-index.self-inside.cells.rows) (sym c.in-Some.ensures.items) ∙ c.loop-index.invariant.6,
)
