use Rattle.std.proofs.Common.{sym, ap, ◌∙◌}
use Rattle.row_tables.specs.RowIndexes.{taken_out}
use Rattle.row_tables.proofs.AddedLaws.{taken_out-append}
use Rattle.row_tables.proofs.table.RowTable.take_out.Goals as goal

pub loop-index-preserved : goal.loop-index-preserved
loop-index-preserved c = (
  c.loop-index.invariant.0,
  c.loop-index.invariant.1,
  c.loop-index.invariant.2,
  ap (taken_out c.pop.new.self.items) c.remove_at.ensures ∙ sym (taken_out-append c.pop.new.self.items c.in-Some.index c.loop-index.self-inside.rows.items)
      ∙ ap (λ ps. taken_out ps c.loop-index.self-inside.rows.items) (sym c.in-Some.ensures.items) ∙ c.loop-index.invariant.3,
  ap (taken_out c.pop.new.self.items) c.remove_at-in-Some.ensures ∙ sym (taken_out-append c.pop.new.self.items c.in-Some.index c.loop-index.self-inside.cells.items)
      ∙ ap (λ ps. taken_out ps c.loop-index.self-inside.cells.items) (sym c.in-Some.ensures.items) ∙ c.loop-index.invariant.4,
)
