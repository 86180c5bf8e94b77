use Rattle.std.proofs.Common.{sym, ap, ◌∙◌}
use Rattle.std.specs.Str.{bytes_eq}
use Rattle.row_tables.proofs.StepLaws.{find_at}
use Rattle.column_store.proofs.steps.walked_index.Goals as goal

pub returns-then-is_same_id : goal.returns-then-is_same_id
returns-then-is_same_id c = (
  c.loop-index-test.true,
  find_at c.args.tables.now c.args.id.now c.loop-index.index c.index-tables-index.result c.loop-index-test.true c.index-tables-index.is
      (sym (ap (λ n. bytes_eq n c.args.id.now) c.id.ensures) ∙ sym c.is_same_id.ensures ∙ c.if-is_same_id.true)
      ∙ c.loop-index.invariant,
)
