use Rattle.std.proofs.Common.{sym, ap, ◌∙◌}
use Rattle.std.specs.Str.{bytes_eq}
use Rattle.row_tables.proofs.StepLaws.{find_at}
use Rattle.row_tables.proofs.steps.index_of_table.Goals as goal

pub returns-then-eq : goal.returns-then-eq
returns-then-eq c = (
  c.loop-index-test.true,
  find_at c.args.tables.now c.args.id.now c.loop-index.index c.index-tables-index.result c.loop-index-test.true c.index-tables-index.is
      (sym (ap (λ n. bytes_eq n c.args.id.now) (c.as_str.ensures.value ∙ c.id.ensures)) ∙ sym (ap (bytes_eq c.as_str.result.now) c.as_str-in-loop-index.ensures.value) ∙ sym c.eq.ensures ∙ c.if-eq.true)
      ∙ c.loop-index.invariant,
)
