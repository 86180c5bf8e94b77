use Rattle.std.proofs.Common.{ap, ◌+◌, drop, ◌∙◌}
use Rattle.std.specs.Option.{option_copied}
use Rattle.doc_model.specs.Records.{or_else}
use Rattle.row_tables.specs.RowIndexes.{given_at}
use Rattle.row_tables.proofs.Latest.{copied-or, given_step}
use Rattle.column_store.proofs.given.given_value.Goals as goal

pub loop-column-preserved : goal.loop-column-preserved
loop-column-preserved c =
    ap (or_else (given_at (drop (c.loop-column.column-index + 1) c.args.columns.now) c.args.id.now c.args.index))
    (ap option_copied c.or-last.ensures ∙ copied-or c.value_of.result c.loop-column.last ∙ ap (λ o. or_else o (option_copied c.loop-column.last)) c.value_of.ensures)
    ∙ given_step c.args.columns.now c.args.id.now c.args.index c.loop-column.column-index c.column-item.result (option_copied c.loop-column.last) c.loop-column-test.true c.column-item.is
    ∙ c.loop-column.invariant
