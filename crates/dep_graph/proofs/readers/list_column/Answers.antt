use Rattle.std.proofs.Common.{sym, ◌∙◌, ap, length, ◌==◌}
use Rattle.std.proofs.lemmas.Bool.{true≢false}
use Rattle.dep_graph.specs.Readers.{lists_of}
use Rattle.dep_graph.proofs.ReaderLaws.{column_by_row}
use Rattle.dep_graph.proofs.readers.list_column.Goals as goal

pub returns-then-not-is_empty-clause-there : goal.returns-then-not-is_empty-clause-there
returns-then-not-is_empty-clause-there c =
    column_by_row (lists_of c.args.rows.now c.args.columns.now.entries) c.args.read c.args.cell c.rows_for.result.now c.requires (sym c.rows_for.ensures.rows)
    (λ none. true≢false (sym (c.is_empty.ensures ∙ ap (λ rows. length rows == 0) none) ∙ c.if-not-is_empty.true))
