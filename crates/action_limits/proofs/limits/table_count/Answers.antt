use Rattle.std.proofs.Common.{◌∙◌, ◌+◌, sym, ap, length}
use Rattle.doc_readers.specs.Parts.{grid_at}
use Rattle.action_limits.proofs.CountedLemmas.{tables_counted, tables_told}
use Rattle.action_limits.proofs.limits.table_count.Goals as goal

pub returns-clause-all : goal.returns-clause-all
returns-clause-all g c =
    let s = g.D.DocReader.document c.args.tables.now in
    ap (λ rows. length rows + 4) c.rows_in.ensures.value
    ∙ ap (λ id. length (grid_at s id).rows + 4) c.tables_table.ensures
    ∙ sym (tables_told s c.requires)

pub returns-clause-plain : goal.returns-clause-plain
returns-clause-plain g c =
    let s = g.D.DocReader.document c.args.tables.now in
    ap (λ rows. length rows + 4) c.rows_in.ensures.value
    ∙ ap (λ id. length (grid_at s id).rows + 4) c.tables_table.ensures
    ∙ ap (λ n. n + 4) (tables_counted s c.requires)
