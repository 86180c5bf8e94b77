use Rattle.std.proofs.Common.{◌∙◌}
use Rattle.doc_readers.proofs.ToldLemmas.{has_by_rows}
use Rattle.doc_readers.proofs.table_readers.has_table.Goals as goal

pub returns : goal.returns
returns g c =
    c.is_some.ensures
    ∙ has_by_rows (g.D.DocReader.document c.args.tables.now) c.args.table.now c.rows.result c.rows.ensures.told
