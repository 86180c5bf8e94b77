use Rattle.std.proofs.Common.{sym, ap, ◌∙◌}
use Rattle.std.specs.Option.{is_some}
use Rattle.doc_model.specs.Column.{column_id}
use Rattle.doc_model.proofs.ByIdsLaws.{has_id-find}
use Rattle.doc_readers.specs.Parts.{grid_at}
use Rattle.doc_readers.proofs.ToldLemmas.{some_copied}
use Rattle.doc_readers.proofs.table_readers.has_column.Goals as goal

pub returns : goal.returns
returns g c =
    c.is_some.ensures ∙ some_copied c.find_column.result ∙ ap is_some c.find_column.ensures
    ∙ sym (has_id-find column_id c.args.id.now (grid_at (g.D.DocReader.document c.args.tables.now) c.args.table.now).columns)
