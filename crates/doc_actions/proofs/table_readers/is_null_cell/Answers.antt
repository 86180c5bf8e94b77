use Rattle.doc_actions.proofs.ToldLemmas.{null_absent}
use Rattle.doc_actions.proofs.table_readers.is_null_cell.Goals as goal

pub returns-in-None : goal.returns-in-None
returns-in-None g c = null_absent (g.D.DocReader.document c.args.tables.now) c.args.table.now c.args.column.now c.args.row c.in-None.ensures
