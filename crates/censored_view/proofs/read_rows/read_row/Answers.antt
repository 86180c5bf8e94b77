use Rattle.censored_view.proofs.ReadLemmas.{row_read}
use Rattle.censored_view.proofs.read_rows.read_row.Goals as goal

pub returns : goal.returns
returns g c = row_read (g.D.DocReader.document c.args.tables.now) c.args.table.now c.args.rows.now c.args.place c.args.row c.requires.there c.args.columns.now c.requires.read
