use Rattle.censored_view.proofs.ShownRows.{cell_told}
use Rattle.censored_view.proofs.document_row.DocumentRowRowReader.cell.Goals as goal

pub returns : goal.returns
returns g c = cell_told (g.D.DocReader.document c.args.self.now.tables.now) c.args.self.now.table.now c.args.column.now c.args.self.now.row c.cell.result c.cell.ensures
