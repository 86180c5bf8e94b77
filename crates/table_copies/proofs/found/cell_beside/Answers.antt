use Rattle.doc_model.proofs.RowIndexLaws.{search_ok}
use Rattle.table_copies.proofs.FoundLemmas.{cell_found}
use Rattle.table_copies.proofs.found.cell_beside.Goals as goal

pub returns-in-Ok : goal.returns-in-Ok
returns-in-Ok c =
    cell_found c.args.row c.in-Ok.index c.args.rows.now c.args.cells.now c.get.result c.requires.ascending c.requires.beside
    (search_ok c.args.row c.in-Ok.index c.args.rows.now c.in-Ok.ensures) c.get.ensures.lookup.2 c.get.ensures.lookup.1
