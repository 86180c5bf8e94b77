use Rattle.doc_model.proofs.RowIndexLaws.{searched_row}
use Rattle.doc_model.proofs.rows.search_row.Goals as goal

pub returns : goal.returns
returns c = searched_row c.args.rows.now c.args.row c.binary_search.result c.binary_search.ensures.position c.requires
