use Rattle.std.proofs.Common.{◌∙◌}
use Rattle.doc_readers.proofs.RowIdLemmas.{found_has}
use Rattle.doc_readers.proofs.row_ids.holds_row.Goals as goal

pub returns : goal.returns
returns c =
    c.is_ok.ensures.value
    ∙ found_has c.args.rows.now c.args.row c.binary_search.result c.requires c.binary_search.ensures.position
