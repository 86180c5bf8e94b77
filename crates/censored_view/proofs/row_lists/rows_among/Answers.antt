use Rattle.std.proofs.Common.{◌∙◌, ap, filter}
use Rattle.doc_model.specs.Rows.{has}
use Rattle.censored_view.proofs.SortedRows.{among}
use Rattle.censored_view.proofs.row_lists.rows_among.Goals as goal

pub returns : goal.returns
returns c =
    among c.args.wanted.items c.in_ok-sorted.sorted.items c.args.rows.now c.in_ok-there.there.items c.in_ok-sorted.ensures.ascending c.requires c.in_ok-sorted.ensures.same
    (c.in_ok-there.ensures ∙ ap (filter (has c.args.rows.now)) c.as_slice.ensures.value)
