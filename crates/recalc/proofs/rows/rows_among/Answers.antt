use Rattle.std.proofs.Common.{◌∙◌, ap, filter}
use Rattle.doc_model.specs.Rows.{has}
use Rattle.recalc.proofs.SortedRows.{among}
use Rattle.recalc.proofs.rows.rows_among.Goals as goal

pub returns : goal.returns
returns c =
    among c.args.named.items c.in_ok-sorted.sorted.items c.args.rows.now c.in_ok-there.there.items c.in_ok-sorted.ensures.ascending c.requires c.in_ok-sorted.ensures.same
    (c.in_ok-there.ensures ∙ ap (filter (has c.args.rows.now)) c.as_slice.ensures.value)
