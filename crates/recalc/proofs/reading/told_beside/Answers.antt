use Rattle.std.proofs.Common.{◌∙◌, ap, slice_get}
use Rattle.recalc.specs.Seen.{joined, told_or_needed}
use Rattle.recalc.proofs.ToldCells.{beside_absent, beside_there}
use Rattle.recalc.proofs.reading.told_beside.Goals as goal

pub returns-in-Some : goal.returns-in-Some
returns-in-Some c =
    c.needed_or.ensures ∙ ap told_or_needed (c.value_at.ensures ∙ ap (λ vs. joined (slice_get vs c.in-Some.index)) c.deref.ensures.value)
    ∙ beside_there c.args.rows.now c.args.held.now.values.items c.args.row c.in-Some.index c.requires c.in-Some.ensures

pub returns-in-None : goal.returns-in-None
returns-in-None c = beside_absent c.args.rows.now c.args.held.now.values.items c.args.row c.in-None.ensures
