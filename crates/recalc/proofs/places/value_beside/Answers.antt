use Rattle.std.proofs.Common.{◌∙◌, ap, slice_get}
use Rattle.recalc.specs.Seen.{joined}
use Rattle.recalc.proofs.PlaceLemmas.{held-get, held-none}
use Rattle.recalc.proofs.places.value_beside.Goals as goal

pub returns-in-Some : goal.returns-in-Some
returns-in-Some c =
    c.value_at.ensures ∙ ap (λ vs. joined (slice_get vs c.in-Some.index)) c.deref.ensures.value
    ∙ held-get c.args.rows.now c.args.column.now.values.items c.in-Some.index c.args.row c.requires c.in-Some.ensures

pub returns-in-None : goal.returns-in-None
returns-in-None c = held-none c.args.rows.now c.args.column.now.values.items c.args.row c.in-None.ensures
