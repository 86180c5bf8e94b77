use Rattle.std.proofs.Common.{◌∙◌, sym, ap, ◌++◌, [], ◌∷◌, map, None, length, ◌<◌, get_or, take, arith}
use Rattle.std.proofs.lemmas.List.{take_more, map-append}
use Rattle.recalc.proofs.KeptLemmas.{none_each}
use Rattle.recalc.proofs.blank.blank_values.Goals as goal

pub loop-row-preserved : goal.loop-row-preserved
loop-row-preserved c =
    let within : c.loop-row._row-index < length c.args.rows.now = omega arith in
    c.in_ok-push.ensures.items ∙ ap (λ l. l ++ None ∷ []) c.loop-row.invariant
    ∙ sym (map-append none_each (take c.loop-row._row-index c.args.rows.now) (get_or c.args.rows.now c.loop-row._row-index 0 ∷ []))
    ∙ ap (map none_each) (sym (take_more c.args.rows.now c.loop-row._row-index 0 within))
