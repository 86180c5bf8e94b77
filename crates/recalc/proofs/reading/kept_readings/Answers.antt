use Rattle.std.proofs.Common.{◌∙◌, ◌∷◌, ◌++◌, [], ℕ, ap, sym, map, take}
use Rattle.std.proofs.lemmas.List.{map_more, map_push}
use Rattle.formula_eval.specs.Asked.{told_of}
use Rattle.formula_eval.specs.Reader.{Told}
use Rattle.recalc.specs.Seen.{told_beside}
use Rattle.recalc.proofs.reading.kept_readings.Goals as goal

pub loop-row-preserved : goal.loop-row-preserved
loop-row-preserved c =
    let asked : ℕ → Told = told_beside c.args.rows.now c.args.held.now.values.items in
    ap (map told_of) c.in_ok-push.ensures.items ∙ map_push told_of c.loop-row.told.items c.told_beside.result
    ∙ ap (λ l. l ++ told_of c.told_beside.result ∷ []) c.loop-row.invariant
    ∙ ap (λ v. map asked (take c.loop-row.row-index c.args.some.now) ++ v ∷ []) c.told_beside.ensures
    ∙ sym (map_more asked c.args.some.now c.loop-row.row-index 0 c.loop-row-test.true)
