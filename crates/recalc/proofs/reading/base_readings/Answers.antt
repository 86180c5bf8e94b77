use Rattle.std.proofs.Common.{◌∙◌, ◌∷◌, ◌++◌, [], ap, sym, map, take}
use Rattle.std.proofs.lemmas.List.{map_more, map_push}
use Rattle.std.specs.Option.{option_copied}
use Rattle.formula_eval.specs.Asked.{told_of}
use Rattle.recalc.specs.Seen.{told_or_no_row}
use Rattle.recalc.proofs.reading.base_readings.Goals as goal

pub loop-cell-preserved : goal.loop-cell-preserved
loop-cell-preserved c =
    ap (map told_of) c.in_ok-push.ensures.items ∙ map_push told_of c.loop-cell.told.items c.base_reading.result
    ∙ ap (λ l. l ++ told_of c.base_reading.result ∷ []) c.loop-cell.invariant
    ∙ ap (λ v. map (λ cell. told_or_no_row (option_copied cell)) (take c.loop-cell.cell-index c.args.cells.now) ++ v ∷ []) (c.base_reading.ensures ∙ ap (λ cell. told_or_no_row (option_copied cell)) c.cell-item.is)
    ∙ sym (map_more (λ cell. told_or_no_row (option_copied cell)) c.args.cells.now c.loop-cell.cell-index c.cell-item.result c.loop-cell-test.true)
