use Rattle.std.proofs.Common.{◌∙◌, ◌∷◌, ◌++◌, [], ℕ, ap, sym, map, take}
use Rattle.std.proofs.lemmas.List.{map_more, map_push}
use Rattle.formula_eval.specs.Asked.{told_at, told_of}
use Rattle.formula_eval.specs.Reader.{Told}
use Rattle.recalc.specs.Evaluated.{sheet_of}
use Rattle.recalc.specs.Kept.{held_at}
use Rattle.recalc.specs.Sheet.{over}
use Rattle.recalc.proofs.reading.each_told.Goals as goal

pub loop-row-preserved : goal.loop-row-preserved
loop-row-preserved g c =
    let asked : ℕ → Told = told_at (over (sheet_of (g.D.DocReader.document c.args.tables.now)) (held_at (g.D.DocReader.document c.args.tables.now) c.args.kept.now)) c.args.table.now c.args.column.now in
    ap (map told_of) c.in_ok-push.ensures.items ∙ map_push told_of c.loop-row.told.items c.cell_told.result
    ∙ ap (λ l. l ++ told_of c.cell_told.result ∷ []) c.loop-row.invariant
    ∙ ap (λ v. map asked (take c.loop-row.row-index c.args.rows.now) ++ v ∷ []) c.cell_told.ensures
    ∙ sym (map_more asked c.args.rows.now c.loop-row.row-index 0 c.loop-row-test.true)
