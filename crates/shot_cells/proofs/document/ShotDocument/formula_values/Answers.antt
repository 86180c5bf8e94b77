use Rattle.std.proofs.Common.{◌∙◌, ◌∷◌, ◌++◌, [], ap, sym, map, take}
use Rattle.std.proofs.lemmas.List.{map_more, map_push}
use Rattle.std.specs.Option.{option_copied}
use Rattle.doc_model.specs.Readers.{cell_at}
use Rattle.recalc.specs.Evaluated.{filled_by}
use Rattle.shot_cells.specs.Places.{seen_at}
use Rattle.shot_cells.proofs.document.ShotDocument.formula_values.Goals as goal

pub loop-row-preserved : goal.loop-row-preserved
loop-row-preserved g c =
    let there = cell_at (filled_by (seen_at c.args.self.now.cells.tables) (g.D.DocReader.document c.args.self.now.tables)) c.args.table.now c.args.column.now in
    ap (map option_copied) c.in_ok-push.ensures.items ∙ map_push option_copied c.loop-row.values.items c.formula_value.result
    ∙ ap (λ l. l ++ option_copied c.formula_value.result ∷ []) c.loop-row.invariant
    ∙ ap (λ v. map there (take c.loop-row.row-index c.args.rows.now) ++ v ∷ []) c.formula_value.ensures
    ∙ sym (map_more there c.args.rows.now c.loop-row.row-index 0 c.loop-row-test.true)
