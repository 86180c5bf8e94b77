use Rattle.std.proofs.Common.{◌∙◌, ◌∷◌, ◌++◌, [], ap, get_or, sym, map, take}
use Rattle.std.proofs.lemmas.List.{map_more, map_push}
use Rattle.std.specs.Option.{option_copied}
use Rattle.doc_model.specs.Readers.{cell_at}
use Rattle.recalc.specs.Evaluated.{filled}
use Rattle.evaluated_doc.proofs.ValueLemmas.{match_copied}
use Rattle.evaluated_doc.proofs.doc.each_value.Goals as goal

pub loop-row-preserved : goal.loop-row-preserved
loop-row-preserved g c =
    let there = cell_at (filled (g.D.DocReader.document c.args.tables.now)) c.args.table.now c.args.column.now in
    ap (map option_copied) c.in_ok-push.ensures.items ∙ map_push option_copied c.loop-row.values.items c.value_in.result
    ∙ ap (λ l. l ++ option_copied c.value_in.result ∷ []) c.loop-row.invariant
    ∙ ap (λ v. map there (take c.loop-row.row-index c.args.rows.now) ++ v ∷ []) (match_copied c.value_in.result (there (get_or c.args.rows.now c.loop-row.row-index 0)) c.value_in.ensures)
    ∙ sym (map_more there c.args.rows.now c.loop-row.row-index 0 c.loop-row-test.true)
