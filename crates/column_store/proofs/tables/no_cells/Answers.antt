use Rattle.std.proofs.Common.{◌∙◌, ◌∷◌, ◌++◌, [], None, ap, sym, map}
use Rattle.std.proofs.lemmas.List.{map_more, map_push}
use Rattle.std.specs.Option.{option_copied}
use Rattle.column_store.proofs.tables.no_cells.Goals as goal

pub loop-row-preserved : goal.loop-row-preserved
loop-row-preserved c =
    ap (map option_copied) c.in_ok-push.ensures.items ∙ map_push option_copied c.loop-row.cells.items None
    ∙ ap (λ l. l ++ None ∷ []) c.loop-row.invariant
    ∙ sym (map_more (λ _. None) c.args.rows.now c.loop-row._row-index 0 c.loop-row-test.true)
