use Rattle.std.proofs.Common.{◌≡◌, ◌∙◌, ◌∷◌, ◌++◌, [], List, option_and_then, slice_get, ap, sym, subst, map, take}
use Rattle.std.proofs.lemmas.List.{map_more, map_push}
use Rattle.std.specs.Option.{option_copied}
use Rattle.std.specs.Str.{bytes_eq}
use Rattle.cell_types.specs.declared.value.CellValue.{CellValue}
use Rattle.doc_model.specs.Column.{column_id}
use Rattle.row_tables.specs.Kept.{found_beside, kept}
use Rattle.row_tables.proofs.table.RowTable.column_cells.Goals as goal

pub loop-row-preserved : goal.loop-row-preserved
loop-row-preserved c =
    let columns : c.deref.result.now ≡ c.args.self.now.grid.columns = c.deref.ensures.value ∙ ap (λ t. t.grid.columns) c.self.view_is in
    let place = subst (λ ks. (cells : List CellValue) → option_and_then (slice_get cells) c.column_place-place.result ≡ found_beside (λ d. bytes_eq (column_id d) c.args.column.now) ks cells)
    columns c.column_place-place.ensures in
    ap (map option_copied) c.in_ok-push.ensures.items ∙ map_push option_copied c.loop-row.cells.items c.cell_in_place.result
    ∙ ap (λ l. l ++ option_copied c.cell_in_place.result ∷ []) c.loop-row.invariant
    ∙ ap (λ v. map (kept c.args.self.now.grid c.args.column.now) (take c.loop-row.row-index c.args.rows.now) ++ v ∷ []) (c.cell_in_place.ensures c.args.column.now place)
    ∙ sym (map_more (kept c.args.self.now.grid c.args.column.now) c.args.rows.now c.loop-row.row-index 0 c.loop-row-test.true)
