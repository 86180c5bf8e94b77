use Rattle.std.proofs.Common.{◌≡◌, ◌∙◌, ap, map}
use Rattle.std.proofs.lemmas.List.{take_all}
use Rattle.doc_model.specs.declared.column.ColDef.{ColDef}
use Rattle.doc_model.specs.Grid.{Grid}
use Rattle.row_tables.specs.Kept.{kept}
use Rattle.row_tables.proofs.AddedLaws.{map_same}
use Rattle.column_store.specs.Kept.{kept_at}
use Rattle.column_store.proofs.PlaceLaws.{kept_there}
use Rattle.column_store.proofs.table.ColumnTable.column_cells.Goals as goal

pub returns : goal.returns
returns c =
    let g : Grid ColDef = c.args.self.now.grid in
    let test = c.loop-row-test.false in
    c.loop-row.invariant ∙ ap (map (kept_at g c.place_of-place.result)) (take_all c.loop-row.row-index c.args.rows.now test)
    ∙ map_same (kept_at g c.place_of-place.result) (kept g c.args.column.now) c.args.rows.now (λ r. ap (λ place. kept_at g place r) c.place_of-place.ensures ∙ kept_there g c.args.column.now r c.requires)
