use Rattle.std.proofs.Common.{[], ◌∷◌, codes}
use Rattle.doc_model.specs.MetadataIds.{columns_id}
use Rattle.affected_cells.specs.Touched.{cells_written, column_altered}
use Rattle.affected_search.proofs.TouchTests.{adds_cells, adds_first}
use Rattle.affected_search.proofs.touching.push_modified_column.Goals as goal

pub returns : goal.returns
returns c =
    let names = c.args.graph.now.names in
    let old = c.args.touches.now.items in
    let one = c.push_column.new.touches.items in
    let two = c.push_cells.new.touches.items in
    let three = c.push_cells-2.new.touches.items in
    let new = c.push_cells-3.new.touches.items in
    let row = c.args.row.now in
    let described = c.in_ok-described.described in
    let is = c.in_ok-described.ensures in
    let ty = cells_written columns_id (codes "type") row in
    let is_formula = cells_written columns_id (codes "isFormula") row in
    let formula = cells_written columns_id (codes "formula") row in
    adds_first names (column_altered c.args.table.now c.args.column.now) (ty ∷ is_formula ∷ formula ∷ []) old one new c.in_ok-push_column.ensures
    (adds_first names ty (is_formula ∷ formula ∷ []) one two new (adds_cells names described columns_id c.in_ok-ty.ty (codes "type") row one two is c.in_ok-ty.ensures c.in_ok-push_cells.ensures)
    (adds_first names is_formula (formula ∷ []) two three new (adds_cells names described columns_id c.in_ok-is_formula.is_formula (codes "isFormula") row two three is c.in_ok-is_formula.ensures c.in_ok-push_cells-2.ensures)
    (adds_cells names described columns_id c.in_ok-formula.formula (codes "formula") row three new is c.in_ok-formula.ensures c.in_ok-push_cells-3.ensures)))
