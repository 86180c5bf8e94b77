use Rattle.std.proofs.Common.{map, subst}
use Rattle.std.proofs.lemmas.List.{take_all}
use Rattle.doc_model.specs.declared.column.CellColumn.{CellColumn}
use Rattle.affected_cells.specs.Touched.{cells_written}
use Rattle.affected_search.specs.Touches.{AddsTouches}
use Rattle.affected_search.proofs.TouchTests.{adds_next}
use Rattle.affected_search.proofs.touching.push_given.Goals as goal

pub loop-column-preserved : goal.loop-column-preserved
loop-column-preserved c =
    adds_next c.args.graph.now.names (λ (k : CellColumn). cells_written c.args.table.now k.id c.args.rows.now) c.args.columns.now c.loop-column.column-index c.column-item.result
    c.args.touches.now.items c.loop-column.touches.items c.push_cells.new.touches.items c.loop-column-test.true c.column-item.is c.loop-column.invariant c.in_ok-push_cells.ensures

pub returns : goal.returns
returns c =
    subst (λ ks. AddsTouches c.args.graph.now.names (map (λ (k : CellColumn). cells_written c.args.table.now k.id c.args.rows.now) ks) c.args.touches.now.items c.loop-column.touches.items)
    (take_all c.loop-column.column-index c.args.columns.now c.loop-column-test.false) c.loop-column.invariant
