use Rattle.std.proofs.Common.{arith}
use Rattle.shot_cells.proofs.SeenLemmas.{making_ends, making_next, making_starts, making_stops}
use Rattle.shot_cells.proofs.places.make_places.Goals as goal

pub loop-cell-init : goal.loop-cell-init
loop-cell-init c = making_starts c.args.tables.now c.args.cells.now

pub loop-cell-preserved : goal.loop-cell-preserved
loop-cell-preserved c =
    making_next c.args.tables.now c.args.cells.now c.loop-cell.cell-index c.loop-cell.tables c.make_place.new.tables c.cell-item.result
    c.loop-cell.invariant c.loop-cell-test.true c.cell-item.is c.make_place.ensures.room c.in_ok-make_place.ensures.ok

pub returns-in_err-make_place-clause-room : goal.returns-in_err-make_place-clause-room
returns-in_err-make_place-clause-room c =
    making_stops c.args.tables.now c.args.cells.now c.loop-cell.cell-index c.loop-cell.tables c.make_place.new.tables c.loop-cell.invariant c.make_place.ensures.room

pub returns-clause-ok : goal.returns-clause-ok
returns-clause-ok c = making_ends c.args.tables.now c.args.cells.now c.loop-cell.cell-index c.loop-cell.tables c.loop-cell.invariant (omega arith)

pub returns-clause-room : goal.returns-clause-room
returns-clause-room c = c.loop-cell.invariant.room
