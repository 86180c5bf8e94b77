use Rattle.std.proofs.Common.{◌∙◌, None, ap, refl, arith}
use Rattle.std.proofs.lemmas.List.{take_all}
use Rattle.shot_cells.specs.Places.{place_at, with_each}
use Rattle.shot_cells.proofs.SeenLemmas.{taking_next}
use Rattle.shot_cells.proofs.places.take_places.Goals as goal

pub loop-cell-init : goal.loop-cell-init
loop-cell-init c = refl

pub loop-cell-preserved : goal.loop-cell-preserved
loop-cell-preserved c =
    taking_next c.args.tables.now c.args.cells.now c.loop-cell.cell-index c.loop-cell.tables c.take_place.new.tables c.cell-item.result
    c.loop-cell.invariant c.loop-cell-test.true c.cell-item.is c.take_place.ensures

pub returns : goal.returns
returns c =
    c.loop-cell.invariant
    ∙ ap (λ cells. with_each cells None (place_at c.args.tables.now)) (take_all c.loop-cell.cell-index c.args.cells.now (omega arith))
