use Rattle.std.proofs.Common.{subst, sym, slice_get}
use Rattle.std.specs.List.{AllZip}
use Rattle.par_recalc.specs.Attempts.{IsAt, level_cells, places_cells}
use Rattle.par_recalc.proofs.running.run_level.Goals as goal

pub returns : goal.returns
returns g c =
    let told = g.R.CellSource.told c.args.reader.now in
    let plan = c.args.plan.now in
    let all = c.in_ok-all.all.items in
    subst (AllZip (IsAt told) (level_cells told plan.formulas (slice_get plan.levels c.args.level))) (sym c.from.ensures)
    (subst (λ o. AllZip (IsAt told) (level_cells told plan.formulas o) all) (sym c.places.ensures)
    (subst (λ fs. AllZip (IsAt told) (places_cells told fs c.places.result.now) all) c.formulas.ensures c.in_ok-all.ensures))
