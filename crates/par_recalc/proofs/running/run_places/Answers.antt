use Rattle.std.proofs.Common.{◌+◌, take, subst, sym}
use Rattle.std.specs.List.{AllZip}
use Rattle.std.specs.Option.{option_copied}
use Rattle.par_recalc.specs.Attempts.{IsAt, places_cells}
use Rattle.par_recalc.proofs.CellLemmas.{more_cells}
use Rattle.par_recalc.proofs.running.run_places.Goals as goal

pub loop-place-preserved : goal.loop-place-preserved
loop-place-preserved g c =
    let told = g.R.CellSource.told c.args.reader.now in
    let fs = c.args.columns.now in
    let ps = c.args.places.now in
    let i = c.loop-place.place-index in
    subst (AllZip (IsAt told) (places_cells told fs (take (i + 1) ps))) (sym c.in_ok-append.ensures.items)
    (more_cells told fs ps i (option_copied c.column_at.result) c.loop-place.all.items c.in_ok-found.found.items c.loop-place-test.true c.column_at.ensures c.loop-place.invariant c.in_ok-found.ensures)
