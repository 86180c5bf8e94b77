use Rattle.par_recalc.proofs.CellLemmas.{found_is}
use Rattle.par_recalc.proofs.running.attempt_found.Goals as goal

pub returns : goal.returns
returns g c =
    found_is (g.R.CellSource.told c.args.reader.now) c.args.at.now c.args.formula.now c.found_of.result c.in_ok-tried.tried _ _
    c.new-notes.ensures c.found_of.ensures c.in_ok-tried.ensures.tried c.in_ok-tried.ensures.noted
