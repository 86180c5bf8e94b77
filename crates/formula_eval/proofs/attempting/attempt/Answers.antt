use Rattle.std.proofs.Common.{[]}
use Rattle.formula_eval.specs.Run.{reads_of}
use Rattle.formula_eval.specs.Eval.{evaluated}
use Rattle.formula_eval.specs.Reader.{Reader}
use Rattle.formula_eval.proofs.Named.{evaluated_named, may_needed}
use Rattle.formula_eval.proofs.attempting.attempt.Goals as goal

pub returns-in-Need-clause-need : goal.returns-in-Need-clause-need
returns-in-Need-clause-need g c =
    let rd : Reader = g.R.CellSource.told c.args.reader.now in
    let h = rw c.in-Need.is at c.in_ok-value.ensures.tried in
    may_needed rd (reads_of (evaluated rd c.args.at.now c.args.formula.now).notes) c.in-Need.cell (evaluated rd c.args.at.now c.args.formula.now).out (evaluated_named rd c.args.at.now c.args.formula.now []) h
