use Rattle.std.proofs.Common.{take, subst}
use Rattle.dep_graph.specs.Runs.{notes_in}
use Rattle.dep_graph.specs.Sources.{AreNumbers, sources}
use Rattle.dep_graph.proofs.NameLaws.{grown_twice}
use Rattle.dep_graph.proofs.RunLaws.{runs_more}
use Rattle.dep_graph.proofs.noting.run_numbers.Goals as goal

pub loop-run-preserved : goal.loop-run-preserved
loop-run-preserved c =
    let i = c.loop-run.run-index in (
      subst (λ ss. AreNumbers c.push_run.new.names ss c.push_run.new.reads.items) (runs_more c.args.runs.now i c.run-item.result c.loop-run-test.true c.run-item.is)
          (c.in_ok-push_run.ensures.ok (sources (notes_in (take i c.args.runs.now))) c.loop-run.invariant.0),
      grown_twice c.args.names.now c.loop-run.names c.push_run.new.names c.loop-run.invariant.1 c.push_run.ensures.grown,
    )
