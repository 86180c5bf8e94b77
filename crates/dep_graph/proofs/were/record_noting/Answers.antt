use Rattle.std.proofs.Common.{subst, sym, ◌∙◌}
use Rattle.dep_graph.specs.Records.{IsRecorded}
use Rattle.dep_graph.proofs.RecordLaws.{recorded_again, same_reads}
use Rattle.dep_graph.proofs.were.record_noting.Goals as goal

pub returns-then-eq-clause-ok : goal.returns-then-eq-clause-ok
returns-then-eq-clause-ok c =
    subst (IsRecorded c.args.reads.now.entries c.args.reads.now.entries c.args.cell)
    (sym c.recorded.ensures ∙ same_reads c.recorded.result.now c.as_slice.result.now (sym c.eq.ensures ∙ c.if-eq.true) ∙ c.as_slice.ensures.value) (recorded_again c.args.reads.now.entries c.args.cell)
