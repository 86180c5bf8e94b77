use Rattle.evaluated_doc.specs.WayBack.{IsWayBack}
use Rattle.bundle_judge.specs.Rollback.{led_back}
use Rattle.bundle_judge.proofs.RollbackLemmas.{undoing_fits, undoing_next}
use Rattle.bundle_judge.proofs.rollback.go_back_all.Goals as goal

pub go_back-requires : goal.go_back-requires
go_back-requires g c =
    undoing_fits (led_back g.D.DocTables.fits g.D.DocTables.undone) (IsWayBack g.D.DocTables.fits g.D.DocTables.undone) c.args.traces.items (g.D.DocReader.document c.args.doc.now) c.loop-trace.traces.items c.pop.new.self.items c.in-Some.trace (g.D.DocReader.document c.loop-trace.doc) c.loop-trace.invariant c.in-Some.ensures.items

pub loop-trace-preserved : goal.loop-trace-preserved
loop-trace-preserved g c =
    undoing_next (led_back g.D.DocTables.fits g.D.DocTables.undone) (IsWayBack g.D.DocTables.fits g.D.DocTables.undone) c.args.traces.items (g.D.DocReader.document c.args.doc.now) c.loop-trace.traces.items c.pop.new.self.items c.in-Some.trace (g.D.DocReader.document c.loop-trace.doc) (g.D.DocReader.document c.go_back.new.self) c.loop-trace.invariant c.in-Some.ensures.items c.go_back.ensures
