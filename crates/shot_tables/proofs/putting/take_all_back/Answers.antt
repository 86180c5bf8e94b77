use Rattle.shot_tables.proofs.PutLemmas.{taking_fits, taking_next}
use Rattle.shot_tables.proofs.putting.take_all_back.Goals as goal

pub take_back-requires : goal.take_back-requires
take_back-requires g c =
    taking_fits g.D.DocTables.undone g.D.DocTables.fits c.args.backs.items (g.D.DocReader.document c.args.tables.now) c.loop-back.backs.items c.pop.new.self.items c.in-Some.back (g.D.DocReader.document c.loop-back.tables) c.loop-back.invariant c.in-Some.ensures.items

pub loop-back-preserved : goal.loop-back-preserved
loop-back-preserved g c =
    taking_next g.D.DocTables.undone g.D.DocTables.fits c.args.backs.items (g.D.DocReader.document c.args.tables.now) c.loop-back.backs.items c.pop.new.self.items c.in-Some.back (g.D.DocReader.document c.loop-back.tables) (g.D.DocReader.document c.take_back.new.self) c.loop-back.invariant c.in-Some.ensures.items c.take_back.ensures
