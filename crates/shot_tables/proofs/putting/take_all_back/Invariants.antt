use Rattle.shot_tables.proofs.PutLemmas.{IsTaking}
use Rattle.shot_tables.proofs.putting.take_all_back.Given as goal

abbrev pub invariant-loop-back : goal.invariant-loop-back
invariant-loop-back g l = IsTaking g.D.DocTables.undone g.D.DocTables.fits l.initial.backs.items (g.D.DocReader.document l.initial.tables) l.backs.items (g.D.DocReader.document l.tables)

abbrev pub decreases-loop-back : goal.decreases-loop-back
decreases-loop-back g l = goal.left-loop-back g l
