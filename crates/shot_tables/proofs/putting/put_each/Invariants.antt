use Rattle.shot_tables.proofs.PutLemmas.{IsPutting}
use Rattle.shot_tables.proofs.putting.put_each.Given as goal

abbrev pub invariant-loop-action : goal.invariant-loop-action
invariant-loop-action g l =
    IsPutting g.D.DocTables.undone g.D.DocTables.fits (g.D.DocReader.document l.initial.tables) l.actions l.initial.backs.items l.action-index (g.D.DocReader.document l.tables) l.backs.items
