use Rattle.action_limits.proofs.CountedLemmas.{table_grid}
use Rattle.action_limits.proofs.limits.table_id.Goals as goal

pub returns-clause-grid : goal.returns-clause-grid
returns-clause-grid g c =
    table_grid (g.D.DocReader.document c.args.tables.now) c.requires.whole c.args.index c.in-Some.id.now c.in-Some.ensures.told
