use Rattle.evaluated_doc.proofs.StartLemmas.{plain_known}
use Rattle.evaluated_doc.proofs.starting.plain_start.Goals as goal

pub returns-clause-reads : goal.returns-clause-reads
returns-clause-reads g c = plain_known (g.D.DocReader.document c.args._tables.now) c.requires c.new.result c.new.ensures.stale c.new.ensures.owed c.new.ensures.none
