use Rattle.std.proofs.Common.{◌∙◌}
use Rattle.dep_graph.proofs.RunLaws.{on_ok}
use Rattle.known_reads.proofs.BesideLemmas.{exact_reads}
use Rattle.known_reads.proofs.starting.record_rest.Goals as goal

pub returns-clause-reads : goal.returns-clause-reads
returns-clause-reads g c = on_ok c.record_stale.result (λ has.
    exact_reads (g.D.DocReader.document c.args.tables.now) c.record_stale.new.self c.record_stale.ensures.stale (c.record_stale.ensures.owed ∙ c.requires.owed) has)
    c.record_stale.ensures.reads
