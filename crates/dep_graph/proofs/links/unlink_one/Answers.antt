use Rattle.std.proofs.Common.{sym, ◌∙◌}
use Rattle.dep_graph.proofs.LinkLaws.{kept_one}
use Rattle.dep_graph.proofs.links.unlink_one.Goals as goal

pub returns-else-not-contains-clause-links : goal.returns-else-not-contains-clause-links
returns-else-not-contains-clause-links c = kept_one c.args.readers.now c.args.read c.args.kept.now.keys c.args.cell (sym c.contains.ensures ∙ c.if-not-contains.false)
