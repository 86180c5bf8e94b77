use Rattle.dep_graph.specs.Sources.{read_source}
use Rattle.dep_graph.proofs.NameLaws.{numbers_pushed}
use Rattle.dep_graph.proofs.noting.push_read.Goals as goal

pub returns-clause-ok : goal.returns-clause-ok
returns-clause-ok c done h =
    numbers_pushed c.args.names.now c.read_number.new.names c.read_number.ensures.grown done c.args.reads.now.items c.push.new.self.items (read_source c.args.read.now) c.in_ok-number.number h c.in_ok-number.ensures.ok c.in_ok-push.ensures.items
