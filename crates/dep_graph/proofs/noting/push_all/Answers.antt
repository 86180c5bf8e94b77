use Rattle.std.proofs.Common.{ap}
use Rattle.std.specs.Option.{option_map}
use Rattle.dep_graph.specs.declared.numbers.ReadNumber.TheVariants as read
use Rattle.dep_graph.specs.Sources.{all_source}
use Rattle.dep_graph.proofs.NameLaws.{numbers_pushed}
use Rattle.dep_graph.proofs.noting.push_all.Goals as goal

pub returns-clause-ok : goal.returns-clause-ok
returns-clause-ok c done h =
    numbers_pushed c.args.names.now c.add.new.self c.add.ensures.grown done c.args.reads.now.items c.push.new.self.items (all_source c.args.table.now) (read.All c.in_ok-add.field-0) h (ap (option_map read.All) c.in_ok-add.ensures.ok)
    c.in_ok-push.ensures.items
