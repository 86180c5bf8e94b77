use Rattle.std.proofs.Common.{◌++◌, map, take, subst}
use Rattle.dep_graph.specs.Sources.{AreNumbers, source_of_key}
use Rattle.dep_graph.proofs.NameLaws.{grown_twice, mapped_more, numbers_pushed}
use Rattle.dep_graph.proofs.noting.push_keys.Goals as goal

pub loop-key-preserved : goal.loop-key-preserved
loop-key-preserved c =
    let i = c.loop-key.key-index in
    let x = c.key-item.result in (
      λ done h. subst (λ ss. AreNumbers c.key_number.new.names ss c.push.new.self.items)
          (mapped_more (source_of_key c.args.table.now) c.args.keys.now i x done c.loop-key-test.true c.key-item.is)
          (numbers_pushed c.loop-key.names c.key_number.new.names c.key_number.ensures.grown (done ++ map (source_of_key c.args.table.now) (take i c.args.keys.now))
          c.loop-key.reads.items c.push.new.self.items (source_of_key c.args.table.now x) c.in_ok-read.read (c.loop-key.invariant.0 done h) c.in_ok-read.ensures.ok c.in_ok-push.ensures.items),
      grown_twice c.args.names.now c.loop-key.names c.key_number.new.names c.loop-key.invariant.1 c.key_number.ensures.grown,
    )
