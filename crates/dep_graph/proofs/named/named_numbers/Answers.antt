use Rattle.std.proofs.Common.{[], map, take, subst}
use Rattle.dep_graph.specs.Named.{source_named}
use Rattle.dep_graph.specs.Sources.{AreNumbers}
use Rattle.dep_graph.proofs.NameLaws.{grown_twice, mapped_more, numbers_pushed}
use Rattle.dep_graph.proofs.named.named_numbers.Goals as goal

pub loop-named-preserved : goal.loop-named-preserved
loop-named-preserved c =
    let i = c.loop-named.named-index in
    let x = c.named-item.result in (
      subst (λ ss. AreNumbers c.named_number.new.names ss c.push.new.self.items)
          (mapped_more source_named c.args.told.now i x [] c.loop-named-test.true c.named-item.is)
          (numbers_pushed c.loop-named.names c.named_number.new.names c.named_number.ensures.grown (map source_named (take i c.args.told.now))
          c.loop-named.reads.items c.push.new.self.items (source_named x) c.in_ok-number.number c.loop-named.invariant.0 c.in_ok-number.ensures.ok c.in_ok-push.ensures.items),
      grown_twice c.args.names.now c.loop-named.names c.named_number.new.names c.loop-named.invariant.1 c.named_number.ensures.grown,
    )
