use Rattle.std.proofs.Common.{rules}
use Rattle.run_generator.proofs.ScriptLemmas.{more_values}
use Rattle.run_generator.proofs.record_actions.draw_values.Goals as goal

pub loop-preserved : goal.loop-preserved
loop-preserved c = (
  (λ n done h. more_values n done c.loop.counter c.loop.number c.loop.k.items c.loop.n.items (c.loop.invariant.0 n done h)
      c.next_number-first.result c.next_number-number.result c.next_number-first.ensures.value c.next_number-number.ensures.value
      c.push-in-loop.new.self.items c.push.new.self.items (search rules) (search rules)),
  search rules,
)
