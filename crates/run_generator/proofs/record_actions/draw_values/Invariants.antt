use Rattle.std.proofs.Common.{◌≡◌, ℕ, ◌*◌, ◌≤◌}
use Rattle.run_generator.specs.Draws.{drawn}
use Rattle.run_generator.specs.Stages.{AreValues}
use Rattle.run_generator.proofs.record_actions.draw_values.Given as goal

abbrev pub invariant-loop : goal.invariant-loop
invariant-loop l =
    ((n done : ℕ) → l.initial.number ≡ drawn n (2 * done) → AreValues n done l.counter l.k.items l.n.items l.number)
    × (l.number ≤ 2147483648)
