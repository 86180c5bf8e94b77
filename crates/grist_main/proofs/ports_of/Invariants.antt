use Rattle.std.proofs.Common.{◌≡◌, All, false}
use Rattle.grist_main.proofs.ports_of.Given as goal

abbrev pub invariant-loop-lane : goal.invariant-loop-lane
invariant-loop-lane g l = All (λ p. p.lent ≡ false) l.ports.items
