use Rattle.std.proofs.Common.{◌≡◌, ◌++◌, map, take}
use Rattle.user_actions.specs.References.{led_to}
use Rattle.user_actions.proofs.leading.add_led.Given as goal

abbrev pub invariant-loop-one : goal.invariant-loop-one
invariant-loop-one l = l.steps ≡ l.initial.steps ++ map (led_to l.new) (take l.one-index l.known)
