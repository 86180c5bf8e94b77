use Rattle.std.proofs.Common.{◌≡◌, map, take}
use Rattle.std.specs.Option.{option_map}
use Rattle.acl_rules.specs.Carried.{moved}
use Rattle.acl_rules.proofs.carrying.all_moved.Given as goal

abbrev pub invariant-loop-resource : goal.invariant-loop-resource
invariant-loop-resource l =
    l.made.items ≡ map (option_map (moved l.action)) (take l.resource-index l.resources)
