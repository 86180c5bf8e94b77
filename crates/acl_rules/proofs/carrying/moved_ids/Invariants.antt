use Rattle.std.proofs.Common.{◌≡◌, map, take}
use Rattle.acl_rules.specs.Carried.{moved_id}
use Rattle.acl_rules.proofs.carrying.moved_ids.Given as goal

abbrev pub invariant-loop-id : goal.invariant-loop-id
invariant-loop-id l = l.made.items ≡ map (moved_id l.old l.new) (take l.id-index l.ids)
