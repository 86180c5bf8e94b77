use Rattle.std.proofs.Common.{◌≡◌, drop}
use Rattle.value_ops.specs.Containment.{is_among}
use Rattle.acl_formula.specs.Desk.{seen}
use Rattle.acl_formula.proofs.items.is_among_items.Given as goal

abbrev pub invariant-loop-item : goal.invariant-loop-item
invariant-loop-item l = is_among (seen l.desk l.value) (drop l.item-index l.items) ≡ is_among (seen l.desk l.value) l.items
