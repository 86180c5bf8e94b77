use Rattle.std.proofs.Common.{◌≡◌, drop, length}
use Rattle.value_ops.specs.Containment.{is_among}
use Rattle.acl_formula.specs.Desk.{seen, items_in}
use Rattle.acl_formula.specs.DeskRules.{AreGood}
use Rattle.acl_formula.proofs.items.is_among.Given as goal

abbrev pub invariant-loop-part : goal.invariant-loop-part
invariant-loop-part l =
    (is_among (seen l.desk l.value) (items_in l.desk (drop l.part-index l.parts)) ≡ is_among (seen l.desk l.value) (items_in l.desk l.parts))
    × AreGood l.desk (length l.desk) (drop l.part-index l.parts)
