use Rattle.std.proofs.Common.{◌≡◌, ◌<◌, length, drop, get_or}
use Rattle.cell_types.specs.declared.value.CellItem.TheVariants as item
use Rattle.acl_formula.specs.Desk.{items_in}
use Rattle.acl_formula.specs.DeskRules.{AreGood}
use Rattle.acl_formula.proofs.items.item_at.Given as goal

-- the item stands so far behind what is left of the parts
abbrev pub invariant-loop-part : goal.invariant-loop-part
invariant-loop-part l =
    (l.left < length (items_in l.desk (drop l.part-index l.parts)))
    × (get_or (items_in l.desk (drop l.part-index l.parts)) l.left item.Null ≡ get_or (items_in l.desk l.parts) l.place item.Null)
    × AreGood l.desk (length l.desk) (drop l.part-index l.parts)
