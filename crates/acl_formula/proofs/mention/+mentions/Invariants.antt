use Rattle.std.proofs.Common.{◌≡◌, ◌+◌, ◌*◌, drop}
use Rattle.formula_parse.specs.Tree.{from_list}
use Rattle.formula_parse.specs.TreeSize.{tree_size, trees_size}
use Rattle.acl_formula.specs.Mentions.{gathered, items_mention}
use Rattle.acl_formula.proofs.mention.+mentions.Given as goal

abbrev pub decreases-note_formula : goal.decreases-note_formula
decreases-note_formula l = 2 * tree_size l.formula.now

abbrev pub decreases-note_items : goal.decreases-note_items
decreases-note_items l = 2 * trees_size (from_list l.items.now) + 1

abbrev pub invariant-note_items-loop-item : goal.invariant-note_items-loop-item
invariant-note_items-loop-item l =
    gathered l.mentions (items_mention (from_list (drop l.item-index l.item-items)))
    ≡ gathered l.fn.mentions (items_mention (from_list l.items))
