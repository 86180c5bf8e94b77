use Rattle.std.proofs.Common.{◌≡◌, ◌+◌, ◌*◌, drop}
use Rattle.formula_parse.specs.Tree.{from_list}
use Rattle.formula_parse.specs.TreeSize.{tree_size, trees_size}
use Rattle.agreeing_contexts.specs.Fields.{gathered, item_fields}
use Rattle.agreeing_contexts.proofs.mentioned.+fields.Given as goal

abbrev pub decreases-note_tree : goal.decreases-note_tree
decreases-note_tree l = 2 * tree_size l.tree.now

abbrev pub decreases-note_items : goal.decreases-note_items
decreases-note_items l = 2 * trees_size (from_list l.items.now) + 1

abbrev pub invariant-note_items-loop-item : goal.invariant-note_items-loop-item
invariant-note_items-loop-item l =
    gathered l.fields (item_fields (from_list (drop l.item-index l.item-items)))
    ≡ gathered l.fn.fields (item_fields (from_list l.items))
