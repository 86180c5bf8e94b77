use Rattle.std.proofs.Common.{◌≡◌, ◌+◌, ◌*◌, drop}
use Rattle.formula_parse.specs.Tree.{from_list}
use Rattle.formula_parse.specs.TreeSize.{tree_size, trees_size}
use Rattle.formula_records.specs.RecordTables.{union}
use Rattle.formula_records.specs.Recs.{all_of, recs_each}
use Rattle.formula_records.specs.ShownColumns.{columns_of}
use Rattle.formula_records.proofs.records.+records.Given as goal

abbrev pub decreases-note_formula : goal.decreases-note_formula
decreases-note_formula l = 3 * tree_size l.formula.now

abbrev pub decreases-note_both : goal.decreases-note_both
decreases-note_both l = 3 * (tree_size l.left.now + tree_size l.right.now) + 1

abbrev pub decreases-note_items : goal.decreases-note_items
decreases-note_items l = 3 * trees_size (from_list l.items.now) + 1

abbrev pub decreases-note_call : goal.decreases-note_call
decreases-note_call l = 3 * trees_size (from_list l.arguments.now) + 2

abbrev pub decreases-note_if : goal.decreases-note_if
decreases-note_if l = 3 * trees_size (from_list l.arguments.now) + 1

abbrev pub decreases-note_if_error : goal.decreases-note_if_error
decreases-note_if_error l = 3 * trees_size (from_list l.arguments.now) + 1

abbrev pub decreases-note_attribute : goal.decreases-note_attribute
decreases-note_attribute l = 3 * tree_size l.inner.now + 1

abbrev pub invariant-note_items-loop-item : goal.invariant-note_items-loop-item
invariant-note_items-loop-item l =
    union l.found (all_of (recs_each (columns_of l.view) l.own (from_list (drop l.item-index l.item-items))))
    ≡ union l.fn.found (all_of (recs_each (columns_of l.view) l.own (from_list l.items)))
