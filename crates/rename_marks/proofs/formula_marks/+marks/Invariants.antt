use Rattle.std.proofs.Common.{◌≡◌, ◌+◌, ◌*◌, drop}
use Rattle.formula_parse.specs.Seen.{keys_of}
use Rattle.formula_parse.specs.Tree.{from_list, keys_from}
use Rattle.formula_parse.specs.TreeSize.{keys_size, tree_size, trees_size}
use Rattle.rename_marks.specs.Noted.{walked_more, walked_more_keys}
use Rattle.rename_marks.specs.Scope.{scope_at}
use Rattle.rename_marks.proofs.formula_marks.+marks.Given as goal

abbrev pub decreases-note_formula : goal.decreases-note_formula
decreases-note_formula l = 3 * tree_size l.formula.now

abbrev pub decreases-note_conditional : goal.decreases-note_conditional
decreases-note_conditional l = 3 * (tree_size l.value.now + tree_size l.condition.now + tree_size l.other.now) + 1

abbrev pub decreases-note_listed : goal.decreases-note_listed
decreases-note_listed l = 3 * trees_size (from_list l.items.now) + 2

abbrev pub decreases-note_items : goal.decreases-note_items
decreases-note_items l = 3 * trees_size (from_list l.items.now) + 1

abbrev pub decreases-note_more_items : goal.decreases-note_more_items
decreases-note_more_items l = 3 * trees_size (from_list l.items.now) + 1

abbrev pub decreases-note_key : goal.decreases-note_key
decreases-note_key l = 3 * tree_size l.key.now.value + 1

abbrev pub decreases-note_keys : goal.decreases-note_keys
decreases-note_keys l = 3 * keys_size (keys_from (keys_of l.keys.now)) + 2

abbrev pub decreases-note_more_keys : goal.decreases-note_more_keys
decreases-note_more_keys l = 3 * keys_size (keys_from (keys_of l.keys.now)) + 2

-- what is left completes it
abbrev pub invariant-note_more_items-loop-item : goal.invariant-note_more_items-loop-item
invariant-note_more_items-loop-item l =
    walked_more l.rename (scope_at l.place) l.found (from_list (drop l.item-index l.items))
    ≡ walked_more l.rename (scope_at l.place) l.fn.found (from_list l.items)

abbrev pub invariant-note_more_keys-loop-key : goal.invariant-note_more_keys-loop-key
invariant-note_more_keys-loop-key l =
    walked_more_keys l.rename (scope_at l.place) l.table l.found (keys_from (keys_of (drop l.key-index l.keys)))
    ≡ walked_more_keys l.rename (scope_at l.place) l.table l.fn.found (keys_from (keys_of l.keys))
