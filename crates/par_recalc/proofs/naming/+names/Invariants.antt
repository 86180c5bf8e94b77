use Rattle.std.proofs.Common.{◌≡◌, ◌+◌, ◌*◌, ◌++◌, drop}
use Rattle.formula_parse.specs.Seen.{keys_of}
use Rattle.formula_parse.specs.Tree.{from_list, keys_from}
use Rattle.formula_parse.specs.TreeSize.{tree_size, trees_size, keys_size}
use Rattle.par_recalc.specs.Naming.{named_by_all, named_by_keys}
use Rattle.par_recalc.proofs.naming.+names.Given as goal

abbrev pub decreases-push_named : goal.decreases-push_named
decreases-push_named l = 2 * tree_size l.formula.now

abbrev pub decreases-push_items : goal.decreases-push_items
decreases-push_items l = 2 * trees_size (from_list l.items.now) + 1

abbrev pub decreases-push_keys : goal.decreases-push_keys
decreases-push_keys l = 2 * keys_size (keys_from l.keys.now)

abbrev pub decreases-push_key : goal.decreases-push_key
decreases-push_key l = 2 * tree_size l.key.now.value + 1

abbrev pub invariant-push_items-loop-item : goal.invariant-push_items-loop-item
invariant-push_items-loop-item l =
    l.ids ++ named_by_all (from_list (drop l.item-index l.item-items)) ≡ l.fn.ids ++ named_by_all (from_list l.items)

abbrev pub invariant-push_keys-loop-key : goal.invariant-push_keys-loop-key
invariant-push_keys-loop-key l =
    l.ids ++ named_by_keys (keys_from (keys_of (drop l.key-index l.key-items))) ≡ l.fn.ids ++ named_by_keys (keys_from l.keys)
