use Rattle.std.proofs.Common.{◌≡◌, ◌+◌, ◌*◌, drop, map}
use Rattle.formula_parse.specs.Seen.{keys_of}
use Rattle.formula_parse.specs.Tree.{from_list, keys_from}
use Rattle.formula_parse.specs.TreeSize.{tree_size, trees_size, keys_size}
use Rattle.formula_eval.specs.Run.{after, collect}
use Rattle.formula_eval.specs.Attribute.{as_item}
use Rattle.formula_eval.specs.Eval.{ev_each, ev_keys, forms_of}
use Rattle.formula_eval.specs.Lookup.{item_runs}
use Rattle.formula_eval.specs.Halted.{fronted}
use Rattle.formula_eval.proofs.evaluate.+evaluate.Given as goal

abbrev pub decreases-value_of : goal.decreases-value_of
decreases-value_of g l = 5 * tree_size l.formula.now

abbrev pub decreases-binary : goal.decreases-binary
decreases-binary g l = 5 * (tree_size l.left.now + tree_size l.right.now) + 1

abbrev pub decreases-prefix : goal.decreases-prefix
decreases-prefix g l = 5 * tree_size l.inner.now + 1

abbrev pub decreases-field : goal.decreases-field
decreases-field g l = 5 * tree_size l.inner.now + 1

abbrev pub decreases-conditional : goal.decreases-conditional
decreases-conditional g l = 5 * (tree_size l.value.now + tree_size l.test.now + tree_size l.other.now) + 1

abbrev pub decreases-item : goal.decreases-item
decreases-item g l = 5 * tree_size l.formula.now + 1

abbrev pub decreases-items_of : goal.decreases-items_of
decreases-items_of g l = 5 * trees_size (from_list l.arguments.now) + 1

abbrev pub decreases-values_of : goal.decreases-values_of
decreases-values_of g l = 5 * trees_size (from_list l.arguments.now) + 1

abbrev pub decreases-argument_at : goal.decreases-argument_at
decreases-argument_at g l = 5 * trees_size (from_list l.arguments.now) + 1

abbrev pub decreases-choice : goal.decreases-choice
decreases-choice g l = 5 * trees_size (from_list l.arguments.now) + 2

abbrev pub decreases-caught : goal.decreases-caught
decreases-caught g l = 5 * trees_size (from_list l.arguments.now) + 2

abbrev pub decreases-run : goal.decreases-run
decreases-run g l = 5 * trees_size (from_list l.arguments.now) + 3

abbrev pub decreases-call : goal.decreases-call
decreases-call g l = 5 * trees_size (from_list l.arguments.now) + 4

abbrev pub decreases-lookup : goal.decreases-lookup
decreases-lookup g l = 5 * keys_size (keys_from l.keys.now) + 1

abbrev pub decreases-key_items : goal.decreases-key_items
decreases-key_items g l = 5 * keys_size (keys_from l.keys.now)

abbrev pub decreases-key_item : goal.decreases-key_item
decreases-key_item g l = 5 * tree_size l.key.now.value + 3

abbrev pub decreases-key_value : goal.decreases-key_value
decreases-key_value g l = 5 * tree_size l.formula.now + 2

abbrev pub decreases-contained : goal.decreases-contained
decreases-contained g l = 5 * tree_size l.formula.now + 1

abbrev pub invariant-items_of-loop-formula : goal.invariant-items_of-loop-formula
invariant-items_of-loop-formula g l =
    fronted l.items.items (after (g.N.NoteKeeper.noted l.notes) (collect (map as_item (ev_each (g.R.CellSource.told l.reader) l.at (from_list (drop l.formula-index l.formula-items))))))
    ≡ after (g.N.NoteKeeper.noted l.fn.notes) (collect (map as_item (ev_each (g.R.CellSource.told l.reader) l.at (from_list l.arguments))))

abbrev pub invariant-values_of-loop-formula : goal.invariant-values_of-loop-formula
invariant-values_of-loop-formula g l =
    fronted l.values.items (after (g.N.NoteKeeper.noted l.notes) (collect (ev_each (g.R.CellSource.told l.reader) l.at (from_list (drop l.formula-index l.formula-items)))))
    ≡ after (g.N.NoteKeeper.noted l.fn.notes) (collect (ev_each (g.R.CellSource.told l.reader) l.at (from_list l.arguments)))

abbrev pub invariant-key_items-loop-key : goal.invariant-key_items-loop-key
invariant-key_items-loop-key g l =
    fronted l.items.items (after (g.N.NoteKeeper.noted l.notes) (collect (item_runs (forms_of (keys_from (keys_of (drop l.key-index l.key-items)))) (ev_keys (g.R.CellSource.told l.reader) l.at (keys_from (keys_of (drop l.key-index l.key-items)))))))
    ≡ after (g.N.NoteKeeper.noted l.fn.notes) (collect (item_runs (forms_of (keys_from l.keys)) (ev_keys (g.R.CellSource.told l.reader) l.at (keys_from l.keys))))
