use Rattle.std.proofs.Common.{◌<◌, ◌+◌, List, ℕ, subst, arith}
use Rattle.formula_parse.specs.Tree.{Tree, from_list, keys_from}
use Rattle.formula_parse.specs.TreeSize.{tree_size, trees_size, keys_size}
use Rattle.par_recalc.proofs.NamingLemmas.{item_smaller, key_smaller}
use Rattle.known_reads.proofs.level_indexes.+indexing.Goals as goal

pub index_items-index_formula-requires : goal.index_items-index_formula-requires
index_items-index_formula-requires g t c κs within =
    let s : tree_size c.item-item.result < trees_size (from_list c.args.items.now) =
    subst (λ (ts : List Tree). tree_size c.item-item.result < trees_size (from_list ts)) c.as_slice-item-items.ensures
    (item_smaller c.as_slice-item-items.result.now c.loop-item.item-index c.item-item.result c.loop-item-test.true c.item-item.is) in
    (omega arith, (within.0, (within.1, c.loop-item.invariant)))

pub index_keys-index_formula-requires : goal.index_keys-index_formula-requires
index_keys-index_formula-requires g t c κs within =
    let s : tree_size c.key-item.result.value + 1 < keys_size (keys_from c.args.keys.now) =
    subst (λ (l : List (List ℕ × Tree)). tree_size c.key-item.result.value + 1 < keys_size (keys_from l)) c.as_slice-key-items.ensures
    (key_smaller c.as_slice-key-items.result.now c.loop-key.key-index c.key-item.result c.loop-key-test.true c.key-item.is) in
    (omega arith, (within.0, (within.1, c.in_ok-index_column.ensures)))
