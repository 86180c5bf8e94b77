use Rattle.std.proofs.Common.{ℕ, ◌<◌, ◌+◌, List, ◌++◌, subst, sym, ap, ◌∙◌, arith, drop, append_assoc}
use Rattle.formula_parse.specs.declared.tree.LookupKey.{LookupKey}
use Rattle.formula_parse.specs.Seen.{keys_of}
use Rattle.formula_parse.specs.Tree.{Tree, Trees, Keys, from_list, keys_from}
use Rattle.formula_parse.specs.TreeSize.{tree_size, trees_size, keys_size}
use Rattle.par_recalc.specs.Naming.{named, named_by_all, named_by_keys}
use Rattle.par_recalc.proofs.NamingLemmas.{item_smaller, items_drop, key_smaller, keys_drop}
use Rattle.par_recalc.proofs.naming.+names.Goals as goal

pub push_items-push_named-requires : goal.push_items-push_named-requires
push_items-push_named-requires t c =
    let s : tree_size c.item-item.result < trees_size (from_list c.args.items.now) =
    subst (λ (ts : List Tree). tree_size c.item-item.result < trees_size (from_list ts)) c.as_slice-item-items.ensures
    (item_smaller c.as_slice-item-items.result.now c.loop-item.item-index c.item-item.result c.loop-item-test.true c.item-item.is) in
    (omega arith, tt)

pub push_items-loop-item-preserved : goal.push_items-loop-item-preserved
push_items-loop-item-preserved t c =
    let ts : List Tree = c.as_slice-item-items.result.now in
    let rest = named_by_all (from_list (drop (c.loop-item.item-index + 1) ts)) in
    ap (λ ids. ids ++ rest) c.in_ok-push_named.ensures
    ∙ append_assoc c.loop-item.ids (named c.item-item.result) rest
    ∙ sym (ap (λ (us : Trees). c.loop-item.ids ++ named_by_all us) (items_drop ts c.loop-item.item-index c.item-item.result c.loop-item-test.true c.item-item.is))
    ∙ c.loop-item.invariant

pub push_keys-push_key-requires : goal.push_keys-push_key-requires
push_keys-push_key-requires t c =
    let s : tree_size c.key-item.result.value + 1 < keys_size (keys_from c.args.keys.now) =
    subst (λ (l : List (List ℕ × Tree)). tree_size c.key-item.result.value + 1 < keys_size (keys_from l)) c.as_slice-key-items.ensures
    (key_smaller c.as_slice-key-items.result.now c.loop-key.key-index c.key-item.result c.loop-key-test.true c.key-item.is) in
    (omega arith, tt)

pub push_keys-loop-key-preserved : goal.push_keys-loop-key-preserved
push_keys-loop-key-preserved t c =
    let ks : List LookupKey = c.as_slice-key-items.result.now in
    let rest = named_by_keys (keys_from (keys_of (drop (c.loop-key.key-index + 1) ks))) in
    ap (λ ids. ids ++ rest) c.in_ok-push_key.ensures
    ∙ append_assoc c.loop-key.ids _ rest
    ∙ sym (ap (λ (us : Keys). c.loop-key.ids ++ named_by_keys us) (keys_drop ks c.loop-key.key-index c.key-item.result c.loop-key-test.true c.key-item.is))
    ∙ c.loop-key.invariant
