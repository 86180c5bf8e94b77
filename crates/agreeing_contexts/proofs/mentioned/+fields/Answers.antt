use Rattle.std.proofs.Common.{◌<◌, ◌+◌, List, subst, sym, ap, ◌∙◌, arith, drop}
use Rattle.formula_parse.specs.Tree.{Tree, Trees, from_list}
use Rattle.formula_parse.specs.TreeSize.{tree_size, trees_size}
use Rattle.agreeing_contexts.proofs.ItemLemmas.{item_smaller, items_drop}
use Rattle.agreeing_contexts.specs.Fields.{gathered, item_fields, tree_fields}
use Rattle.agreeing_contexts.specs.declared.field.UserField.{UserField}
use Rattle.agreeing_contexts.proofs.FieldLemmas.{gathered_append}
use Rattle.agreeing_contexts.proofs.mentioned.+fields.Goals as goal

pub note_items-note_tree-requires : goal.note_items-note_tree-requires
note_items-note_tree-requires t c =
    let s : tree_size c.item-item.result < trees_size (from_list c.args.items.now) =
    subst (λ (ts : List Tree). tree_size c.item-item.result < trees_size (from_list ts)) c.as_slice-item-items.ensures
    (item_smaller c.as_slice-item-items.result.now c.loop-item.item-index c.item-item.result c.loop-item-test.true c.item-item.is) in
    (omega arith, tt)

pub note_items-loop-item-preserved : goal.note_items-loop-item-preserved
note_items-loop-item-preserved t c =
    let ts : List Tree = c.as_slice-item-items.result.now in
    let rest : List UserField = item_fields (from_list (drop (c.loop-item.item-index + 1) ts)) in
    ap (λ (seen : List UserField). gathered seen rest) c.in_ok-note_tree.ensures
    ∙ sym (gathered_append c.loop-item.fields (tree_fields c.item-item.result) rest)
    ∙ sym (ap (λ (us : Trees). gathered c.loop-item.fields (item_fields us)) (items_drop ts c.loop-item.item-index c.item-item.result c.loop-item-test.true c.item-item.is))
    ∙ c.loop-item.invariant
