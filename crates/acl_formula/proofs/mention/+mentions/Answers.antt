use Rattle.std.proofs.Common.{◌<◌, ◌+◌, List, subst, sym, ap, ◌∙◌, arith, drop}
use Rattle.formula_parse.specs.Tree.{Tree, Trees, from_list}
use Rattle.formula_parse.specs.TreeSize.{tree_size, trees_size}
use Rattle.acl_formula.specs.declared.mention.Mention.{Mention}
use Rattle.acl_formula.specs.Mentions.{gathered, all_mentions, items_mention}
use Rattle.acl_formula.proofs.FormulaItems.{item_smaller, items_drop}
use Rattle.acl_formula.proofs.MentionLemmas.{gathered_append}
use Rattle.acl_formula.proofs.mention.+mentions.Goals as goal

pub note_items-note_formula-requires : goal.note_items-note_formula-requires
note_items-note_formula-requires t c =
    let s : tree_size c.item-item.result < trees_size (from_list c.args.items.now) =
    subst (λ (ts : List Tree). tree_size c.item-item.result < trees_size (from_list ts)) c.as_slice-item-items.ensures
    (item_smaller c.as_slice-item-items.result.now c.loop-item.item-index c.item-item.result c.loop-item-test.true c.item-item.is) in
    (omega arith, tt)

pub note_items-loop-item-preserved : goal.note_items-loop-item-preserved
note_items-loop-item-preserved t c =
    let ts : List Tree = c.as_slice-item-items.result.now in
    let rest : List Mention = items_mention (from_list (drop (c.loop-item.item-index + 1) ts)) in
    ap (λ (seen : List Mention). gathered seen rest) c.in_ok-note_formula.ensures
    ∙ sym (gathered_append c.loop-item.mentions (all_mentions c.item-item.result) rest)
    ∙ sym (ap (λ (us : Trees). gathered c.loop-item.mentions (items_mention us)) (items_drop ts c.loop-item.item-index c.item-item.result c.loop-item-test.true c.item-item.is))
    ∙ c.loop-item.invariant
