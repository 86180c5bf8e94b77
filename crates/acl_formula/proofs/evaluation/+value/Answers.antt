use Rattle.std.proofs.Common.{arith, ◌≡◌, ◌≤◌, ◌+◌, ◌<◌, ◌++◌, ◌∙◌, ap, sym, refl, ℕ, List, Some, drop, length, subst}
use Rattle.std.proofs.lemmas.List.{length-append}
use Rattle.cell_types.specs.declared.value.CellItem.{CellItem}
use Rattle.formula_parse.specs.Tree.{Tree, Trees, from_list}
use Rattle.formula_parse.specs.TreeSize.{tree_size, trees_size}
use Rattle.acl_formula.specs.declared.operand.Part.{Part}
use Rattle.acl_formula.specs.Asked.{Asked, asked_by}
use Rattle.acl_formula.specs.Desk.{between, items_in}
use Rattle.acl_formula.specs.Room.{items_room}
use Rattle.acl_formula.specs.RuleValue.{value_of, items_of, item_list, followed}
use Rattle.acl_formula.proofs.DeskKept.{take_less, end_from, seen_kept, good_kept, down_kept, down_end}
use Rattle.acl_formula.proofs.FormulaItems.{item_smaller, items_drop}
use Rattle.acl_formula.proofs.ListLemmas.{items_more, good_items_more, one_item, followed_step, start_items, start_good, start_length}
use Rattle.acl_formula.proofs.Operands.{operated_values, summed_values}
use Rattle.acl_formula.proofs.evaluation.+value.Goals as goal

pub both-value_of-requires-2 : goal.both-value_of-requires-2
both-value_of-requires-2 g t c κs within = (omega (arith, c.decreases), (within, (omega (arith, c.value_of.ensures.length, c.requires.room.0), omega (arith, c.value_of.ensures.length, c.requires.room.1))))

pub either-value_of-requires-2 : goal.either-value_of-requires-2
either-value_of-requires-2 g t c κs within = (omega (arith, c.decreases), (within, (omega (arith, c.value_of.ensures.length, c.requires.room.0), omega (arith, c.value_of.ensures.length, c.requires.room.1))))

pub of_values-value_of-requires-2 : goal.of_values-value_of-requires-2
of_values-value_of-requires-2 g t c κs within =
    (omega (arith, c.decreases), (within, (omega (arith, c.end_of.ensures, c.in-Some.ensures.end, c.value_of.ensures.length, c.requires.room.0), omega (arith, c.value_of.ensures.length, c.requires.room.1))))

pub joined-value_of-requires-2 : goal.joined-value_of-requires-2
joined-value_of-requires-2 g t c κs within = (
  omega (arith, c.decreases),
  (
    within,
    (
      omega (arith, c.put_down-middle.ensures.end, c.put_down-middle.ensures.length, c.in-Some.ensures.end, c.value_of.ensures.length, c.requires.room.0),
      omega (arith, c.put_down-middle.ensures.length, c.value_of.ensures.length, c.requires.room.1),
    ),
  ),
)

-- the front of the desk stays
pub of_values-returns-clause-kept : goal.of_values-returns-clause-kept
of_values-returns-clause-kept g t c =
    take_less c.args.at c.end_of.result c.value_of-2.new.desk c.value_of.new.desk
    (omega (arith, c.end_of.ensures, end_from c.value_of.new.desk c.args.at c.in-Some.first c.in-Some.ensures.good.0 c.in-Some.ensures.good.1))
    c.value_of-2.ensures.kept
    ∙ c.value_of.ensures.kept

pub joined-returns-in_default-value_of-clause-kept : goal.joined-returns-in_default-value_of-clause-kept
joined-returns-in_default-value_of-clause-kept g t c =
    take_less c.args.at c.put_down-middle.result c.value_of-2.new.desk c.put_down-middle.new.desk c.put_down-middle.ensures.from c.value_of-2.ensures.kept
    ∙ c.put_down-middle.ensures.kept ∙ c.value_of.ensures.kept

pub joined-returns-clause-kept : goal.joined-returns-clause-kept
joined-returns-clause-kept g t c =
    take_less c.args.at c.put_down-middle.result c.put_down-end.new.desk c.put_down-middle.new.desk c.put_down-middle.ensures.from (c.put_down-end.ensures.kept ∙ c.value_of-2.ensures.kept)
    ∙ c.put_down-middle.ensures.kept ∙ c.value_of.ensures.kept

-- the first operand stays as it was
pub of_values-operated-requires-clause-left : goal.of_values-operated-requires-clause-left
of_values-operated-requires-clause-left g t c =
    good_kept c.end_of.result c.value_of.new.desk c.value_of-2.new.desk (sym c.value_of-2.ensures.kept) c.args.at c.in-Some.first c.in-Some.ensures.good.0 (omega (arith, c.end_of.ensures)) c.value_of-2.ensures.length

pub of_values-returns-clause-value : goal.of_values-returns-clause-value
of_values-returns-clause-value g t c =
    operated_values c.args.op c.requires.op _ _ _ _ _ _ (sym c.in-Some.ensures.value) (sym c.in-Some-value_of.ensures.value)
    (seen_kept c.end_of.result c.value_of.new.desk c.value_of-2.new.desk (sym c.value_of-2.ensures.kept) c.args.at c.in-Some.first c.in-Some.ensures.good.0 (omega (arith, c.end_of.ensures)))
    (c.beside.ensures.value ∙ c.operated.ensures.value)

pub joined-total-requires-clause-good : goal.joined-total-requires-clause-good
joined-total-requires-clause-good g t c = (
  good_kept c.put_down-middle.result c.put_down-middle.new.desk c.put_down-end.new.desk (sym (c.put_down-end.ensures.kept ∙ c.value_of-2.ensures.kept)) c.args.at c.in-Some.first c.put_down-middle.ensures.good
      (down_end c.put_down-middle.new.desk c.args.at c.put_down-middle.result c.in-Some.first c.put_down-middle.ensures.from c.put_down-middle.ensures.down)
      (c.put_down-end.ensures.length ∙ c.value_of-2.ensures.length),
  c.put_down-end.ensures.good,
)

pub joined-total-requires-clause-down : goal.joined-total-requires-clause-down
joined-total-requires-clause-down g t c = (
  down_kept c.put_down-middle.result c.put_down-middle.new.desk c.put_down-end.new.desk (sym (c.put_down-end.ensures.kept ∙ c.value_of-2.ensures.kept)) c.args.at c.put_down-middle.result c.in-Some.first c.put_down-middle.ensures.from (omega arith) c.put_down-middle.ensures.down,
  c.put_down-end.ensures.down,
)

pub joined-returns-clause-value : goal.joined-returns-clause-value
joined-returns-clause-value g t c =
    summed_values _ _ _ _ _ _ _ (sym c.in-Some.ensures.value) (sym c.in-Some-value_of.ensures.value)
    (seen_kept c.put_down-middle.result c.put_down-middle.new.desk c.put_down-end.new.desk (sym (c.put_down-end.ensures.kept ∙ c.value_of-2.ensures.kept)) c.args.at c.in-Some.first c.put_down-middle.ensures.good
    (down_end c.put_down-middle.new.desk c.args.at c.put_down-middle.result c.in-Some.first c.put_down-middle.ensures.from c.put_down-middle.ensures.down)
    ∙ c.put_down-middle.ensures.same)
    c.put_down-end.ensures.same c.total.ensures.value

pub of_values-returns-in_default-value_of-clause-kept : goal.of_values-returns-in_default-value_of-clause-kept
of_values-returns-in_default-value_of-clause-kept g t c =
    take_less c.args.at c.end_of.result c.value_of-2.new.desk c.value_of.new.desk
    (omega (arith, c.end_of.ensures, end_from c.value_of.new.desk c.args.at c.in-Some.first c.in-Some.ensures.good.0 c.in-Some.ensures.good.1))
    c.value_of-2.ensures.kept
    ∙ c.value_of.ensures.kept

-- a list that is written
pub listed-loop-item-init : goal.listed-loop-item-init
listed-loop-item-init g t c =
    let x : Asked = asked_by g.W.RowReader.told c.args.user.now c.args.before c.args.after in (
      refl,
      refl,
      omega arith,
      omega (arith, ap (λ (ts : List Tree). items_room (from_list ts)) c.as_slice-item-items.ensures),
      start_items c.args.at c.args.desk.now (items_of x (from_list c.args.items.now)) (items_of x (from_list c.as_slice-item-items.result.now)) (ap (λ (ts : List Tree). items_of x (from_list ts)) c.as_slice-item-items.ensures),
      start_good c.args.at c.args.desk.now,
      start_length c.args.at c.args.desk.now,
      omega arith,
    )

pub listed-item_put-requires : goal.listed-item_put-requires
listed-item_put-requires g t c κs within =
    let ts : List Tree = c.as_slice-item-items.result.now in
    let s : tree_size c.item-item.result < trees_size (from_list c.args.items.now) =
    subst (λ (us : List Tree). tree_size c.item-item.result < trees_size (from_list us)) c.as_slice-item-items.ensures
    (item_smaller ts c.loop-item.item-index c.item-item.result c.loop-item-test.true c.item-item.is) in
    let left = ap items_room (items_drop ts c.loop-item.item-index c.item-item.result c.loop-item-test.true c.item-item.is) in
    (omega arith, (within, (omega (arith, left, c.loop-item.invariant.1, c.loop-item.invariant.3, c.requires.room.0), omega (arith, c.loop-item.invariant.1, c.requires.room.1))))

pub listed-returns-in_default-clause-kept : goal.listed-returns-in_default-clause-kept
listed-returns-in_default-clause-kept g t c =
    take_less c.args.at c.loop-item.end c.item_put.new.desk c.loop-item.desk c.loop-item.invariant.2 c.item_put.ensures.kept ∙ c.loop-item.invariant.0

pub listed-loop-item-preserved : goal.listed-loop-item-preserved
listed-loop-item-preserved g t c =
    let x : Asked = asked_by g.W.RowReader.told c.args.user.now c.args.before c.args.after in
    let ts : List Tree = c.as_slice-item-items.result.now in
    let at : ℕ = c.args.at in
    let middle : ℕ = c.loop-item.end in
    let end : ℕ = c.in-Some.next in
    let old : List Part = c.loop-item.desk in
    let new : List Part = c.item_put.new.desk in
    let left = items_drop ts c.loop-item.item-index c.item-item.result c.loop-item-test.true c.item-item.is in
    let rest : Trees = from_list (drop (c.loop-item.item-index + 1) ts) in
    let order : middle ≤ end = omega (arith, c.in-Some.ensures.end.0) in
    let is : List CellItem = items_in old (between at middle old) in
    let js : List CellItem = items_in new (between middle end new) in
    let more : items_in new (between at end new) ≡ items_in old (between at middle old) ++ items_in new (between middle end new) =
    items_more at middle end old new c.loop-item.invariant.2 order c.item_put.ensures.kept c.loop-item.invariant.5 in (
      take_less at middle new old c.loop-item.invariant.2 c.item_put.ensures.kept ∙ c.loop-item.invariant.0,
      c.item_put.ensures.length ∙ c.loop-item.invariant.1,
      omega (arith, c.loop-item.invariant.2, order),
      omega (arith, ap items_room left, c.in-Some.ensures.end.1, c.loop-item.invariant.3),
      followed_step (items_of x (from_list c.args.items.now)) is js (item_list (value_of x c.item-item.result)) (items_of x rest) c.in-Some.ensures.item
          (c.loop-item.invariant.4 ∙ ap (λ (us : Trees). followed (Some is) (items_of x us)) left)
          ∙ ap (λ (ks : List CellItem). followed (Some ks) (items_of x rest)) (sym more),
      good_items_more at middle end old new c.loop-item.invariant.2 order c.item_put.ensures.kept c.loop-item.invariant.5 c.in-Some.ensures.good,
      omega (arith, c.loop-item.invariant.6, ap (λ (ks : List CellItem). length ks) more, length-append is js, one_item (value_of x c.item-item.result) js c.in-Some.ensures.item),
      omega (arith, c.loop-item.invariant.7, c.in-Some.ensures.end.0),
    )
