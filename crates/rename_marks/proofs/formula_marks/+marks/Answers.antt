use Rattle.std.proofs.Common.{◌≡◌, ◌∙◌, ◌+◌, arith, ap, sym, subst, List, drop, OnOk}
use Rattle.formula_parse.specs.declared.tree.LookupKey.{LookupKey}
use Rattle.formula_parse.specs.Seen.{keys_of}
use Rattle.formula_parse.specs.Tree.{Keys, Tree, Trees, from_list, keys_from, one_key, one_more}
use Rattle.formula_records.proofs.ItemLemmas.{item_smaller, items_drop}
use Rattle.rename_marks.specs.declared.marking.Marking.{Marking}
use Rattle.rename_marks.specs.Noted.{walked, walked_items, walked_keys, walked_more, walked_more_keys, with_key}
use Rattle.rename_marks.specs.Scope.{scope_at}
use Rattle.rename_marks.proofs.KeyLemmas.{key_smaller, keys_drop, none_left, others}
use Rattle.rename_marks.proofs.WalkLemmas.{walked_first, walked_first_key, walked_next, walked_next_key, walked_no_items, walked_no_keys, walked_no_more, walked_no_more_keys}
use Rattle.rename_marks.proofs.formula_marks.+marks.Goals as goal

pub note_items-returns-in-empty : goal.note_items-returns-in-empty
note_items-returns-in-empty t c =
    let r = c.args.rename.now in
    let s = scope_at c.args.place.now in
    walked_no_items r s c.args.found.now
    ∙ ap (λ (ts : List Tree). walked_items r s c.args.found.now (from_list ts)) (sym (none_left c.args.items.now 0 (omega (arith, c.in-empty.len_below))))

pub note_items-returns-in_ok-note_formula-in-len1-up : goal.note_items-returns-in_ok-note_formula-in-len1-up
note_items-returns-in_ok-note_formula-in-len1-up t c =
    let r = c.args.rename.now in
    let s = scope_at c.args.place.now in
    let rest = from_list (drop 1 c.args.items.now) in
    let e : from_list c.args.items.now ≡ one_more c.first-item.result rest = items_drop c.args.items.now 0 c.first-item.result (omega (arith, c.in-len1-up.len_at_least)) c.first-item.is in
    let all : walked_more r s c.note_formula.new.found rest ≡ walked_items r s c.args.found.now (from_list c.args.items.now) =
    ap (λ (m : Marking). walked_more r s m rest) c.in_ok-note_formula-in-len1-up.ensures
    ∙ walked_first r s c.args.found.now c.first-item.result rest
    ∙ ap (λ (ts : Trees). walked_items r s c.args.found.now ts) (sym e) in
    let behind = ap (λ (ts : List Tree). walked_more r s c.note_formula.new.found (from_list ts)) (others c.args.items.now) in
    subst (λ (m : Marking). OnOk c.note_more_items.result (c.note_more_items.new.found ≡ m)) (behind ∙ all) c.note_more_items.ensures

pub note_more_items-note_formula-requires : goal.note_more_items-note_formula-requires
note_more_items-note_formula-requires t c =
    let h = item_smaller c.args.items.now c.loop-item.item-index c.item-item.result c.loop-item-test.true c.item-item.is in
    (omega arith, tt)

pub note_more_items-loop-item-preserved : goal.note_more_items-loop-item-preserved
note_more_items-loop-item-preserved t c =
    let r = c.args.rename.now in
    let s = scope_at c.args.place.now in
    let rest = from_list (drop (c.loop-item.item-index + 1) c.args.items.now) in
    let e : from_list (drop c.loop-item.item-index c.args.items.now) ≡ one_more c.item-item.result rest = items_drop c.args.items.now c.loop-item.item-index c.item-item.result c.loop-item-test.true c.item-item.is in
    ap (λ (m : Marking). walked_more r s m rest) (c.in_ok-note_formula.ensures ∙ ap (λ (m : Marking). walked r s m c.item-item.result) c.in_ok-skip.ensures)
    ∙ walked_next r s c.loop-item.found c.item-item.result rest
    ∙ ap (λ (ts : Trees). walked_more r s c.loop-item.found ts) (sym e)
    ∙ c.loop-item.invariant

pub note_more_items-returns : goal.note_more_items-returns
note_more_items-returns t c =
    let r = c.args.rename.now in
    let s = scope_at c.args.place.now in
    walked_no_more r s c.loop-item.found
    ∙ ap (λ (ts : List Tree). walked_more r s c.loop-item.found (from_list ts)) (sym (none_left c.args.items.now c.loop-item.item-index c.loop-item-test.false))
    ∙ c.loop-item.invariant

pub note_keys-returns-in-empty : goal.note_keys-returns-in-empty
note_keys-returns-in-empty t c =
    let r = c.args.rename.now in
    let s = scope_at c.args.place.now in
    walked_no_keys r s c.args.table.now c.args.found.now
    ∙ ap (λ (ks : List LookupKey). walked_keys r s c.args.table.now c.args.found.now (keys_from (keys_of ks))) (sym (none_left c.args.keys.now 0 (omega (arith, c.in-empty.len_below))))

pub note_keys-returns-in_ok-note_key-in-len1-up : goal.note_keys-returns-in_ok-note_key-in-len1-up
note_keys-returns-in_ok-note_key-in-len1-up t c =
    let r = c.args.rename.now in
    let s = scope_at c.args.place.now in
    let at = c.args.table.now in
    let rest = keys_from (keys_of (drop 1 c.args.keys.now)) in
    let e : keys_from (keys_of c.args.keys.now) ≡ one_key c.first-item.result.name c.first-item.result.value rest = keys_drop c.args.keys.now 0 c.first-item.result (omega (arith, c.in-len1-up.len_at_least)) c.first-item.is in
    let all : walked_more_keys r s at c.note_key.new.found rest ≡ walked_keys r s at c.args.found.now (keys_from (keys_of c.args.keys.now)) =
    ap (λ (m : Marking). walked_more_keys r s at m rest) c.in_ok-note_key-in-len1-up.ensures
    ∙ walked_first_key r s at c.args.found.now c.first-item.result.name c.first-item.result.value rest
    ∙ ap (λ (ks : Keys). walked_keys r s at c.args.found.now ks) (sym e) in
    let behind = ap (λ (ks : List LookupKey). walked_more_keys r s at c.note_key.new.found (keys_from (keys_of ks))) (others c.args.keys.now) in
    subst (λ (m : Marking). OnOk c.note_more_keys.result (c.note_more_keys.new.found ≡ m)) (behind ∙ all) c.note_more_keys.ensures

pub note_more_keys-note_key-requires : goal.note_more_keys-note_key-requires
note_more_keys-note_key-requires t c =
    let h = key_smaller c.args.keys.now c.loop-key.key-index c.key-item.result c.loop-key-test.true c.key-item.is in
    (omega arith, tt)

pub note_more_keys-loop-key-preserved : goal.note_more_keys-loop-key-preserved
note_more_keys-loop-key-preserved t c =
    let r = c.args.rename.now in
    let s = scope_at c.args.place.now in
    let at = c.args.table.now in
    let key = c.key-item.result in
    let rest = keys_from (keys_of (drop (c.loop-key.key-index + 1) c.args.keys.now)) in
    let e : keys_from (keys_of (drop c.loop-key.key-index c.args.keys.now)) ≡ one_key key.name key.value rest = keys_drop c.args.keys.now c.loop-key.key-index key c.loop-key-test.true c.key-item.is in
    ap (λ (m : Marking). walked_more_keys r s at m rest) (c.in_ok-note_key.ensures ∙ ap (λ (m : Marking). with_key r s at m key.name key.value) c.in_ok-skip.ensures)
    ∙ walked_next_key r s at c.loop-key.found key.name key.value rest
    ∙ ap (λ (ks : Keys). walked_more_keys r s at c.loop-key.found ks) (sym e)
    ∙ c.loop-key.invariant

pub note_more_keys-returns : goal.note_more_keys-returns
note_more_keys-returns t c =
    let r = c.args.rename.now in
    let s = scope_at c.args.place.now in
    walked_no_more_keys r s c.args.table.now c.loop-key.found
    ∙ ap (λ (ks : List LookupKey). walked_more_keys r s c.args.table.now c.loop-key.found (keys_from (keys_of ks))) (sym (none_left c.args.keys.now c.loop-key.key-index c.loop-key-test.false))
    ∙ c.loop-key.invariant
