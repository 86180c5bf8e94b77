use Rattle.std.proofs.Common.{◌≡◌, ◌<◌, arith, sym, subst, List, OnOk}
use Rattle.formula_parse.specs.Tree.{Tree, from_list}
use Rattle.formula_parse.specs.TreeSize.{tree_size, trees_size}
use Rattle.formula_records.specs.declared.tables.RecordTables.{RecordTables}
use Rattle.formula_records.specs.RecordTables.{union}
use Rattle.formula_records.specs.ShownColumns.{columns_of}
use Rattle.formula_records.proofs.ItemLemmas.{if_error_of_others, if_of_others, item_smaller, of_one, of_three, of_two}
use Rattle.formula_records.proofs.records.+records.Goals as goal

pub note_items-note_formula-requires : goal.note_items-note_formula-requires
note_items-note_formula-requires t c =
    let s : tree_size c.item-item.result < trees_size (from_list c.args.items.now) =
    subst (λ (ts : List Tree). tree_size c.item-item.result < trees_size (from_list ts)) c.as_slice-item-items.ensures
    (item_smaller c.as_slice-item-items.result.now c.loop-item.item-index c.item-item.result c.loop-item-test.true c.item-item.is) in
    (omega arith, tt)

pub note_if-note_both-requires : goal.note_if-note_both-requires
note_if-note_both-requires t c =
    let h = of_three (columns_of c.args.view.now) c.args.own.now c.args.arguments.now c.left-item.result c.right-item.result c.in-len3.len_at_least c.in-len3.len_below c.left-item.is c.right-item.is in
    let s = h.smaller in
    (omega arith, tt)

pub note_if-returns-in-len3 : goal.note_if-returns-in-len3
note_if-returns-in-len3 t c =
    let h = of_three (columns_of c.args.view.now) c.args.own.now c.args.arguments.now c.left-item.result c.right-item.result c.in-len3.len_at_least c.in-len3.len_below c.left-item.is c.right-item.is in
    subst (λ (q : RecordTables). OnOk c.note_both.result (c.note_both.new.found ≡ union c.args.found.now q)) (sym h.gives) c.note_both.ensures

pub note_if-returns-in_default : goal.note_if-returns-in_default
note_if-returns-in_default t c = grind (arith, if_of_others, c.in_default.len_below)

pub note_if-returns-in_default-2 : goal.note_if-returns-in_default-2
note_if-returns-in_default-2 t c = grind (arith, if_of_others, c.in_default.len_at_least)

pub note_if_error-note_formula-requires : goal.note_if_error-note_formula-requires
note_if_error-note_formula-requires t c =
    let h = of_one (columns_of c.args.view.now) c.args.own.now c.args.arguments.now c.one-item.result c.in-len1.len_at_least c.in-len1.len_below c.one-item.is in
    let s = h.smaller in
    (omega arith, tt)

pub note_if_error-note_both-requires : goal.note_if_error-note_both-requires
note_if_error-note_both-requires t c =
    let h = of_two (columns_of c.args.view.now) c.args.own.now c.args.arguments.now c.left-item.result c.right-item.result c.in-len2.len_at_least c.in-len2.len_below c.left-item.is c.right-item.is in
    let s = h.smaller in
    (omega arith, tt)

pub note_if_error-returns-in-len1 : goal.note_if_error-returns-in-len1
note_if_error-returns-in-len1 t c =
    let h = of_one (columns_of c.args.view.now) c.args.own.now c.args.arguments.now c.one-item.result c.in-len1.len_at_least c.in-len1.len_below c.one-item.is in
    subst (λ (q : RecordTables). OnOk c.note_formula.result (c.note_formula.new.found ≡ union c.args.found.now q)) (sym h.gives) c.note_formula.ensures

pub note_if_error-returns-in-len2 : goal.note_if_error-returns-in-len2
note_if_error-returns-in-len2 t c =
    let h = of_two (columns_of c.args.view.now) c.args.own.now c.args.arguments.now c.left-item.result c.right-item.result c.in-len2.len_at_least c.in-len2.len_below c.left-item.is c.right-item.is in
    subst (λ (q : RecordTables). OnOk c.note_both.result (c.note_both.new.found ≡ union c.args.found.now q)) (sym h.gives) c.note_both.ensures

pub note_if_error-returns-in_default : goal.note_if_error-returns-in_default
note_if_error-returns-in_default t c = grind (arith, if_error_of_others, c.in_default.len_below)

pub note_if_error-returns-in_default-2 : goal.note_if_error-returns-in_default-2
note_if_error-returns-in_default-2 t c = grind (arith, if_error_of_others, c.in_default.len_at_least)
