use Rattle.std.proofs.Common.{Vec, Global, ℕ, cond, ◌<◌, ◌+◌, List, map, drop, arith, subst, sym, ap, ◌∙◌, rules}
use Rattle.cell_types.specs.declared.value.CellItem.{CellItem}
use Rattle.cell_types.specs.declared.value.CellValue.{CellValue}
use Rattle.cell_types.specs.declared.cell.KeyItem.{KeyItem}
use Rattle.formula_parse.specs.declared.tree.LookupKey.{LookupKey}
use Rattle.formula_parse.specs.Seen.{tree_of, keys_of}
use Rattle.formula_parse.specs.Tree.{Tree, from_list, Keys, keys_from}
use Rattle.formula_parse.specs.TreeSize.{tree_size, trees_size, keys_size}
use Rattle.formula_eval.specs.Reader.{Reader}
use Rattle.value_ops.specs.Truth.{truth_of}
use Rattle.formula_eval.specs.Run.{Run, after, collect, done, gives, seq}
use Rattle.formula_eval.specs.Attribute.{as_item, attribute_of, item_of}
use Rattle.formula_eval.specs.Operator.{is_decided, operated, prefixed}
use Rattle.formula_eval.specs.Call.{argument}
use Rattle.formula_eval.specs.Eval.{ev, ev_each, ev_key, ev_keys, form_of, forms_of}
use Rattle.formula_eval.specs.Lookup.{item_run, item_runs}
use Rattle.formula_eval.specs.Halted.{Comes, fronted}
use Rattle.std.proofs.lemmas.Result.{err_from_is_err_and}
use Rattle.formula_eval.proofs.Collects.{collect_step, collect_halts}
use Rattle.formula_eval.proofs.LookupEnds.{combined_ends, seq_halts, lookup_ends, opening_halts, items_halt}
use Rattle.formula_eval.proofs.Halts.{run_halts, caught_halts}
use Rattle.formula_eval.proofs.Items.{item_smaller, key_smaller, keys_drop, keys_even, each_drop, count_of_from_list, argument-there, argument-absent}
use Rattle.formula_eval.proofs.evaluate.+evaluate.Goals as goal

pub items_of-item-requires : goal.items_of-item-requires
items_of-item-requires g t c κs within =
    let s : tree_size c.formula-item.result < trees_size (from_list c.args.arguments.now) =
    subst (λ (ts : List Tree). tree_size c.formula-item.result < trees_size (from_list ts)) c.as_slice-formula-items.ensures
    (item_smaller c.as_slice-formula-items.result.now c.loop-formula.formula-index c.formula-item.result c.loop-formula-test.true c.formula-item.is) in
    (omega arith, within)

pub values_of-value_of-requires : goal.values_of-value_of-requires
values_of-value_of-requires g t c κs within =
    let s : tree_size c.formula-item.result < trees_size (from_list c.args.arguments.now) =
    subst (λ (ts : List Tree). tree_size c.formula-item.result < trees_size (from_list ts)) c.as_slice-formula-items.ensures
    (item_smaller c.as_slice-formula-items.result.now c.loop-formula.formula-index c.formula-item.result c.loop-formula-test.true c.formula-item.is) in
    (omega arith, within)

pub argument_at-value_of-requires : goal.argument_at-value_of-requires
argument_at-value_of-requires g t c κs within =
    let s : tree_size c.in-Some.formula.now < trees_size (from_list c.args.arguments.now) =
    item_smaller c.args.arguments.now c.args.place c.in-Some.formula.now c.in-Some.ensures.0 c.in-Some.ensures.1 in
    (omega arith, within)

pub argument_at-returns-in-Some : goal.argument_at-returns-in-Some
argument_at-returns-in-Some g t c =
    rw (argument-there (g.R.CellSource.told c.args.reader.now) c.args.at.now c.args.arguments.now c.args.place c.in-Some.formula.now c.in-Some.ensures.0 c.in-Some.ensures.1) c.value_of.ensures

pub argument_at-returns-in-None : goal.argument_at-returns-in-None
argument_at-returns-in-None g t c =
    search (rules, argument-absent (g.R.CellSource.told c.args.reader.now) c.args.at.now c.args.arguments.now c.args.place c.in-None.ensures)

pub call-returns-then-not-takes : goal.call-returns-then-not-takes
call-returns-then-not-takes g t c = search (rules, count_of_from_list)

pub call-returns : goal.call-returns
call-returns g t c = search (rules, count_of_from_list)

pub items_of-loop-formula-preserved : goal.items_of-loop-formula-preserved
items_of-loop-formula-preserved g t c =
    let rd : Reader = g.R.CellSource.told c.args.reader.now in
    let ts : List Tree = c.as_slice-formula-items.result.now in
    let d = each_drop rd c.args.at.now ts c.loop-formula.formula-index c.formula-item.result c.loop-formula-test.true c.formula-item.is in
    let s = collect_step (as_item (ev rd c.args.at.now c.formula-item.result)) (map as_item (ev_each rd c.args.at.now (from_list (drop (c.loop-formula.formula-index + 1) ts)))) c.loop-formula.items.items c.in_ok-item.item (g.N.NoteKeeper.noted c.loop-formula.notes) (g.N.NoteKeeper.noted c.item.new.notes) c.in_ok-item.ensures in
    ap (λ (us : List CellItem). fronted us (after (g.N.NoteKeeper.noted c.item.new.notes) (collect (map as_item (ev_each rd c.args.at.now (from_list (drop (c.loop-formula.formula-index + 1) ts))))))) c.in_ok-push.ensures.items
    ∙ sym s ∙ ap (λ (rs : List (Run CellValue)). fronted c.loop-formula.items.items (after (g.N.NoteKeeper.noted c.loop-formula.notes) (collect (map as_item rs)))) (sym d) ∙ c.loop-formula.invariant

pub items_of-returns-in_err-item : goal.items_of-returns-in_err-item
items_of-returns-in_err-item g t c =
    let rd : Reader = g.R.CellSource.told c.args.reader.now in
    let ts : List Tree = c.as_slice-formula-items.result.now in
    let d = each_drop rd c.args.at.now ts c.loop-formula.formula-index c.formula-item.result c.loop-formula-test.true c.formula-item.is in
    let p = err_from_is_err_and c.from_residual.result c.from_residual.ensures.1 in
    rw (p.1, p.2)
    (collect_halts (λ (i : CellItem). i) (λ (v : Vec CellItem Global). v.items) c.in_err-item.field-0.0 (as_item (ev rd c.args.at.now c.formula-item.result))
    (map as_item (ev_each rd c.args.at.now (from_list (drop (c.loop-formula.formula-index + 1) ts)))) c.loop-formula.items.items (g.N.NoteKeeper.noted c.args.notes.now) (g.N.NoteKeeper.noted c.loop-formula.notes) (g.N.NoteKeeper.noted c.item.new.notes)
    (collect (map as_item (ev_each rd c.args.at.now (from_list c.args.arguments.now)))) c.in_err-item.ensures
    (ap (λ (rs : List (Run CellValue)). fronted c.loop-formula.items.items (after (g.N.NoteKeeper.noted c.loop-formula.notes) (collect (map as_item rs)))) (sym d) ∙ c.loop-formula.invariant))

pub values_of-loop-formula-preserved : goal.values_of-loop-formula-preserved
values_of-loop-formula-preserved g t c =
    let rd : Reader = g.R.CellSource.told c.args.reader.now in
    let ts : List Tree = c.as_slice-formula-items.result.now in
    let d = each_drop rd c.args.at.now ts c.loop-formula.formula-index c.formula-item.result c.loop-formula-test.true c.formula-item.is in
    let s = collect_step (ev rd c.args.at.now c.formula-item.result) (ev_each rd c.args.at.now (from_list (drop (c.loop-formula.formula-index + 1) ts))) c.loop-formula.values.items c.in_ok-value.value (g.N.NoteKeeper.noted c.loop-formula.notes) (g.N.NoteKeeper.noted c.value_of.new.notes) c.in_ok-value.ensures in
    ap (λ (us : List CellValue). fronted us (after (g.N.NoteKeeper.noted c.value_of.new.notes) (collect (ev_each rd c.args.at.now (from_list (drop (c.loop-formula.formula-index + 1) ts)))))) c.in_ok-push.ensures.items
    ∙ sym s ∙ ap (λ (rs : List (Run CellValue)). fronted c.loop-formula.values.items (after (g.N.NoteKeeper.noted c.loop-formula.notes) (collect rs))) (sym d) ∙ c.loop-formula.invariant

pub values_of-returns-in_err-value : goal.values_of-returns-in_err-value
values_of-returns-in_err-value g t c =
    let rd : Reader = g.R.CellSource.told c.args.reader.now in
    let ts : List Tree = c.as_slice-formula-items.result.now in
    let d = each_drop rd c.args.at.now ts c.loop-formula.formula-index c.formula-item.result c.loop-formula-test.true c.formula-item.is in
    let p = err_from_is_err_and c.from_residual.result c.from_residual.ensures.1 in
    rw (p.1, p.2)
    (collect_halts (λ (v : CellValue). v) (λ (v : Vec CellValue Global). v.items) c.in_err-value.field-0.0 (ev rd c.args.at.now c.formula-item.result)
    (ev_each rd c.args.at.now (from_list (drop (c.loop-formula.formula-index + 1) ts))) c.loop-formula.values.items (g.N.NoteKeeper.noted c.args.notes.now) (g.N.NoteKeeper.noted c.loop-formula.notes) (g.N.NoteKeeper.noted c.value_of.new.notes)
    (collect (ev_each rd c.args.at.now (from_list c.args.arguments.now))) c.in_err-value.ensures
    (ap (λ (rs : List (Run CellValue)). fronted c.loop-formula.values.items (after (g.N.NoteKeeper.noted c.loop-formula.notes) (collect rs))) (sym d) ∙ c.loop-formula.invariant))

pub value_of-returns-in-Attribute : goal.value_of-returns-in-Attribute
value_of-returns-in-Attribute g t c =
    subst (λ (f : Tree). Comes c.field.result (g.N.NoteKeeper.noted c.args.notes.now) (g.N.NoteKeeper.noted c.field.new.notes) (ev (g.R.CellSource.told c.args.reader.now) c.args.at.now f)) (sym (ap tree_of c.in-Attribute.is) ∙ c.node.ensures) c.field.ensures

pub key_items-key_item-requires : goal.key_items-key_item-requires
key_items-key_item-requires g t c κs within =
    let s : tree_size c.key-item.result.value + 1 < keys_size (keys_from c.args.keys.now) =
    subst (λ (l : List (List ℕ × Tree)). tree_size c.key-item.result.value + 1 < keys_size (keys_from l)) c.as_slice-key-items.ensures
    (key_smaller c.as_slice-key-items.result.now c.loop-key.key-index c.key-item.result c.loop-key-test.true c.key-item.is) in
    (omega arith, within)

pub key_items-returns-in_err-item : goal.key_items-returns-in_err-item
key_items-returns-in_err-item g t c =
    let rd : Reader = g.R.CellSource.told c.args.reader.now in
    let ks : List LookupKey = c.as_slice-key-items.result.now in
    let d = keys_drop rd c.args.at.now ks c.loop-key.key-index c.key-item.result c.loop-key-test.true c.key-item.is in
    let i : ℕ = c.loop-key.key-index in
    let p = err_from_is_err_and c.from_residual.result c.from_residual.ensures.1 in
    rw (p.1, p.2)
    (collect_halts (λ (k : KeyItem). k) (λ (l : List KeyItem). l) c.in_err-item.field-0.0 (item_run (form_of c.key-item.result.name c.key-item.result.value) (ev_key rd c.args.at.now c.key-item.result.value))
    (item_runs (forms_of (keys_from (keys_of (drop (i + 1) ks)))) (ev_keys rd c.args.at.now (keys_from (keys_of (drop (i + 1) ks))))) c.loop-key.items.items (g.N.NoteKeeper.noted c.args.notes.now) (g.N.NoteKeeper.noted c.loop-key.notes) (g.N.NoteKeeper.noted c.key_item.new.notes)
    (collect (item_runs (forms_of (keys_from c.args.keys.now)) (ev_keys rd c.args.at.now (keys_from c.args.keys.now)))) c.in_err-item.ensures
    (ap (λ (rs : List (Run KeyItem)). fronted c.loop-key.items.items (after (g.N.NoteKeeper.noted c.loop-key.notes) (collect rs))) (sym d) ∙ c.loop-key.invariant))

pub key_items-loop-key-preserved : goal.key_items-loop-key-preserved
key_items-loop-key-preserved g t c =
    let rd : Reader = g.R.CellSource.told c.args.reader.now in
    let ks : List LookupKey = c.as_slice-key-items.result.now in
    let i : ℕ = c.loop-key.key-index in
    let vs : List KeyItem = c.loop-key.items.items in
    let rest : List (Run KeyItem) = (item_runs (forms_of (keys_from (keys_of (drop (i + 1) ks)))) (ev_keys rd c.args.at.now (keys_from (keys_of (drop (i + 1) ks))))) in
    let d = keys_drop rd c.args.at.now ks i c.key-item.result c.loop-key-test.true c.key-item.is in
    let s = collect_step (item_run (form_of c.key-item.result.name c.key-item.result.value) (ev_key rd c.args.at.now c.key-item.result.value)) rest vs c.in_ok-item.item (g.N.NoteKeeper.noted c.loop-key.notes) (g.N.NoteKeeper.noted c.key_item.new.notes) c.in_ok-item.ensures in
    ap (λ (us : List KeyItem). fronted us (after (g.N.NoteKeeper.noted c.key_item.new.notes) (collect rest))) c.in_ok-push.ensures.items
    ∙ sym s ∙ ap (λ (rs : List (Run KeyItem)). fronted vs (after (g.N.NoteKeeper.noted c.loop-key.notes) (collect rs))) (sym d) ∙ c.loop-key.invariant

pub lookup-returns-in_err-open : goal.lookup-returns-in_err-open
lookup-returns-in_err-open g t c =
    let rd : Reader = g.R.CellSource.told c.args.reader.now in
    let ks : Keys = keys_from c.args.keys.now in
    search (rules, opening_halts rd c.args.table.now c.args.kind (forms_of ks) (ev_keys rd c.args.at.now ks) (keys_even rd c.args.at.now ks))

pub lookup-returns-in-Err : goal.lookup-returns-in-Err
lookup-returns-in-Err g t c =
    let rd : Reader = g.R.CellSource.told c.args.reader.now in
    let ks : Keys = keys_from c.args.keys.now in
    items_halt rd c.args.table.now c.args.kind (forms_of ks) (ev_keys rd c.args.at.now ks) (keys_even rd c.args.at.now ks) (g.N.NoteKeeper.noted c.args.notes.now) (g.N.NoteKeeper.noted c.open.new.notes) c.in_ok-open.ensures (λ (l : List KeyItem). l) (λ (v : CellValue). v) c.in-Err.halt (g.N.NoteKeeper.noted c.key_items.new.notes) c.in-Err.ensures

pub lookup-returns-in-Ok : goal.lookup-returns-in-Ok
lookup-returns-in-Ok g t c =
    let rd : Reader = g.R.CellSource.told c.args.reader.now in
    let ks : Keys = keys_from c.args.keys.now in
    lookup_ends rd c.args.table.now c.args.kind (forms_of ks) (ev_keys rd c.args.at.now ks) (keys_even rd c.args.at.now ks) c.found.result c.in-Ok.items
    (g.N.NoteKeeper.noted c.args.notes.now) (g.N.NoteKeeper.noted c.open.new.notes) (g.N.NoteKeeper.noted c.key_items.new.notes) (g.N.NoteKeeper.noted c.found.new.notes) c.in_ok-open.ensures c.in-Ok.ensures c.found.ensures

pub binary-returns : goal.binary-returns
binary-returns g t c =
    let rd : Reader = g.R.CellSource.told c.args.reader.now in
    combined_ends c.args.op (ev rd c.args.at.now c.args.left.now) (ev rd c.args.at.now c.args.right.now) c.in_ok-left.left c.with_right.result c.value_of-right.result (g.N.NoteKeeper.noted c.args.notes.now) (g.N.NoteKeeper.noted c.value_of.new.notes) (g.N.NoteKeeper.noted c.value_of-right.new.notes)
    c.in_ok-left.ensures (sym c.is_decided.ensures ∙ c.if-is_decided.false) c.value_of-right.ensures c.with_right.ensures

pub key_item-returns-in-Err : goal.key_item-returns-in-Err
key_item-returns-in-Err g t c =
    let rd : Reader = g.R.CellSource.told c.args.reader.now in
    seq_halts (λ (v : CellValue). v) (λ (k : KeyItem). k) c.in-Err.halt (ev_key rd c.args.at.now c.args.key.now.value)
    (λ (v : CellValue). done (gives (record { column = c.args.key.now.name; value = v; contains = (form_of c.args.key.now.name c.args.key.now.value).contains }))) (g.N.NoteKeeper.noted c.args.notes.now) (g.N.NoteKeeper.noted c.key_value.new.notes) c.in-Err.ensures

pub binary-returns-in_err-left : goal.binary-returns-in_err-left
binary-returns-in_err-left g t c =
    let rd : Reader = g.R.CellSource.told c.args.reader.now in
    let p = err_from_is_err_and c.from_residual.result c.from_residual.ensures.1 in
    rw (p.1, p.2)
    (seq_halts (λ (v : CellValue). v) (λ (v : CellValue). v) c.in_err-left.field-0.0 (ev rd c.args.at.now c.args.left.now)
    (λ (v : CellValue). cond (is_decided c.args.op v) (done (gives v)) (seq (ev rd c.args.at.now c.args.right.now) (λ (w : CellValue). done (operated c.args.op v w)))) (g.N.NoteKeeper.noted c.args.notes.now) (g.N.NoteKeeper.noted c.value_of.new.notes) c.in_err-left.ensures)

pub conditional-returns-in_err-test : goal.conditional-returns-in_err-test
conditional-returns-in_err-test g t c =
    let rd : Reader = g.R.CellSource.told c.args.reader.now in
    let p = err_from_is_err_and c.from_residual.result c.from_residual.ensures.1 in
    rw (p.1, p.2)
    (seq_halts (λ (v : CellValue). v) (λ (v : CellValue). v) c.in_err-test.field-0.0 (ev rd c.args.at.now c.args.test.now)
    (λ (v : CellValue). cond (truth_of v) (ev rd c.args.at.now c.args.value.now) (ev rd c.args.at.now c.args.other.now)) (g.N.NoteKeeper.noted c.args.notes.now) (g.N.NoteKeeper.noted c.value_of.new.notes) c.in_err-test.ensures)

pub choice-returns-in_err-test : goal.choice-returns-in_err-test
choice-returns-in_err-test g t c =
    let rd : Reader = g.R.CellSource.told c.args.reader.now in
    let p = err_from_is_err_and c.from_residual.result c.from_residual.ensures.1 in
    rw (p.1, p.2)
    (seq_halts (λ (v : CellValue). v) (λ (v : CellValue). v) c.in_err-test.field-0.0 (argument (ev_each rd c.args.at.now (from_list c.args.arguments.now)) 0)
    (λ (v : CellValue). cond (truth_of v) (argument (ev_each rd c.args.at.now (from_list c.args.arguments.now)) 1) (argument (ev_each rd c.args.at.now (from_list c.args.arguments.now)) 2)) (g.N.NoteKeeper.noted c.args.notes.now) (g.N.NoteKeeper.noted c.argument_at.new.notes) c.in_err-test.ensures)

pub field-returns-in_err-value : goal.field-returns-in_err-value
field-returns-in_err-value g t c =
    let rd : Reader = g.R.CellSource.told c.args.reader.now in
    let p = err_from_is_err_and c.from_residual.result c.from_residual.ensures.1 in
    rw (p.1, p.2)
    (seq_halts (λ (v : CellValue). v) (λ (v : CellValue). v) c.in_err-value.field-0.0 (ev rd c.args.at.now c.args.inner.now)
    (λ (v : CellValue). attribute_of rd c.args.name.now v) (g.N.NoteKeeper.noted c.args.notes.now) (g.N.NoteKeeper.noted c.value_of.new.notes) c.in_err-value.ensures)

pub prefix-returns-in_err-value : goal.prefix-returns-in_err-value
prefix-returns-in_err-value g t c =
    let rd : Reader = g.R.CellSource.told c.args.reader.now in
    let p = err_from_is_err_and c.from_residual.result c.from_residual.ensures.1 in
    rw (p.1, p.2)
    (seq_halts (λ (v : CellValue). v) (λ (v : CellValue). v) c.in_err-value.field-0.0 (ev rd c.args.at.now c.args.inner.now)
    (λ (v : CellValue). done (prefixed c.args.op v)) (g.N.NoteKeeper.noted c.args.notes.now) (g.N.NoteKeeper.noted c.value_of.new.notes) c.in_err-value.ensures)

pub run-returns-in_err-values-in_default : goal.run-returns-in_err-values-in_default
run-returns-in_err-values-in_default g t c =
    let rd : Reader = g.R.CellSource.told c.args.reader.now in
    let p = err_from_is_err_and c.from_residual.result c.from_residual.ensures.1 in
    rw (p.1, p.2)
    (run_halts c.args.function (ev_each rd c.args.at.now (from_list c.args.arguments.now)) c.in_default.not-If c.in_default.not-IfError
    (λ (v : Vec CellValue Global). v.items) (λ (v : CellValue). v) c.in_err-values-in_default.field-0.0
    (g.N.NoteKeeper.noted c.args.notes.now) (g.N.NoteKeeper.noted c.values_of.new.notes) c.in_err-values-in_default.ensures)

pub caught-returns-in_default : goal.caught-returns-in_default
caught-returns-in_default g t c =
    let rd : Reader = g.R.CellSource.told c.args.reader.now in
    search (rules, caught_halts (argument (ev_each rd c.args.at.now (from_list c.args.arguments.now)) 0) (argument (ev_each rd c.args.at.now (from_list c.args.arguments.now)) 1))

pub item-returns-in_err-value_of : goal.item-returns-in_err-value_of
item-returns-in_err-value_of g t c =
    let p = err_from_is_err_and c.from_residual.result c.from_residual.ensures.1 in
    rw (p.1, p.2)
    (seq_halts (λ (v : CellValue). v) (λ (i : CellItem). i) c.in_err-value_of.field-0.0 (ev (g.R.CellSource.told c.args.reader.now) c.args.at.now c.args.formula.now)
    (λ (v : CellValue). done (item_of v)) (g.N.NoteKeeper.noted c.args.notes.now) (g.N.NoteKeeper.noted c.value_of.new.notes) c.in_err-value_of.ensures)
