use Rattle.std.proofs.Common.{ℕ, ◌≡◌, ◌∷◌, ◌+◌, ◌≤◌, drop, get_or, insert, length, refl, sym, ap, subst, ◌∙◌, arith}
use Rattle.std.proofs.lemmas.List.{get_or_default}
use Rattle.std.specs.List.{AllByRecursion}
use Rattle.std.specs.Vec.Iter.{into_iter_items}
use Rattle.row_tables.specs.RowIndexes.{AreWithin, put_at}
use Rattle.row_tables.proofs.AddedLaws.{put_step, put_end}
use Rattle.column_store.proofs.NewLaws.{within_first, more_rows}
use Rattle.column_store.proofs.added.insert_cells.Goals as goal

pub loop-list-init : goal.loop-list-init
loop-list-init c =
    let all : into_iter_items c.into_iter-list-iterator.result ≡ c.args.lists.items = c.into_iter-list-iterator.ensures.into_iter_gives.0 in
    let counted = c.into_iter-list-iterator.ensures.into_iter_gives.1 in
    let same = ap length all in
    let kept = c.args.lists.ok.0 in
    let each = c.requires.each in
    let room = c.requires.room in
    (c.requires.within, ap (λ z. put_at c.args.indexes.now z c.args.cells.now.rows) all, omega arith, omega arith, omega arith, refl, refl, subst (AllByRecursion (λ x. length x ≡ c.args.cells.now.width)) (sym all) c.requires.wide)

pub bounds-indexes-placed : goal.bounds-indexes-placed
bounds-indexes-placed c =
    let fewer = ap length c.in-Some.ensures.steps.0 in
    let left = c.loop-list.invariant.2 in
    omega arith

pub insert_row-requires : goal.insert_row-requires
insert_row-requires c =
    let i : ℕ = c.loop-list.placed in
    let index : ℕ = get_or c.args.indexes.now i 0 in
    let steps = c.in-Some.ensures.steps.0 in
    let fewer = ap length steps in
    let left = c.loop-list.invariant.2 in
    let room = c.loop-list.invariant.4 in
    let sum = c.loop-list.invariant.5 in
    let few = c.requires.few in
    let wide : AllByRecursion (λ x. length x ≡ c.args.cells.now.width) (c.in-Some.list ∷ into_iter_items c.next.new.self) = subst (AllByRecursion (λ x. length x ≡ c.args.cells.now.width)) steps c.loop-list.invariant.7 in
    record {
      each = ap length c.into_vec.ensures ∙ wide.0 ∙ sym c.loop-list.invariant.6;
      room = omega arith;
      few = omega arith;
    }

pub loop-list-preserved : goal.loop-list-preserved
loop-list-preserved c =
    let i : ℕ = c.loop-list.placed in
    let index : ℕ = get_or c.args.indexes.now i 0 in
    let steps : into_iter_items c.loop-list.list-iterator ≡ c.in-Some.list ∷ into_iter_items c.next.new.self = c.in-Some.ensures.steps.0 in
    let gone = c.in-Some.ensures.steps.1 in
    let fewer = ap length steps in
    let left = c.loop-list.invariant.2 in
    let counted = c.loop-list.invariant.3 in
    let room = c.loop-list.invariant.4 in
    let sum = c.loop-list.invariant.5 in
    let less = c.insert_row.ensures.room in
    let put : c.insert_row.new.self.rows ≡ insert c.loop-list.cells.rows index c.in-Some.list = c.insert_row.ensures.rows ∙ ap (insert c.loop-list.cells.rows index) c.into_vec.ensures in
    let here : index ≡ get_or c.args.indexes.now i index = get_or_default c.args.indexes.now i 0 index (omega arith) in
    let within : index ≤ length c.loop-list.cells.rows = within_first c.args.indexes.now (length c.loop-list.cells.rows) i index c.loop-list.invariant.0 (omega arith) here in
    let more : length c.insert_row.new.self.rows ≡ length c.loop-list.cells.rows + 1 = more_rows c.loop-list.cells.rows c.insert_row.new.self.rows index c.in-Some.list within put in
    let wide : AllByRecursion (λ x. length x ≡ c.args.cells.now.width) (c.in-Some.list ∷ into_iter_items c.next.new.self) = subst (AllByRecursion (λ x. length x ≡ c.args.cells.now.width)) steps c.loop-list.invariant.7 in
    let h : AreWithin (drop (i + 1) c.args.indexes.now) (length c.insert_row.new.self.rows)
    × (put_at (drop (i + 1) c.args.indexes.now) (into_iter_items c.next.new.self) c.insert_row.new.self.rows ≡ put_at c.args.indexes.now c.args.lists.items c.args.cells.now.rows)
    = put_step c.args.indexes.now c.args.lists.items (into_iter_items c.loop-list.list-iterator) (into_iter_items c.next.new.self) c.args.cells.now.rows c.loop-list.cells.rows c.insert_row.new.self.rows c.in-Some.list i index
    (omega arith) here steps put c.loop-list.invariant.0 c.loop-list.invariant.1 in
    (h.0, h.1, omega arith, omega arith, omega arith, omega arith, c.insert_row.ensures.width ∙ c.loop-list.invariant.6, wide.1)

pub returns-clause-rows : goal.returns-clause-rows
returns-clause-rows c =
    let none = c.in-None.ensures.steps in
    let counted = c.loop-list.invariant.3 in
    sym (put_end (drop c.loop-list.placed c.args.indexes.now) (into_iter_items c.loop-list.list-iterator) c.loop-list.cells.rows (sym counted ∙ none.0)) ∙ c.loop-list.invariant.1
