use Rattle.std.proofs.Common.{ℕ, ◌≡◌, ◌∷◌, ◌+◌, drop, get_or, length, sym, ap, ◌∙◌, arith}
use Rattle.std.proofs.lemmas.List.{get_or_default}
use Rattle.std.specs.Vec.Iter.{into_iter_items}
use Rattle.row_tables.specs.RowIndexes.{AreWithin, put_at}
use Rattle.row_tables.proofs.AddedLaws.{put_step, put_end}
use Rattle.row_tables.proofs.added.insert_cells.Goals as goal

pub loop-list-init : goal.loop-list-init
loop-list-init c =
    let all : into_iter_items c.into_iter-list-iterator.result ≡ c.args.lists.items = c.into_iter-list-iterator.ensures.into_iter_gives.0 in
    let counted = c.into_iter-list-iterator.ensures.into_iter_gives.1 in
    let same = ap length all in
    let kept = c.args.lists.ok.0 in
    let each = c.requires.each in
    let room = c.requires.room in
    (c.requires.within, ap (λ z. put_at c.args.indexes.now z c.args.cells.now.items) all, omega arith, omega arith, omega arith)

pub bounds-indexes-placed : goal.bounds-indexes-placed
bounds-indexes-placed c =
    let fewer = ap length c.in-Some.ensures.steps.0 in
    let left = c.loop-list.invariant.2 in
    omega arith

pub insert_reserved-requires : goal.insert_reserved-requires
insert_reserved-requires c =
    let fewer = ap length c.in-Some.ensures.steps.0 in
    let room = c.loop-list.invariant.4 in
    omega arith

pub loop-list-preserved : goal.loop-list-preserved
loop-list-preserved c =
    let i : ℕ = c.loop-list.placed in
    let index : ℕ = get_or c.args.indexes.now i 0 in
    let steps : into_iter_items c.loop-list.list-iterator ≡ c.in-Some.list ∷ into_iter_items c.next.new.self = c.in-Some.ensures.steps.0 in
    let gone = c.in-Some.ensures.steps.1 in
    let fewer = ap length steps in
    let left = c.loop-list.invariant.2 in
    let counted = c.loop-list.invariant.3 in
    let room = c.loop-list.invariant.4 in
    let len = c.insert_reserved.ensures.len in
    let capacity = c.insert_reserved.ensures.capacity in
    let h : AreWithin (drop (i + 1) c.args.indexes.now) (length c.insert_reserved.new.items.items)
    × (put_at (drop (i + 1) c.args.indexes.now) (into_iter_items c.next.new.self) c.insert_reserved.new.items.items ≡ put_at c.args.indexes.now c.args.lists.items c.args.cells.now.items)
    = put_step c.args.indexes.now c.args.lists.items (into_iter_items c.loop-list.list-iterator) (into_iter_items c.next.new.self) c.args.cells.now.items c.loop-list.cells.items c.insert_reserved.new.items.items c.in-Some.list i index
    (omega arith) (get_or_default c.args.indexes.now i 0 index (omega arith)) steps c.insert_reserved.ensures.items c.loop-list.invariant.0 c.loop-list.invariant.1 in
    (h.0, h.1, omega arith, omega arith, omega arith)

pub returns : goal.returns
returns c =
    let none = c.in-None.ensures.steps in
    let counted = c.loop-list.invariant.3 in
    sym (put_end (drop c.loop-list.placed c.args.indexes.now) (into_iter_items c.loop-list.list-iterator) c.loop-list.cells.items (sym counted ∙ none.0)) ∙ c.loop-list.invariant.1
