use Rattle.std.proofs.Common.{ℕ, get_or, ◌++◌, ap, ◌∙◌, drop, ◌+◌, ◌≡◌, arith}
use Rattle.std.proofs.lemmas.List.{get_or_default}
use Rattle.doc_model.specs.Indexes.{row_index}
use Rattle.row_tables.specs.RowIndexes.{AreNew, new_indexes, put_at}
use Rattle.row_tables.proofs.AddedLaws.{rows_step}
use Rattle.column_store.proofs.added.insert_rows.Goals as goal

pub loop-row-preserved : goal.loop-row-preserved
loop-row-preserved c =
    let i : ℕ = c.loop-row.row-index in
    let row : ℕ = get_or c.args.new.now i 0 in
    let h : AreNew (drop (i + 1) c.args.new.now) c.insert_reserved.new.items.items
    × (put_at (new_indexes (drop (i + 1) c.args.new.now) c.insert_reserved.new.items.items) (drop (i + 1) c.args.new.now) c.insert_reserved.new.items.items ≡ put_at (new_indexes c.args.new.now c.args.rows.now.items) c.args.new.now c.args.rows.now.items)
    × (c.push_reserved.new.self.items ++ new_indexes (drop (i + 1) c.args.new.now) c.insert_reserved.new.items.items ≡ c.args.indexes.now.items ++ new_indexes c.args.new.now c.args.rows.now.items)
    = rows_step c.args.new.now c.args.rows.now.items c.loop-row.rows.items c.insert_reserved.new.items.items c.args.indexes.now.items c.loop-row.indexes.items c.push_reserved.new.self.items i row c.index_for-index.result
    c.loop-row-test.true (get_or_default c.args.new.now i 0 row c.loop-row-test.true) (c.index_for-index.ensures ∙ ap (row_index row) c.deref.ensures.value)
    c.insert_reserved.ensures.items c.push_reserved.ensures.items c.loop-row.invariant.0 c.loop-row.invariant.1 c.loop-row.invariant.2 in
    let rows_room = c.loop-row.invariant.3 in
    let indexes_room = c.loop-row.invariant.4 in
    let rows_len = c.insert_reserved.ensures.len in
    let rows_cap = c.insert_reserved.ensures.capacity in
    let indexes_len = c.push_reserved.ensures.len in
    let indexes_cap = c.push_reserved.ensures.capacity in
    let within = c.loop-row-test.true in
    (h.0, h.1, h.2, omega arith, omega arith)
