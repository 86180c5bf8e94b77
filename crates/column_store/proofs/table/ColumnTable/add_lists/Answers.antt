use Rattle.std.proofs.Common.{ℕ, ◌≡◌, List, length, sym, ap, subst, ◌∙◌}
use Rattle.std.specs.List.{AllByRecursion}
use Rattle.doc_model.specs.Document.{Table}
use Rattle.row_tables.specs.RowIndexes.{AreNew, AreWithin, new_indexes, put_at}
use Rattle.row_tables.proofs.AddedLaws.{new_within, length-new_indexes, noted_from}
use Rattle.column_store.specs.contracts.table.ColumnTable.{the_view}
use Rattle.column_store.proofs.NewLaws.{listed_back}
use Rattle.column_store.proofs.table.ColumnTable.add_lists.Goals as goal

-- the rows and their cells are as many
high : (t u : Table) → t ≡ u → length u.grid.cells ≡ length u.grid.rows → length t.grid.cells ≡ length t.grid.rows
high t u e h = subst (λ (v : Table). length v.grid.cells ≡ length v.grid.rows) (sym e) h

pub insert_cells-requires-clause-within : goal.insert_cells-requires-clause-within
insert_cells-requires-clause-within c =
    let noted : c.insert_rows.new.indexes.items ≡ new_indexes c.args.new.now c.self.inside.rows.items
    = noted_from c.args.new.now c.self.inside.rows.items c.reserve.new.self.items c.in_ok-indexes.indexes.items c.insert_rows.new.indexes.items c.insert_rows.ensures.indexes c.in_ok-indexes.ensures.items c.in_ok-reserve.ensures.items in
    subst (λ n. AreWithin c.deref.result.now n) (sym (ap length c.in_ok-reserve-2.ensures.rows ∙ high (the_view c.self.inside) c.args.self.now c.self.view_is c.requires.height))
    (subst (λ ps. AreWithin ps (length c.self.inside.rows.items)) (sym (c.deref.ensures.value ∙ noted)) (new_within c.args.new.now c.self.inside.rows.items))

pub insert_cells-requires-clause-each : goal.insert_cells-requires-clause-each
insert_cells-requires-clause-each c =
    let noted : c.insert_rows.new.indexes.items ≡ new_indexes c.args.new.now c.self.inside.rows.items
    = noted_from c.args.new.now c.self.inside.rows.items c.reserve.new.self.items c.in_ok-indexes.indexes.items c.insert_rows.new.indexes.items c.insert_rows.ensures.indexes c.in_ok-indexes.ensures.items c.in_ok-reserve.ensures.items in
    c.requires.each ∙ sym (ap length (c.deref.ensures.value ∙ noted) ∙ length-new_indexes c.args.new.now c.self.inside.rows.items)

pub insert_cells-requires-clause-wide : goal.insert_cells-requires-clause-wide
insert_cells-requires-clause-wide c =
    subst (λ n. AllByRecursion (λ l. length l ≡ n) c.args.lists.items)
    (sym (c.in_ok-reserve-2.ensures.width ∙ c.self.invariant.0 ∙ ap (λ (t : Table). length t.grid.columns) c.self.view_is)) c.requires.full

pub returns-clause-back : goal.returns-clause-back
returns-clause-back c =
    let t : Table = the_view c.self.inside in
    let new : List ℕ = c.args.new.now in
    let noted : c.insert_rows.new.indexes.items ≡ new_indexes new t.grid.rows
    = noted_from new t.grid.rows c.reserve.new.self.items c.in_ok-indexes.indexes.items c.insert_rows.new.indexes.items c.insert_rows.ensures.indexes c.in_ok-indexes.ensures.items c.in_ok-reserve.ensures.items in
    let put : c.insert_rows.new.rows.items ≡ put_at (new_indexes new t.grid.rows) new t.grid.rows
    = c.insert_rows.ensures.rows ∙ ap (λ rs. put_at (new_indexes new rs) new rs) c.in_ok-reserve.ensures.items in
    let beside : c.insert_cells.new.cells.rows ≡ put_at c.insert_rows.new.indexes.items c.args.lists.items t.grid.cells
    = c.insert_cells.ensures.rows ∙ ap (λ ps. put_at ps c.args.lists.items c.reserve-2.new.self.rows) c.deref.ensures.value
    ∙ ap (put_at c.insert_rows.new.indexes.items c.args.lists.items) c.in_ok-reserve-2.ensures.rows in
    listed_back t new c.args.lists.items c.insert_rows.new.indexes.items c.insert_rows.new.rows.items c.insert_cells.new.cells.rows
    (high t c.args.self.now c.self.view_is c.requires.height) c.requires.each noted put beside ∙ c.self.view_is
