use Rattle.std.proofs.Common.{ap, ◌∙◌, insert, subst, sym, arith}
use Rattle.doc_model.specs.Indexes.{row_search}
use Rattle.doc_model.specs.Rows.{IsAscending}
use Rattle.doc_model.proofs.RowsLaws.{IsAscending-insert_row}
use Rattle.doc_model.proofs.RowIndexLaws.{search_ok, search_gap, index_within, insert_index, insert_there}
use Rattle.lookup_index.proofs.rows.put_row.Goals as goal

pub insert-requires : goal.insert-requires
insert-requires c =
    let at = search_gap c.args.row c.in-Err.index c.args.rows.now.items (c.in-Err.ensures ∙ ap (row_search c.args.row) c.deref.ensures.value) in
    let is = at.1 in
    let within = index_within c.args.row c.args.rows.now.items in
    omega arith

pub returns-in_ok-insert-clause-ok : goal.returns-in_ok-insert-clause-ok
returns-in_ok-insert-clause-ok c =
    let at = search_gap c.args.row c.in-Err.index c.args.rows.now.items (c.in-Err.ensures ∙ ap (row_search c.args.row) c.deref.ensures.value) in
    c.in_ok-insert.ensures.items ∙ ap (λ i. insert c.args.rows.now.items i c.args.row) at.1 ∙ insert_index c.args.row c.args.rows.now.items at.0

pub returns-in_default-clause-ok : goal.returns-in_default-clause-ok
returns-in_default-clause-ok c = insert_there c.args.row c.args.rows.now.items c.requires (search_ok c.args.row c.in_default.field-0 c.args.rows.now.items (c.in_default.ensures ∙ ap (row_search c.args.row) c.deref.ensures.value)).0

pub returns-in_ok-insert-clause-ascending : goal.returns-in_ok-insert-clause-ascending
returns-in_ok-insert-clause-ascending c = subst IsAscending (sym (returns-in_ok-insert-clause-ok c)) (IsAscending-insert_row c.args.row c.args.rows.now.items c.requires)
