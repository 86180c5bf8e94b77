use Rattle.std.proofs.Common.{ap, ◌∙◌, arith, subst, sym, [], ◌∷◌, not}
use Rattle.std.specs.List.{remove}
use Rattle.doc_model.specs.Rows.{has, IsAscending}
use Rattle.doc_model.specs.Indexes.{row_search}
use Rattle.doc_model.proofs.RowsLaws.{IsAscending-filter}
use Rattle.doc_model.proofs.RowIndexLaws.{search_ok, search_err}
use Rattle.lookup_index.proofs.RemovedRows.{index_found, remove_index, without_none}
use Rattle.lookup_index.proofs.rows.take_row.Goals as goal

pub remove-row-requires : goal.remove-row-requires
remove-row-requires c =
    let at = search_ok c.args.row c.in-Ok.index c.args.rows.now.items (c.in-Ok.ensures ∙ ap (row_search c.args.row) c.deref.ensures.value) in
    let is = at.1 in
    let within = (index_found c.args.row c.args.rows.now.items c.requires at.0).0 in
    omega arith

pub returns-in-Ok-clause-rows : goal.returns-in-Ok-clause-rows
returns-in-Ok-clause-rows c =
    let at = search_ok c.args.row c.in-Ok.index c.args.rows.now.items (c.in-Ok.ensures ∙ ap (row_search c.args.row) c.deref.ensures.value) in
    c.remove-row.ensures.items ∙ ap (remove c.args.rows.now.items) at.1 ∙ remove_index c.args.row c.args.rows.now.items c.requires at.0

pub returns-clause-rows : goal.returns-clause-rows
returns-clause-rows c = without_none c.args.row c.args.rows.now.items c.requires (search_err c.args.row c.in_default.field-0 c.args.rows.now.items (c.in_default.ensures ∙ ap (row_search c.args.row) c.deref.ensures.value))

pub returns-in-Ok-clause-ascending : goal.returns-in-Ok-clause-ascending
returns-in-Ok-clause-ascending c = subst IsAscending (sym (returns-in-Ok-clause-rows c)) (IsAscending-filter (λ r. not (has (c.args.row ∷ []) r)) c.args.rows.now.items c.requires)
