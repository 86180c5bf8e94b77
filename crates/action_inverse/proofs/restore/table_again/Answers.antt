use Rattle.std.proofs.Common.{◌≡◌, List, IfOk, subst}
use Rattle.doc_model.specs.declared.action.DocAction.{DocAction}
use Rattle.action_inverse.proofs.MetadataLemmas.{removed, told_row}
use Rattle.action_inverse.proofs.TableLemmas.{empty_from, some_from, table_made, table_filled}
use Rattle.action_inverse.proofs.restore.table_again.Goals as goal

pub returns-then-is_empty : goal.returns-then-is_empty
returns-then-is_empty g c =
    let s = g.D.DocReader.document c.args.tables.now in
    let id = c.args.table.now in
    let rows = c.rows_in-rows.result.now in
    let at = removed s c.requires.whole.agrees id c.requires.valid in
    let told : c.in-Some.row ≡ at.0.row = told_row s id c.in-Some.row at.0 c.in-Some.ensures at.1.1 in
    table_made s id c.in-Some.row rows at.0 at.1.0 told c.rows_in-rows.ensures.value c.in_ok-added.added c.in_ok-table_added.field-0 c.in_ok-added.ensures c.in_ok-table_added.ensures
    (empty_from rows c.is_empty.result c.is_empty.ensures c.if-is_empty.true)

pub returns : goal.returns
returns g c =
    let s = g.D.DocReader.document c.args.tables.now in
    let id = c.args.table.now in
    let rows = c.rows_in-rows.result.now in
    let at = removed s c.requires.whole.agrees id c.requires.valid in
    let told : c.in-Some.row ≡ at.0.row = told_row s id c.in-Some.row at.0 c.in-Some.ensures at.1.1 in
    subst (λ (l : List DocAction). IfOk c.also.result (λ m. m ≡ l))
    (table_filled s id c.in-Some.row rows at.0 at.1.0 told c.rows_in-rows.ensures.value c.in_ok-added.added c.in_ok-table_added.field-0 c.in_ok-rows_added.field-0 c.in_ok-added.ensures c.in_ok-table_added.ensures
    c.in_ok-rows_added.ensures (some_from rows c.is_empty.result c.is_empty.ensures c.if-is_empty.false)) c.also.ensures
