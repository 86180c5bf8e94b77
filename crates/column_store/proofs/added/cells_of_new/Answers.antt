use Rattle.std.proofs.Common.{ℕ, get_or, unwrap_or, map, sym, ap, ◌∙◌}
use Rattle.std.proofs.lemmas.List.{get_or_default}
use Rattle.doc_model.specs.declared.column.ColDef.{ColDef}
use Rattle.doc_model.specs.Column.{start_of}
use Rattle.doc_model.specs.Records.{given}
use Rattle.row_tables.specs.RowIndexes.{given_at}
use Rattle.row_tables.proofs.AddedLaws.{map_same}
use Rattle.row_tables.proofs.Latest.{given_index}
use Rattle.doc_model.proofs.Walks.{map_step}
use Rattle.column_store.proofs.added.cells_of_new.Goals as goal

pub loop-index-preserved : goal.loop-index-preserved
loop-index-preserved c =
    let i : ℕ = c.loop-index.index in
    let row : ℕ = get_or c.args.rows.now i 0 in
    map_step (λ r. map (λ (d : ColDef). unwrap_or (given c.args.rows.now c.args.values.now d.id r) (start_of d)) c.args.columns.now) c.args.rows.now i row
    c.loop-index.lists.items c.push.new.self.items c.in_ok-new_row.field-0 c.loop-index-test.true (get_or_default c.args.rows.now i 0 row c.loop-index-test.true) c.loop-index.invariant c.in_ok-push.ensures.items
    (c.in_ok-new_row.ensures ∙ map_same (λ (d : ColDef). unwrap_or (given_at c.args.values.now d.id i) (start_of d)) (λ (d : ColDef). unwrap_or (given c.args.rows.now c.args.values.now d.id row) (start_of d)) c.args.columns.now
    (λ d. ap (λ o. unwrap_or o (start_of d)) (sym (given_index c.args.rows.now c.args.values.now d.id i row c.requires c.loop-index-test.true (get_or_default c.args.rows.now i 0 row c.loop-index-test.true)))))
