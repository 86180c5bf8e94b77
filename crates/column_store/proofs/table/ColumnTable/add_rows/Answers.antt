use Rattle.std.proofs.Common.{ℕ, ◌≡◌, List, length, map, unwrap_or, sym, ap, ◌∙◌}
use Rattle.doc_model.specs.declared.column.ColDef.{ColDef}
use Rattle.doc_model.specs.Column.{start_of}
use Rattle.doc_model.specs.Document.{Table}
use Rattle.doc_model.specs.Grid.{Grid}
use Rattle.doc_model.specs.Records.{given}
use Rattle.row_tables.proofs.AddedLaws.{added}
use Rattle.column_store.proofs.NewLaws.{lists_wide}
use Rattle.column_store.proofs.table.ColumnTable.add_rows.Goals as goal

pub add_lists-requires-clause-full : goal.add_lists-requires-clause-full
add_lists-requires-clause-full c =
    lists_wide c.args.new.now c.deref.result.now (λ (d : ColDef) r. unwrap_or (given c.args.new.now c.args.values.now d.id r) (start_of d)) c.in_ok-lists.lists.items (length c.args.self.now.grid.columns) c.in_ok-lists.ensures
    (sym (ap length (c.deref.ensures.value ∙ ap (λ (t : Table). t.grid.columns) c.self.view_is)))

pub returns-clause-ok : goal.returns-clause-ok
returns-clause-ok c =
    let t : Table = c.args.self.now in
    let new : List ℕ = c.args.new.now in
    let columns : c.deref.result.now ≡ t.grid.columns = c.deref.ensures.value ∙ ap (λ (t : Table). t.grid.columns) c.self.view_is in
    let made : c.in_ok-lists.lists.items ≡ map (λ r. map (λ (d : ColDef). unwrap_or (given new c.args.values.now d.id r) (start_of d)) t.grid.columns) new
    = c.in_ok-lists.ensures ∙ ap (λ cs. map (λ r. map (λ (d : ColDef). unwrap_or (given new c.args.values.now d.id r) (start_of d)) cs) new) columns in
    c.in_ok-add_lists.ensures.ok
    ∙ ap (λ (g : Grid ColDef). let u : Table = record { id = t.id; row = t.row; grid = g } in u) (added t.grid new c.args.values.now c.in_ok-lists.lists.items c.requires.grid c.requires.new made)
