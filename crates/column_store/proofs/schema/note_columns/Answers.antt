use Rattle.std.proofs.Common.{ℕ, List, [], ◌∷◌, ◌++◌, ◌+◌, ◌≡◌, ◌<◌, drop, get_or, length, map, sym, ap, subst, ◌∙◌}
use Rattle.doc_model.specs.declared.column.ColDef.{ColDef}
use Rattle.doc_model.specs.Schema.{Described, describe, described_row}
use Rattle.row_tables.specs.Spots.{columns_of}
use Rattle.row_tables.proofs.Walks.{drop_read}
use Rattle.column_store.proofs.ComeLaws.{note_step}
use Rattle.column_store.proofs.schema.note_columns.Goals as goal

pub loop-column-preserved : goal.loop-column-preserved
loop-column-preserved c =
    let cols : List ColDef = c.args.columns.now in
    let parent : ℕ = c.args.parent in
    let i : ℕ = c.loop-column.column-index in
    let d : ColDef = c.column-item.result in
    let read : drop i cols ≡ d ∷ drop (i + 1) cols = drop_read cols i d c.loop-column-test.true c.column-item.is in
    let x : Described = record { parent = parent; column = d } in
    let rest : List Described = columns_of parent (drop (i + 1) cols) in (
      note_step described_row c.loop-column.rows.items x rest c.push.new.self.items (c.args.rows.now.items ++ map described_row (columns_of parent cols)) c.in_ok-push.ensures.items
          (ap (λ ds. c.loop-column.rows.items ++ map described_row (columns_of parent ds)) (sym read) ∙ c.loop-column.invariant.0),
      note_step describe c.loop-column.lists.items x rest c.push-in-loop-column.new.self.items (c.args.lists.now.items ++ map describe (columns_of parent cols))
          (c.in_ok-push-2.ensures.items ∙ ap (λ l. c.loop-column.lists.items ++ l ∷ []) c.in_ok-described_cells.ensures)
          (ap (λ ds. c.loop-column.lists.items ++ map describe (columns_of parent ds)) (sym read) ∙ c.loop-column.invariant.1),
    )
