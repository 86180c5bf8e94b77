use Rattle.std.proofs.Common.{◌∙◌, ap, refl, ℕ, Vec, Global}
use Rattle.cell_types.specs.declared.value.CellValue.{CellValue}
use Rattle.doc_readers.specs.Parts.{grid_at}
use Rattle.user_actions.proofs.UpdateLemmas.{change_taken, change_left, changes_done}
use Rattle.user_actions.proofs.cell_updates.changes.Goals as goal
use Rattle.user_actions.proofs.cell_updates.changes.Goals.{in-Some+in_ok-push+in_ok-push-2, in_default}

pub loop-row-preserved : goal.loop-row-preserved
loop-row-preserved g c = λ f h.
    let t = grid_at (g.D.DocReader.document c.args.tables.now) c.args.table.now in
    let told = c.in_ok-value.ensures f h in
    elim c.match-branch-2.branch [
      | in-Some+in_ok-push+in_ok-push-2 w ↦
          let some = rw w.in-Some.is at told in
          change_taken t c.args.column.now f c.args.rows.now c.loop-row.row-index _ c.loop-row.changed.items c.loop-row.values.items c.loop-row-test.true refl (c.loop-row.invariant f h)
          c.match-branch-2.changed.items w.in-Some.value c.match-branch-2.values.items some.0 some.1
          (ap (λ (v : Vec ℕ Global). v.items) w.changed-is ∙ w.in_ok-push-2.ensures.items)
          (ap (λ (v : Vec CellValue Global). v.items) w.values-is ∙ w.in_ok-push.ensures.items)
      | in_default w ↦
          let none = rw w.in_default.is at told in
          change_left t c.args.column.now f c.args.rows.now c.loop-row.row-index _ c.loop-row.changed.items c.loop-row.values.items c.loop-row-test.true refl (c.loop-row.invariant f h)
          c.match-branch-2.changed.items c.match-branch-2.values.items none (ap (λ (v : Vec ℕ Global). v.items) w.changed-is) (ap (λ (v : Vec CellValue Global). v.items) w.values-is)
    ]

pub returns : goal.returns
returns g c = λ f h.
    let t = grid_at (g.D.DocReader.document c.args.tables.now) c.args.table.now in
    changes_done t c.args.column.now f c.args.rows.now c.loop-row.row-index c.loop-row.changed.items c.loop-row.values.items c.from.result c.from-2.result
    c.loop-row-test.false (c.loop-row.invariant f h) c.from.ensures c.from-2.ensures
