use Rattle.std.proofs.Common.{List, true, false, cond, ◌∷◌, ◌≡◌, ◌+◌, filter, map, refl, arith}
use Rattle.doc_model.specs.declared.column.ColDef.{ColDef}
use Rattle.doc_model.specs.Column.{column_id}
use Rattle.doc_readers.specs.Parts.{grid_at}
use Rattle.doc_readers.proofs.ColumnLemmas.{column_read, column_past}
use Rattle.recalc.specs.MayLose.{may_lose_at}
use Rattle.recalc.proofs.LosingCells.{kept_next, kept_end}
use Rattle.recalc.proofs.watched.columns_to_lose.Goals as goal

step : (p : ColDef → _) (d : ColDef) (ds : List ColDef) → map column_id (filter p (d ∷ ds)) ≡ cond (p d) (d.id ∷ map column_id (filter p ds)) (map column_id (filter p ds))
step p d ds = elim (p d) as (λ b. map column_id (cond b (d ∷ filter p ds) (filter p ds)) ≡ cond b (d.id ∷ map column_id (filter p ds)) (map column_id (filter p ds))) [ true ↦ refl | false ↦ refl ]

pub loop-column-preserved : goal.loop-column-preserved
loop-column-preserved g c =
    let s = g.R.DocReader.document c.args.doc.now in
    let a = c.args.action.now in
    let id = c.args.table.now in
    kept_next (λ (l : List ColDef). map column_id (filter (may_lose_at a) l)) (may_lose_at a) column_id (step (may_lose_at a)) (grid_at s id).columns c.loop-column.ids.items c.loop-column.index c.loop-column.invariant
    c.push_if.new.names.items (c.loop-column.index + 1) c.in-Some.column.now c.may_lose_at.result c.in-Some.column.now.id (omega arith) (column_read s id c.loop-column.index c.in-Some.column.now c.in-Some.ensures.told)
    c.may_lose_at.ensures refl c.in_ok-push_if.ensures

pub returns : goal.returns
returns g c =
    let s = g.R.DocReader.document c.args.doc.now in
    let a = c.args.action.now in
    let id = c.args.table.now in
    kept_end (λ (l : List ColDef). map column_id (filter (may_lose_at a) l)) (may_lose_at a) column_id (step (may_lose_at a)) (grid_at s id).columns c.loop-column.ids.items c.loop-column.index c.loop-column.invariant
    refl (column_past s id c.loop-column.index c.in_default.ensures.told)
