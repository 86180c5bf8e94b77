use Rattle.std.proofs.Common.{◌+◌, ◌∙◌, filter, map, refl, arith, ap}
use Rattle.doc_model.specs.Document.{Document, Table, table_id}
use Rattle.recalc.specs.MayLose.{may_lose_in}
use Rattle.recalc.proofs.LosingCells.{kept_next, kept_end}
use Rattle.recalc.proofs.WalkLemmas.{table_read, table_past}
use Rattle.recalc.proofs.watched.tables_to_lose.Goals as goal

pub loop-id-preserved : goal.loop-id-preserved
loop-id-preserved g c =
    let s = g.R.DocReader.document c.args.doc.now in
    let a = c.args.action.now in
    let t = table_read s c.loop-id.index c.in-Some.id.now c.in-Some.ensures.told in
    kept_next (λ (l : Document). filter (may_lose_in s a) (map table_id l)) (λ (t : Table). may_lose_in s a t.id) table_id (λ t l. refl) s c.loop-id.ids.items c.loop-id.index c.loop-id.invariant
    c.push_if.new.names.items (c.loop-id.index + 1) t.0 c.may_lose_in.result c.in-Some.id.now (omega arith) t.1 (c.may_lose_in.ensures ∙ ap (may_lose_in s a) t.2) t.2 c.in_ok-push_if.ensures

pub returns : goal.returns
returns g c =
    let s = g.R.DocReader.document c.args.doc.now in
    let a = c.args.action.now in
    kept_end (λ (l : Document). filter (may_lose_in s a) (map table_id l)) (λ (t : Table). may_lose_in s a t.id) table_id (λ t l. refl) s c.loop-id.ids.items c.loop-id.index c.loop-id.invariant
    refl (table_past s c.loop-id.index c.in_default.ensures.told)
