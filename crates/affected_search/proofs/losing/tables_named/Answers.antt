use Rattle.std.proofs.Common.{◌+◌, ◌∙◌, filter, map, refl, arith, ap}
use Rattle.doc_model.specs.Document.{Document, Table, table_id}
use Rattle.recalc.proofs.LosingCells.{kept_next, kept_end}
use Rattle.recalc.proofs.WalkLemmas.{table_read, table_past}
use Rattle.affected_search.specs.Losing.{is_table_named}
use Rattle.affected_search.proofs.losing.tables_named.Goals as goal

pub loop-id-preserved : goal.loop-id-preserved
loop-id-preserved g c =
    let s = g.R.DocReader.document c.args.doc.now in
    let q = is_table_named c.args.named.now.graph.now.names c.args.named.now.index.now s c.args.named.now.action.now in
    let t = table_read s c.loop-id.place c.in-Some.id.now c.in-Some.ensures.told in
    kept_next (λ (l : Document). filter q (map table_id l)) (λ (t : Table). q t.id) table_id (λ t l. refl) s c.loop-id.ids.items c.loop-id.place c.loop-id.invariant
    c.push_if.new.names.items (c.loop-id.place + 1) t.0 c.in_ok-is_named.is_named c.in-Some.id.now (omega arith) t.1 (c.in_ok-is_named.ensures ∙ ap q t.2) t.2 c.in_ok-push_if.ensures

pub returns : goal.returns
returns g c =
    let s = g.R.DocReader.document c.args.doc.now in
    let q = is_table_named c.args.named.now.graph.now.names c.args.named.now.index.now s c.args.named.now.action.now in
    kept_end (λ (l : Document). filter q (map table_id l)) (λ (t : Table). q t.id) table_id (λ t l. refl) s c.loop-id.ids.items c.loop-id.place c.loop-id.invariant
    refl (table_past s c.loop-id.place c.in_default.ensures.told)
