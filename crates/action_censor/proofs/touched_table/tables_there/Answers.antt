use Rattle.std.proofs.Common.{◌≡◌, List, map, length, subst, sym, ap, arith}
use Rattle.std.specs.List.{AllByRecursion}
use Rattle.doc_model.specs.ByIds.{has_id}
use Rattle.doc_model.specs.Document.{table_id}
use Rattle.action_censor.specs.declared.touched_table.TouchedTable.{TouchedTable}
use Rattle.action_censor.specs.Step.{step_of}
use Rattle.action_censor.specs.TouchedTables.{IsTouchedTable, touched_id}
use Rattle.action_censor.proofs.TableLemmas.{about_at, all_touched, ids_next}
use Rattle.action_censor.proofs.touched_table.tables_there.Goals as goal

pub loop-id-init : goal.loop-id-init
loop-id-init g c =
    let P : List TouchedTable → Type 0 = λ l. AllByRecursion (IsTouchedTable (map step_of c.args.steps.now) (g.D.DocReader.document c.args.tables.now)) l in
    (ap (map touched_id) c.new-touched.ensures.items, subst P (sym c.new-touched.ensures.items) tt)

pub add_touched-requires-clause-about : goal.add_touched-requires-clause-about
add_touched-requires-clause-about g c =
    about_at (map step_of c.args.steps.now) (g.D.DocReader.document c.args.tables.now) c.requires.records c.args.names.now c.requires.named
    c.loop-id.id-index c.id-item.result c.loop-id-test.true c.id-item.is

pub loop-id-preserved : goal.loop-id-preserved
loop-id-preserved g c = (
  ids_next (has_id table_id (g.D.DocReader.document c.args.tables.now)) c.args.names.now c.loop-id.id-index c.id-item.result
      (map touched_id c.loop-id.touched.items) (map touched_id c.add_touched.new.touched.items) c.loop-id-test.true c.id-item.is c.loop-id.invariant.0 c.in_ok-add_touched.ensures.ids,
  c.in_ok-add_touched.ensures.each c.loop-id.invariant.1,
)

pub returns : goal.returns
returns g c =
    let all : c.loop-id.id-index ≡ length c.args.names.now = omega (arith, c.loop-id-test.false, c.loop-id.auto.id-index-end) in
    all_touched (map step_of c.args.steps.now) (g.D.DocReader.document c.args.tables.now) c.requires.records c.args.names.now c.requires.named
    c.loop-id.touched.items c.loop-id.id-index all c.loop-id.invariant.0 c.loop-id.invariant.1
