use Rattle.std.proofs.lemmas.Result.{IfOk-weaker}
use Rattle.doc_model.specs.DocumentLaws.{IsWhole}
use Rattle.recalc.specs.Evaluated.{sheet_of}
use Rattle.affected_search.specs.Actions.{KeepsOthers}
use Rattle.affected_search.specs.ByAction.{FindsAffected}
use Rattle.affected_search.specs.ExactNotes.{HasNotes}
use Rattle.affected_search.specs.Reached.{IsAffected}
use Rattle.affected_search.proofs.ActionSearch.{action_finds, action_keeps, listed_by}
use Rattle.affected_search.proofs.by_action.affected_by_action.Goals as goal

pub returns-clause-others : goal.returns-clause-others
returns-clause-others g c =
    let s = g.R.DocReader.document c.args.tables.now in
    let graph = c.args.graph.now in
    let a = c.args.action.now in
    IfOk-weaker c.affected_by.result (IsAffected graph.reads c.deref-2.result.now) (λ cells. IsWhole s → HasNotes graph (sheet_of s) → KeepsOthers s graph a cells)
    (λ cells found whole has. action_keeps s a graph c.in_ok-touches.touches.items c.deref-2.result.now cells whole has (c.in_ok-touches.ensures whole)
    (listed_by s graph c.deref.result.now c.in_ok-touches.touches.items c.in_ok-reads.reads.items c.deref-2.result.now c.deref.ensures.value (c.in_ok-reads.ensures whole) c.deref-2.ensures.value) found) c.affected_by.ensures

pub returns-clause-only : goal.returns-clause-only
returns-clause-only g c =
    let s = g.R.DocReader.document c.args.tables.now in
    let graph = c.args.graph.now in
    let a = c.args.action.now in
    IfOk-weaker c.affected_by.result (IsAffected graph.reads c.deref-2.result.now) (λ cells. IsWhole s → HasNotes graph (sheet_of s) → FindsAffected s graph a cells)
    (λ cells found whole has. action_finds s a graph c.in_ok-touches.touches.items c.deref-2.result.now cells whole has (c.in_ok-touches.ensures whole)
    (listed_by s graph c.deref.result.now c.in_ok-touches.touches.items c.in_ok-reads.reads.items c.deref-2.result.now c.deref.ensures.value (c.in_ok-reads.ensures whole) c.deref-2.ensures.value) found) c.affected_by.ensures
