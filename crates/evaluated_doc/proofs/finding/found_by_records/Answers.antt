use Rattle.std.proofs.Common.{◌≡◌, ◌∙◌, ap, subst, Global, IfSome, Vec}
use Rattle.std.proofs.lemmas.Result.{IfOk-weaker}
use Rattle.doc_model.specs.Document.{Document}
use Rattle.dep_graph.specs.declared.numbers.ReadNumber.{ReadNumber}
use Rattle.recalc.specs.Evaluated.{sheet_of}
use Rattle.affected_search.specs.Actions.{KeepsOthers}
use Rattle.affected_search.specs.ByAction.{FindsAffected}
use Rattle.affected_search.specs.ExactNotes.{HasNotes}
use Rattle.affected_search.specs.Listed.{FindsListed, KeepsListed, record_reads}
use Rattle.affected_search.specs.Noted.{HoldsNotes}
use Rattle.evaluated_doc.proofs.finding.found_by_records.Goals as goal

pub returns-clause-others : goal.returns-clause-others
returns-clause-others g c =
    let s = g.D.DocReader.document c.args.tables.now in
    let next = g.D.DocReader.document c.put.new.self in
    let a = c.args.action.now in
    let graph = c.args.graph.now in
    let before : c.in-Some.before.items ≡ record_reads graph.names s a = subst (λ o. IfSome o (λ (v : Vec ReadNumber Global). v.items ≡ record_reads graph.names s a)) c.in-Some.is c.in_ok-before.ensures.reads in
    let after : c.in-Some-2.after.items ≡ record_reads graph.names next a = subst (λ o. IfSome o (λ (v : Vec ReadNumber Global). v.items ≡ record_reads graph.names next a)) c.in-Some-2.is c.in_ok-after.ensures.reads in
    IfOk-weaker c.affected_by_records.result (KeepsListed graph c.in-Some.before.items c.as_slice.result.now) (λ cells. HoldsNotes graph (sheet_of s) → KeepsOthers s graph a cells)
    (λ cells keeps held. keeps s a c.requires.record before (c.as_slice.ensures.value ∙ after ∙ ap (λ (d : Document). record_reads graph.names d a) c.in_ok-undo.ensures.done) held)
    c.affected_by_records.ensures.others

pub returns-clause-only : goal.returns-clause-only
returns-clause-only g c =
    let s = g.D.DocReader.document c.args.tables.now in
    let next = g.D.DocReader.document c.put.new.self in
    let a = c.args.action.now in
    let graph = c.args.graph.now in
    let before : c.in-Some.before.items ≡ record_reads graph.names s a = subst (λ o. IfSome o (λ (v : Vec ReadNumber Global). v.items ≡ record_reads graph.names s a)) c.in-Some.is c.in_ok-before.ensures.reads in
    let after : c.in-Some-2.after.items ≡ record_reads graph.names next a = subst (λ o. IfSome o (λ (v : Vec ReadNumber Global). v.items ≡ record_reads graph.names next a)) c.in-Some-2.is c.in_ok-after.ensures.reads in
    IfOk-weaker c.affected_by_records.result (FindsListed graph c.in-Some.before.items c.as_slice.result.now) (λ cells. HasNotes graph (sheet_of s) → FindsAffected s graph a cells)
    (λ cells finds has ok. finds s a c.requires.record before (c.as_slice.ensures.value ∙ after ∙ ap (λ (d : Document). record_reads graph.names d a) c.in_ok-undo.ensures.done) ok (c.exact_notes_law.ensures.exact graph (sheet_of s) has).1)
    c.affected_by_records.ensures.only
