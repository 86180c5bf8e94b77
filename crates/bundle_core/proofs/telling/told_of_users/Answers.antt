use Rattle.std.proofs.Common.{◌≡◌, List, map, ap, subst, sym, IfOk, ◌∙◌}
use Rattle.doc_model.specs.Document.{Document}
use Rattle.doc_model.specs.Changes.{changes}
use Rattle.acl_formula.specs.declared.user_info.UserInfo.{UserInfo}
use Rattle.rule_contexts.specs.Context.{view}
use Rattle.user_actions.specs.StepLaws.{action_of}
use Rattle.evaluated_doc.specs.WayBack.{Changed}
use Rattle.context_changes.specs.Renewal.{AreAllSame}
use Rattle.context_changes.proofs.RenewalLemmas.{renewed_now, told_agreeing}
use Rattle.bundle_judge.specs.JudgedBundles.{after_steps}
use Rattle.bundle_judge.specs.Rollback.{gone_back}
use Rattle.bundle_core.specs.Followed.{AreRowsTold, IsToldOf}
use Rattle.bundle_core.proofs.telling.told_of_users.Goals as goal

pub returns-then-agrees_with-clause-told : goal.returns-then-agrees_with-clause-told
returns-then-agrees_with-clause-told g c =
    let t = g.D.DocReader.document c.args.doc.now in
    let s = gone_back g.D.DocTables.fits g.D.DocTables.undone c.args.traces.now.items t in
    let k = c.args.known.now in
    let us = c.args.rows.users.items in
    let P : List UserInfo → Type 0 = λ vs. AreAllSame k.fields k.contexts.items vs in
    let same : AreAllSame k.fields k.contexts.items us = subst P c.as_slice.ensures.value (c.agrees_with.ensures.0 c.if-agrees_with.true) in
    λ user among.
    told_agreeing s t c.requires.rows.rules c.agreement_law.ensures.reading k us c.args.rows.told.items user c.requires.known c.requires.rows.users same among c.requires.rows.told
    ∙ ap (λ d. changes (view user s) (view user d)) c.requires.done

pub returns-then-agrees_with-clause-next : goal.returns-then-agrees_with-clause-next
returns-then-agrees_with-clause-next g c =
    let t = g.D.DocReader.document c.args.doc.now in
    let s = gone_back g.D.DocTables.fits g.D.DocTables.undone c.args.traces.now.items t in
    renewed_now s t c.requires.rows.rules c.args.known.now c.args.rows.users.items c.requires.known c.requires.rows.users

pub differing_seen-requires-clause-rows : goal.differing_seen-requires-clause-rows
differing_seen-requires-clause-rows g c =
    let t = g.D.DocReader.document c.args.doc.now in
    let s = gone_back g.D.DocTables.fits g.D.DocTables.undone c.args.traces.now.items t in
    let k = c.args.known.now in
    let r = c.args.rows in
    let same : g.D.DocReader.document c.go_back_all.new.doc ≡ s = c.go_back_all.ensures ∙ ap (λ (v : List (Changed g.row.D-Back.Denot)). gone_back g.D.DocTables.fits g.D.DocTables.undone v t) (ap (λ v. v.items) c.replace.ensures.value) in
    let P : Document → Type 0 = λ d. AreRowsTold s d k.contexts.items r.told.items r.users.items in
    let Q : Document → Type 0 = λ d. AreRowsTold d (after_steps d c.args.steps.now) k.contexts.items r.told.items r.users.items in
    subst Q (sym same) (subst P c.requires.done c.requires.rows)

pub returns-clause-told : goal.returns-clause-told
returns-clause-told g c =
    let t = g.D.DocReader.document c.args.doc.now in
    let s = gone_back g.D.DocTables.fits g.D.DocTables.undone c.args.traces.now.items t in
    let P : Document → Type 0 = λ u. IfOk c.differing_seen.result (λ d. IsToldOf u (map action_of c.args.steps.now) c.args.known.now.contexts.items d.told.items) in
    let same : g.D.DocReader.document c.go_back_all.new.doc ≡ s = c.go_back_all.ensures ∙ ap (λ (v : List (Changed g.row.D-Back.Denot)). gone_back g.D.DocTables.fits g.D.DocTables.undone v t) (ap (λ v. v.items) c.replace.ensures.value) in
    subst P same c.differing_seen.ensures.told
