use Rattle.std.proofs.Common.{◌≡◌, List, map, ap, subst, sym, ◌∙◌}
use Rattle.doc_model.specs.Apply.{apply_all}
use Rattle.doc_model.specs.Document.{Document}
use Rattle.doc_model.specs.DocumentLaws.{IsWhole}
use Rattle.doc_model.proofs.InverseLaws.{IsWhole-apply_all}
use Rattle.user_actions.specs.StepLaws.{action_of}
use Rattle.user_attrs.specs.Attributes.{attributes_of}
use Rattle.acl_formula.specs.declared.user_info.UserInfo.{UserInfo}
use Rattle.acl_rules.specs.declared.decision.Ctx.{Ctx}
use Rattle.agreeing_contexts.specs.declared.field.UserField.{UserField}
use Rattle.recalc.specs.Evaluated.{filled}
use Rattle.context_changes.specs.Differing.{AreKeptOf, all_told_with}
use Rattle.context_changes.specs.Renewal.{AreRenewed}
use Rattle.context_changes.proofs.RenewalLemmas.{renewed_now, told_apart}
use Rattle.bundle_core.proofs.telling.differing_seen.Goals as goal

pub told_since_seen-requires-clause-whole : goal.told_since_seen-requires-clause-whole
told_since_seen-requires-clause-whole g c =
    let P : Document → Type 0 = λ s. IsWhole s in
    subst P (sym (c.in_ok-do_again.ensures.done ∙ ap (apply_all (g.D.DocReader.document c.args.doc.now)) c.actions.ensures)) (IsWhole-apply_all (g.D.DocReader.document c.args.doc.now) (map action_of c.args.steps.now) c.requires.whole c.requires.valid)

pub told_since_seen-requires-clause-attributes : goal.told_since_seen-requires-clause-attributes
told_since_seen-requires-clause-attributes g c =
    let s = g.D.DocReader.document c.args.doc.now in
    c.requires.known.attributes ∙ sym c.requires.rows.rules.attributes
    ∙ ap (λ (d : Document). attributes_of d) (sym (c.in_ok-do_again.ensures.done ∙ ap (apply_all s) c.actions.ensures))

pub returns-clause-told : goal.returns-clause-told
returns-clause-told g c =
    let s = g.D.DocReader.document c.args.doc.now in
    let t = apply_all s (map action_of c.args.steps.now) in
    let k = c.args.known.now in
    let xs = k.contexts.items in
    let us = c.args.rows.users.items in
    let vs = c.in_ok-before.before.items in
    let done : g.D.DocReader.document c.do_again.new.doc ≡ t = c.in_ok-do_again.ensures.done ∙ ap (apply_all s) c.actions.ensures in
    let F : List UserField → Type 0 = λ l. AreKeptOf (filled s) l xs us vs in
    let X : List Ctx → Type 0 = λ l. AreKeptOf (filled s) c.as_slice-fields.result.now l us vs in
    let U : List UserInfo → Type 0 = λ l. AreKeptOf (filled s) c.as_slice-fields.result.now c.as_slice.result.now l vs in
    let kept : AreKeptOf (filled s) k.fields xs us vs = subst F c.as_slice-fields.ensures (subst X c.as_slice.ensures.value (subst U c.as_slice-2.ensures.value c.in_ok-before.ensures.kept)) in
    λ user among.
    told_apart s t c.requires.rows.rules c.agreement_law.ensures.reading k us vs c.args.rows.told.items c.in_ok-told.told.items user c.requires.known c.requires.rows.users kept among c.requires.rows.told
    (c.in_ok-told.ensures ∙ ap (λ d. all_told_with d xs vs c.args.rows.told.items) done)

pub returns-clause-next : goal.returns-clause-next
returns-clause-next g c =
    let s = g.D.DocReader.document c.args.doc.now in
    let t = apply_all s (map action_of c.args.steps.now) in
    let k = c.args.known.now in
    let P : Document → Type 0 = λ d. AreRenewed d k c.args.rows.users.items in
    let done : g.D.DocReader.document c.do_again.new.doc ≡ t = c.in_ok-do_again.ensures.done ∙ ap (apply_all s) c.actions.ensures in
    subst P (sym done) (renewed_now s t c.requires.rows.rules k c.args.rows.users.items c.requires.known c.requires.rows.users)
