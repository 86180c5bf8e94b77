use Rattle.std.proofs.Common.{List, [], ◌∷◌, ◌++◌, sym, ap, subst, ◌∙◌}
use Rattle.doc_model.specs.Document.{Document}
use Rattle.evaluated_doc.specs.WayBack.{Changed, IsWayBack}
use Rattle.bundle_judge.specs.Rollback.{AllLeadBack, gone_back, led_back}
use Rattle.bundle_judge.proofs.RollbackLemmas.{AllFit-last, rolled_back-last}
use Rattle.bundle_judge.proofs.rollback.put_one.Goals as goal

pub returns-clause-led : goal.returns-clause-led
returns-clause-led g c =
    let fits = g.D.DocTables.fits in
    let undone = g.D.DocTables.undone in
    let t = g.D.DocReader.document c.put_alone.new.doc in
    let P : List (Changed g.row.D-Back.Denot) → Type 0 = λ l. AllLeadBack fits undone l t in
    let Q : Document → Type 0 = λ s. AllLeadBack fits undone c.args.traces.now.items s in
    subst P (sym (c.push_reserved.ensures.items ∙ ap (λ l. l ++ c.in_ok-trace.trace ∷ []) c.in_ok-reserve.ensures.items))
    (AllFit-last (led_back fits undone) (IsWayBack fits undone) c.args.traces.now.items c.in_ok-trace.trace t (subst Q (sym c.in_ok-trace.ensures.back) c.requires.led) c.in_ok-trace.ensures.way)

pub returns-clause-back : goal.returns-clause-back
returns-clause-back g c =
    let fits = g.D.DocTables.fits in
    let undone = g.D.DocTables.undone in
    let t = g.D.DocReader.document c.put_alone.new.doc in
    ap (λ l. gone_back fits undone l t) (c.push_reserved.ensures.items ∙ ap (λ l. l ++ c.in_ok-trace.trace ∷ []) c.in_ok-reserve.ensures.items)
    ∙ rolled_back-last (led_back fits undone) (IsWayBack fits undone) c.args.traces.now.items c.in_ok-trace.trace t
    ∙ ap (gone_back fits undone c.args.traces.now.items) c.in_ok-trace.ensures.back
