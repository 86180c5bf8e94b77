use Rattle.std.proofs.Common.{◌≡◌, List, [], length, refl, sym, ap, subst, ◌∙◌}
use Rattle.doc_model.specs.Apply.{apply_all}
use Rattle.doc_model.specs.Document.{Document}
use Rattle.doc_model.specs.DocumentLaws.{IsWhole}
use Rattle.recalc.specs.Evaluated.{filled}
use Rattle.bundle_core.specs.Core.{CoreState}
use Rattle.bundle_core.specs.KeptCore.{state_now}
use Rattle.document_shot.specs.Shots.{Stands, applied, begun, shown_session}
use Rattle.document_shot.proofs.MakingLemmas.{anew_leads, opening_stands}
use Rattle.document_shot.proofs.making.opening_of.Goals as goal

pub returns-clause-stands : goal.returns-clause-stands
returns-clause-stands g c =
    let core : CoreState = c.args.core.now.state in
    let t : Document = (state_now core).document in
    let W : Document → Type 0 = λ d. IsWhole d in
    let whole : IsWhole t = subst W c.document.ensures.value c.document.ensures.whole in
    let lead = c.in_ok-cells.ensures.lead [] t whole (ap filled c.document.ensures.value) in
    opening_stands core c.new.result c.in_ok-cells.cells c.in_ok-sessions.sessions.items (length c.history.result.now) c.past.result c.past.ensures c.new.ensures (anew_leads t c.in_ok-cells.cells lead) c.in_ok-sessions.ensures
    (ap length c.history.ensures.entries)
