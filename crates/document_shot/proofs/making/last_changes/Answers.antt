use Rattle.std.proofs.Common.{◌≡◌, false, List, ◌∷◌, [], ◌++◌, Option, None, sym, ap, subst, ◌∙◌}
use Rattle.std.specs.Option.{option_copied}
use Rattle.doc_model.specs.Document.{Document}
use Rattle.doc_model.specs.declared.entry.Entry.{Entry}
use Rattle.bundle_core.specs.KeptCore.{state_now}
use Rattle.bundle_core.specs.LastChange.{IsLast}
use Rattle.bundle_core.specs.declared.last_change.LastChange.{LastChange}
use Rattle.document_shot.specs.Pasts.{past_before, state_at}
use Rattle.document_shot.specs.Shots.{LeadTo}
use Rattle.document_shot.proofs.making.last_changes.Goals as goal

pub returns-in-None-clause-leads : goal.returns-in-None-clause-leads
returns-in-None-clause-leads g c =
    λ before e is. let core = c.args.core.now.state in
    let t : Document = (state_now core).document in
    let s : Document = (state_at (past_before core before)).document in
    let L : Option LastChange → Type 0 = λ o. IsLast core.users core.start core.history t o in
    let last : L None = subst L (ap option_copied c.in-None.is) c.last_change.ensures in
    let P : Document → Type 0 = λ d. LeadTo s d c.no_changes.result in
    subst P (sym (last before e is).1) (c.no_changes.ensures.leads s)
