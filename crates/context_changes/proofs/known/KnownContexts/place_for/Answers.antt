use Rattle.std.proofs.Common.{◌≡◌, List, true, subst, sym}
use Rattle.acl_rules.specs.declared.decision.Ctx.{Ctx}
use Rattle.context_changes.specs.Known.{IsPlaceOf, is_known}
use Rattle.context_changes.proofs.KnownLemmas.{known_at, known_last}
use Rattle.context_changes.proofs.known.KnownContexts.place_for.Goals as goal

pub returns-in-Some-clause-there : goal.returns-in-Some-clause-there
returns-in-Some-clause-there g c =
    let P : List Ctx → Type 0 = λ xs. IsPlaceOf xs c.args.user.now c.in-Some.place in
    known_at c.args.self.now.contexts.items c.args.user.now c.in-Some.place (subst P c.as_slice.ensures.value c.in-Some.ensures.there)

pub returns-clause-there : goal.returns-clause-there
returns-clause-there g c =
    let P : List Ctx → Type 0 = λ xs. is_known xs c.args.user.now ≡ true in
    subst P (sym c.in_ok-push.ensures.items)
    (known_last (g.D.DocReader.document c.args.doc.now) c.args.self.now.contexts.items c.args.user.now c.in_ok-ctx.ctx c.in_ok-ctx.ensures.ok)
