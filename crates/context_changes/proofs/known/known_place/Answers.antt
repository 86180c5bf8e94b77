use Rattle.std.proofs.Common.{Option, ℕ, IfSome, sym, subst}
use Rattle.context_changes.specs.Known.{IsPlaceOf}
use Rattle.context_changes.proofs.KnownLemmas.{first_place}
use Rattle.context_changes.proofs.known.known_place.Goals as goal

pub returns-clause-there : goal.returns-clause-there
returns-clause-there c =
    let P : Option ℕ → Type 0 = λ o. IfSome o (IsPlaceOf c.args.contexts.now c.args.user.now) in
    subst P (sym c.place_in.ensures) (first_place c.args.contexts.now c.args.user.now)
