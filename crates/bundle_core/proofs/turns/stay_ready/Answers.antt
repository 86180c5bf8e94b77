use Rattle.std.proofs.Common.{◌<◌, refl, sym, subst}
use Rattle.bundle_core.specs.SessionState.{SessionState}
use Rattle.bundle_core.proofs.Prepared.{stays_after}
use Rattle.bundle_core.proofs.turns.stay_ready.Goals as goal

pub give-requires : goal.give-requires
give-requires c =
    let P : SessionState → Type 0 = λ x. 0 < x.room in
    subst P (sym c.index_mut-session.ensures.value) (c.requires.room c.index_mut-session.result.now)

pub returns : goal.returns
returns c =
    let x = c.index_mut-session.result.now in
    stays_after c.args.sessions.now.items c.args.index x x c.give.new.self _ _ c.requires.within c.index_mut-session.ensures.value
    (record { session = refl; holder = refl; made = refl; waiting = refl; lagging = refl }) c.give.ensures.emptied c.give.ensures.made c.give.ensures.log c.give.ensures.lines
