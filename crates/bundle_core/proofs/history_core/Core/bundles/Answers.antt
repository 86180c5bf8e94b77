use Rattle.std.proofs.Common.{◌≡◌, ◌-◌, arith, subst}
use Rattle.bundle_core.specs.KeptCore.{KeptCore}
use Rattle.bundle_core.specs.State.{opening, records_kept}
use Rattle.bundle_core.proofs.history_core.Core.bundles.Goals as goal

pub returns : goal.returns
returns g c =
    let kept = c.self.inside in
    let P : KeptCore → Type 0 = λ k. c.count.result - kept.opened ≡ records_kept k.state.users (opening k.state.start) k.state.history in
    subst P c.self.view_is (omega (arith, c.count.ensures, c.self.invariant.2.count))
