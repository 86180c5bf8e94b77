use Rattle.std.proofs.Common.{◌≡◌, subst}
use Rattle.bundle_core.specs.KeptCore.{KeptCore}
use Rattle.bundle_core.proofs.history_core.Core.past.Goals as goal

pub returns : goal.returns
returns g c = let P : KeptCore → Type 0 = λ k. c.of.result ≡ k.state in subst P c.self.view_is c.of.ensures
