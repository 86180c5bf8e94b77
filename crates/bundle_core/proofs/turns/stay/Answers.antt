use Rattle.std.proofs.Common.{ℕ, List, subst, IfOk}
use Rattle.bundle_core.specs.Dispatch.{Stays}
use Rattle.bundle_core.proofs.turns.stay.Goals as goal

pub returns-clause-ok : goal.returns-clause-ok
returns-clause-ok c =
    let P : List ℕ → Type 0 = λ r. IfOk c.give.result (λ v. Stays c.args.sessions.now.items c.give.new.sessions.items c.args.index r v.items) in
    subst P c.in_ok-reply.ensures c.give.ensures.ok
