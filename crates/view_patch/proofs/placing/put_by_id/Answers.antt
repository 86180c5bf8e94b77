use Rattle.std.proofs.Common.{subst}
use Rattle.view_patch.specs.Placed.{GoesOver}
use Rattle.view_patch.proofs.Spots.{put_over}
use Rattle.view_patch.proofs.placing.put_by_id.Goals as goal

pub returns-in-Ok : goal.returns-in-Ok
returns-in-Ok g c =
    let seen = c.deref.result.now in
    put_over g.T.Named.id_of c.args.things.now.items seen c.in-Ok.index c.args.thing c.deref.ensures.value
    (subst (λ n. GoesOver g.T.Named.id_of n seen c.in-Ok.index) c.id.ensures c.in-Ok.ensures)
