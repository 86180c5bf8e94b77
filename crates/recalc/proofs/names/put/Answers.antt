use Rattle.recalc.specs.InOrder.{itself}
use Rattle.recalc.proofs.Insertions.{put_over}
use Rattle.recalc.proofs.names.put.Goals as goal

pub returns-in-Ok : goal.returns-in-Ok
returns-in-Ok c = put_over itself c.args.names.now.items c.deref.result.now c.in-Ok.index c.args.name c.deref.ensures.value c.in-Ok.ensures
