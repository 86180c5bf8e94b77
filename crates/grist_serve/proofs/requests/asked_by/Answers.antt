use Rattle.grist_serve.proofs.Kept.{stays_open}
use Rattle.grist_serve.proofs.requests.asked_by.Goals as goal

pub returns-in-Ok-clause-stays : goal.returns-in-Ok-clause-stays
returns-in-Ok-clause-stays c = stays_open c.in-Ok.request c.args.line.now c.in-Ok.ensures.found
