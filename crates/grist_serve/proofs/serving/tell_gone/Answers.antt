use Rattle.grist_serve.proofs.CallLemmas.{call_gone}
use Rattle.grist_serve.proofs.serving.tell_gone.Goals as goal

pub returns-clause-gone : goal.returns-clause-gone
returns-clause-gone g c = call_gone c.args.session c.args.pass.now c.call-answer.new.pass c.in-Ok.ensures.same c.in-Ok._given c.in-Ok.ensures.ok
