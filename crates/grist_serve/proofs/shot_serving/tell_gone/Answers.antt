use Rattle.grist_serve.proofs.CallLemmas.{call_gone}
use Rattle.grist_serve.proofs.ShotCalls.{call_given}
use Rattle.grist_serve.proofs.shot_serving.tell_gone.Goals as goal

pub returns-clause-gone : goal.returns-clause-gone
returns-clause-gone g c = call_gone c.args.session c.args.pass.now c.call-answer.new.pass c.in-Ok.ensures.same c.in-Ok._out.given (call_given c.args.pass.now c.call-answer.new.pass _ c.in-Ok._out c.in-Ok.ensures.ok)
