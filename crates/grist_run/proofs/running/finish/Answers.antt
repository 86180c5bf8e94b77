use Rattle.grist_run.proofs.EndLaws.{run_flushed, run_cut}
use Rattle.grist_run.proofs.running.finish.Goals as goal

pub returns-in-Ok-clause-ends : goal.returns-in-Ok-clause-ends
returns-in-Ok-clause-ends g c users start left left_new written history ends = run_flushed _ _ _ _ _ _ _ _ _ c.args.status c.in-Ok.ensures.ok ends

pub returns-in-Err-clause-ends : goal.returns-in-Err-clause-ends
returns-in-Err-clause-ends g c users start left left_new written history ends = run_cut _ _ _ _ _ _ _ _ _ c.in-Err.ensures.err c.args.status ends
