use Rattle.grist_run.proofs.user_lines.read_users.Goals as goal

pub returns-in-Ok-Some-clause-hears : goal.returns-in-Ok-Some-clause-hears
returns-in-Ok-Some-clause-hears g c = rw c.from-users.ensures (rw c.in-Ok-Some.field-0-is at (c.in-Ok-Some.ensures.hears _ c.loop-number.invariant.heard))
