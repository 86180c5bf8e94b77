use Rattle.rename_law.proofs.JudgedSteps.{judged_steps}
use Rattle.rename_law.proofs.laws.judged_law.Goals as goal

pub returns : goal.returns
returns c = judged_steps
