use Rattle.audited_verdicts.proofs.ClosedAnswer.{closed_answer}
use Rattle.audited_verdicts.proofs.laws.closed_law.Goals as goal

pub returns : goal.returns
returns c = closed_answer
