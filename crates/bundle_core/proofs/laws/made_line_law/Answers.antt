use Rattle.bundle_core.proofs.MadeLaws.{made_counts}
use Rattle.bundle_core.proofs.laws.made_line_law.Goals as goal

pub returns : goal.returns
returns c = λ users st e name. made_counts users st e name
