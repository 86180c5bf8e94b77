use Rattle.grist_run.proofs.Answered.{nobody_length}
use Rattle.grist_run.proofs.line_request.nobody.Goals as goal

pub new-requires : goal.new-requires
new-requires c = rw c.in_ok-copy_of.ensures nobody_length
