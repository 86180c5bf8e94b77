use Rattle.run_generator.proofs.SessionNames.{first_length}
use Rattle.run_generator.proofs.requests.first_session.Goals as goal

pub new-requires : goal.new-requires
new-requires c = rw c.in_ok-copy_of.ensures first_length
