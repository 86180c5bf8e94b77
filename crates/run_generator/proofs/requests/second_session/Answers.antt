use Rattle.run_generator.proofs.SessionNames.{second_length}
use Rattle.run_generator.proofs.requests.second_session.Goals as goal

pub new-requires : goal.new-requires
new-requires c = rw c.in_ok-copy_of.ensures second_length
