-- What stays of a core while lines are answered.
use Rattle.std.specs.Prelude.{◌≡◌}
use Rattle.bundle_core.specs.KeptCore.{KeptCore}

-- the users, the document at the start, and what was told of the keeper then
pub record StaysStarted (old new : KeptCore) : Type 0 where
  pub users : new.state.users ≡ old.state.users
  pub start : new.state.start ≡ old.state.start
  pub opening : new.kept.opening ≡ old.kept.opening
  pub before : new.kept.before ≡ old.kept.before
