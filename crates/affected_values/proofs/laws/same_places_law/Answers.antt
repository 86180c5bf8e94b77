use Rattle.affected_values.proofs.SamePlaces.{same_places}
use Rattle.affected_values.proofs.laws.same_places_law.Goals as goal

pub returns : goal.returns
returns c = same_places
