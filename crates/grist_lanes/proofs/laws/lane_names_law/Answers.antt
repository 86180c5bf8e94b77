use Rattle.grist_lanes.proofs.NameLemmas.{names_apart}
use Rattle.grist_lanes.proofs.laws.lane_names_law.Goals as goal

pub returns : goal.returns
returns c = names_apart
