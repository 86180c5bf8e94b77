use Rattle.std.proofs.Common.{sym, subst, rules, arith, ◌≡◌}
use Rattle.cell_types.specs.NameLength.{HasNameLength}
use Rattle.grist_lanes.specs.SessionNames.{session_name}
use Rattle.grist_lanes.proofs.NameLemmas.{name_length}
use Rattle.grist_lanes.proofs.session_names.session_name.Goals as goal

pub new-requires : goal.new-requires
new-requires c =
    let is : c.in_ok-name.name ≡ session_name c.args.lane c.args.connection = search rules in
    subst HasNameLength (sym is) (name_length c.args.lane c.args.connection (omega (arith, c.ranges.lane.fits)) c.ranges.connection.fits)
