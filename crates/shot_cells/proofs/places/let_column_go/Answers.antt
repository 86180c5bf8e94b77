use Rattle.std.proofs.Common.{ap, subst, refl, IsSome}
use Rattle.shot_cells.specs.Places.{place_at}
use Rattle.shot_cells.proofs.PlaceLemmas.{same_inside}
use Rattle.shot_cells.proofs.places.let_column_go.Goals as goal

pub returns-in-Some : goal.returns-in-Some
returns-in-Some c =
    let columns_now = c.let_go.new.named in
    same_inside c.args.tables.now (c.get_mut.follows.lender columns_now) c.args.cell.now.table c.in-Some.columns.now columns_now c.in-Some.ensures.value
    ((c.get_mut.follows.holds columns_now).3 (subst IsSome c.in-Some.ensures.value refl)) c.let_go.ensures

pub returns-in_default : goal.returns-in_default
returns-in_default c = ap place_at c.get_mut.follows.holds-at-none
