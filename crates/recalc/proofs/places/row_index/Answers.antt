use Rattle.std.proofs.Common.{subst}
use Rattle.recalc.proofs.RowPlaces.{IsPlace, place_found}
use Rattle.recalc.proofs.places.row_index.Goals as goal

pub returns-in-Ok : goal.returns-in-Ok
returns-in-Ok c =
    subst (IsPlace c.args.rows.now c.args.row) c.in-Ok.is (place_found c.args.rows.now c.args.row c.binary_search.result c.requires c.binary_search.ensures.position)

pub returns-in-Err : goal.returns-in-Err
returns-in-Err c =
    subst (IsPlace c.args.rows.now c.args.row) c.in-Err.is (place_found c.args.rows.now c.args.row c.binary_search.result c.requires c.binary_search.ensures.position)
