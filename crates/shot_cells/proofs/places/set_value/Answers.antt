use Rattle.std.proofs.Common.{Some, subst, refl, IsSome}
use Rattle.shot_cells.proofs.PlaceLemmas.{no_column, no_row, no_table, placed_through}
use Rattle.shot_cells.proofs.places.set_value.Goals as goal

pub unreachable-requires : goal.unreachable-requires
unreachable-requires c = absurd (no_table c.args.tables.now c.args.cell.now c.in_default.ensures.value c.requires)

pub unreachable-requires-in_default-get_mut : goal.unreachable-requires-in_default-get_mut
unreachable-requires-in_default-get_mut c =
    absurd (no_column c.args.tables.now c.args.cell.now c.in-Some.columns.now c.in-Some.ensures.value c.in_default-get_mut.ensures.value c.requires)

pub unreachable-requires-in_default-insert : goal.unreachable-requires-in_default-insert
unreachable-requires-in_default-insert c =
    absurd (no_row c.args.tables.now c.args.cell.now c.in-Some.columns.now c.in-Some-get_mut.values.now c.in-Some.ensures.value c.in-Some-get_mut.ensures.value
    c.in_default-insert.ensures.absent c.requires)

pub returns : goal.returns
returns c =
    let columns_now = c.get_mut-2.follows.lender c.insert.new.self in
    placed_through c.args.cell.now (Some c.args.value) c.args.tables.now (c.get_mut.follows.lender columns_now) c.in-Some.columns.now columns_now c.in-Some-get_mut.values.now c.insert.new.self
    c.in-Some.ensures.value ((c.get_mut.follows.holds columns_now).3 (subst IsSome c.in-Some.ensures.value refl))
    c.in-Some-get_mut.ensures.value ((c.get_mut-2.follows.holds c.insert.new.self).3 (subst IsSome c.in-Some-get_mut.ensures.value refl))
    c.in-Ok.ensures.updates
