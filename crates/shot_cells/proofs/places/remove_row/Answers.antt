use Rattle.std.proofs.Common.{None, subst, refl, IsSome}
use Rattle.shot_cells.proofs.PlaceLemmas.{no_column, no_table, placed_through}
use Rattle.shot_cells.proofs.places.remove_row.Goals as goal

pub unreachable-requires : goal.unreachable-requires
unreachable-requires c = absurd (no_table c.args.tables.now c.args.cell.now c.in_default.ensures.value c.requires)

pub unreachable-requires-in_default-get_mut : goal.unreachable-requires-in_default-get_mut
unreachable-requires-in_default-get_mut c =
    absurd (no_column c.args.tables.now c.args.cell.now c.in-Some.columns.now c.in-Some.ensures.value c.in_default-get_mut.ensures.value c.requires)

pub returns : goal.returns
returns c =
    let columns_now = c.get_mut-2.follows.lender c.remove.new.self in
    placed_through c.args.cell.now None c.args.tables.now (c.get_mut.follows.lender columns_now) c.in-Some.columns.now columns_now c.in-Some-get_mut.values.now c.remove.new.self
    c.in-Some.ensures.value ((c.get_mut.follows.holds columns_now).3 (subst IsSome c.in-Some.ensures.value refl))
    c.in-Some-get_mut.ensures.value ((c.get_mut-2.follows.holds c.remove.new.self).3 (subst IsSome c.in-Some-get_mut.ensures.value refl))
    c.remove.ensures.updates
