use Rattle.std.proofs.Common.{◌+◌, ◌≤◌, length, sym, subst, rules, vec_capacity, vec_len}
use Rattle.recalc.specs.Kept.{held_at}
use Rattle.affected_values.proofs.TakenLemmas.{IsTaking, taking_next}
use Rattle.affected_values.proofs.taking.take_values.Goals as goal

pub taking-preserved : goal.taking-preserved
taking-preserved g c =
    let s = g.D.DocReader.document c.args.tables.now in
    let old = held_at s c.args.kept.now.items in
    let now = held_at s c.taking.kept.items in
    let next = held_at s c.take_value-value.new.kept.items in
    let room : length c.pop.new.self.items + vec_len c.push_reserved.new.self ≤ vec_capacity c.push_reserved.new.self = search rules in
    record {
      of_document = c.take_value-value.ensures.of_document;
      taking = subst (λ l. IsTaking c.args.cells.items c.pop.new.self.items l old next) (sym c.push_reserved.ensures.items)
          (taking_next c.args.cells.items c.pop.new.self.items c.in-Some.cell c.taking.taken.items old now
          (subst (λ l. IsTaking c.args.cells.items l c.taking.taken.items old now) c.in-Some.ensures.items c.taking.invariant.taking)
          c.take_value-value.result c.take_value-value.ensures.before next c.take_value-value.ensures.taken);
      room = room;
    }
