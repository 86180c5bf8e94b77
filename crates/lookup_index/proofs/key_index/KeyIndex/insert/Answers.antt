use Rattle.std.proofs.Common.{subst, refl, IsSome}
use Rattle.lookup_index.proofs.IndexLaws.{ascends}
use Rattle.lookup_index.proofs.key_index.KeyIndex.insert.Goals as goal

pub invariant_of-self : goal.invariant_of-self
invariant_of-self g c =
    ascends g.K.PartialEq.eq c.self.inside.lists.entries (c.get_mut.follows.lender c.put_row.new.rows).entries c.args.key c.put_row.new.rows
    ((c.get_mut.follows.holds c.put_row.new.rows).3 (subst IsSome c.in-Some.ensures.value refl)).0 c.put_row.ensures.ascending c.self.invariant
