use Rattle.std.proofs.Common.{◌∙◌, subst, sym, ap, refl, IsSome}
use Rattle.lookup_index.specs.Under.{AllAscend}
use Rattle.lookup_index.proofs.IndexLaws.{ascends}
use Rattle.lookup_index.proofs.key_index.KeyIndex.remove.Goals as goal
use Rattle.lookup_index.proofs.key_index.KeyIndex.remove.Goals.{in-Some, in-None}

pub invariant_of-self : goal.invariant_of-self
invariant_of-self g c = elim c.match-get_mut.branch [
  | in-Some w ↦ subst (AllAscend g.K.PartialEq.eq) (sym (ap (λ i. i.lists.entries) w.self-inside-is))
      (ascends g.K.PartialEq.eq c.self.inside.lists.entries (c.get_mut.follows.lender w.take_row.new.rows).entries c.args.key.now w.take_row.new.rows
      ((c.get_mut.follows.holds w.take_row.new.rows).3 (subst IsSome w.in-Some.ensures.value refl)).0 w.take_row.ensures.ascending c.self.invariant)
  | in-None w ↦ subst (AllAscend g.K.PartialEq.eq) (sym (ap (λ i. i.lists.entries) w.self-inside-is ∙ ap (λ m. m.entries) c.get_mut.follows.holds-at-none)) c.self.invariant
]
