use Rattle.std.proofs.Common.{[], ◌∷◌, ◌++◌, ◌≡◌, ap, sym, ◌∙◌, subst}
use Rattle.dep_graph.specs.declared.numbers.ReadNumber.{ReadNumber}
use Rattle.dep_graph.specs.Records.{holds}
use Rattle.affected_search.proofs.TouchedWalk.{known_with}
use Rattle.affected_search.proofs.touched_reads.ReadSet.add.Goals as goal

pub invariant_of-self-then-branch : goal.invariant_of-self-then-branch
invariant_of-self-then-branch c =
    let was = c.self.inside in
    subst (λ reads. (q : ReadNumber) → holds c.insert.new.self.keys q ≡ holds reads q) (sym (c.push_reserved.ensures.items ∙ ap (λ reads. reads ++ c.args.read ∷ []) c.in_ok-reserve.ensures.items))
    (known_with was.known.keys was.reads.items c.insert.new.self.keys c.args.read c.self.invariant c.in_ok-insert.ensures.updates.0)
