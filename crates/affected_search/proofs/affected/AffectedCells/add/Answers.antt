use Rattle.std.proofs.Common.{◌++◌, ◌∷◌, [], sym, ap, ◌∙◌, subst}
use Rattle.doc_model.proofs.Choices.{not_true}
use Rattle.affected_search.specs.Found.{IsKnownBy}
use Rattle.affected_search.specs.Reached.{is_among}
use Rattle.affected_search.proofs.FoundLaws.{known_with}
use Rattle.affected_search.proofs.affected.AffectedCells.add.Goals as goal

pub invariant_of-self-then-branch : goal.invariant_of-self-then-branch
invariant_of-self-then-branch c =
    let was = c.self.inside in
    subst (λ cells. IsKnownBy cells c.insert.new.self.keys) (sym (c.push_reserved.ensures.items ∙ ap (λ cells. cells ++ c.args.cell ∷ []) c.in_ok-reserve.ensures.items))
    (known_with was.cells.items was.known.keys c.insert.new.self.keys c.args.cell c.self.invariant
    (not_true (is_among was.known.keys c.args.cell) (sym c.in_ok-insert.ensures.added ∙ c.if-branch.true)) c.in_ok-insert.ensures.updates.0)
