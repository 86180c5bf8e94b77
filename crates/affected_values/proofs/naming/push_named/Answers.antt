use Rattle.std.proofs.Common.{◌≡◌, ◌∙◌, true, inl, inr, sym, ap, subst, Some, IfSome}
use Rattle.cell_types.specs.declared.cell.CellId.{CellId}
use Rattle.dep_graph.specs.Sources.{cell_in}
use Rattle.recalc.specs.Stack.{on}
use Rattle.affected_values.proofs.NamedLemmas.{named_last, on_last_only}
use Rattle.affected_values.proofs.naming.push_named.Goals as goal

pub returns-in_ok-push-clause-named : goal.returns-in_ok-push-clause-named
returns-in_ok-push-clause-named c = λ d h.
    subst (λ l. on l d ≡ true) (sym c.in_ok-push.ensures.items) (named_last c.args.named.now.items c.in-Some.cell d (rw c.in-Some.is at (c.in_ok-cell.ensures.cell d h)))

pub returns-in_ok-push-clause-only : goal.returns-in_ok-push-clause-only
returns-in_ok-push-clause-only c = λ d h.
    elim (on_last_only c.args.named.now.items c.in-Some.cell d (subst (λ l. on l d ≡ true) c.in_ok-push.ensures.items h)) [
      | inl was ↦ inl was
      | inr same ↦ inr (ap (cell_in c.args.graph.now.names) (sym same) ∙ subst (λ o. IfSome o (λ (e : CellId). cell_in c.args.graph.now.names e ≡ Some c.args.number)) c.in-Some.is c.in_ok-cell.ensures.number)
    ]
