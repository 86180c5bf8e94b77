use Rattle.std.proofs.Common.{inl, inr, refl, sym, ◌∙◌}
use Rattle.std.proofs.lemmas.Bool.{false≢true, true≢false}
use Rattle.context_changes.specs.Renewal.{AreAllSame}
use Rattle.context_changes.proofs.RenewalLemmas.{none_beside, none_left, same_first, same_next}
use Rattle.context_changes.proofs.renewal.are_all_same.Goals as goal

pub loop-ctx-preserved : goal.loop-ctx-preserved
loop-ctx-preserved c =
    same_next c.args.fields.now c.loop-ctx.ctx-iterator.a.rest.now c.next.new.self.a.rest.now c.loop-ctx.ctx-iterator.b.rest.now c.next.new.self.b.rest.now c.in-Some.ctx.now c.in-Some.user.now
    c.in-Some.ensures.steps.0 c.in-Some.ensures.steps.1 (AreAllSame c.args.fields.now c.args.contexts.now c.args.users.now) c.loop-ctx.invariant (c.are_same_in.ensures.0 c.if-not-are_same_in.false)

pub returns-then-not-are_same_in : goal.returns-then-not-are_same_in
returns-then-not-are_same_in c = (
  λ e. absurd (false≢true e),
  λ all. absurd (true≢false (sym (c.are_same_in.ensures.1
      (same_first c.args.fields.now c.loop-ctx.ctx-iterator.a.rest.now c.next.new.self.a.rest.now c.loop-ctx.ctx-iterator.b.rest.now c.next.new.self.b.rest.now c.in-Some.ctx.now c.in-Some.user.now
      c.in-Some.ensures.steps.0 c.in-Some.ensures.steps.1 (c.loop-ctx.invariant.1 all))) ∙ c.if-not-are_same_in.true)),
)

pub returns : goal.returns
returns c =
    let xs = c.loop-ctx.ctx-iterator.a.rest.now in
    let us = c.loop-ctx.ctx-iterator.b.rest.now in
    elim c.in-None.ensures.steps [
      | inl e ↦ (λ t. c.loop-ctx.invariant.0 (none_left c.args.fields.now xs us e.1.0), λ all. refl)
      | inr e ↦ (λ t. c.loop-ctx.invariant.0 (none_beside c.args.fields.now xs us e.1.0), λ all. refl)
    ]
