use Rattle.std.proofs.Common.{◌≡◌, ◌<◌, length, get_or, sym, subst, ap, ◌∙◌, arith}
use Rattle.doc_model.specs.Changes.{IsView}
use Rattle.view_patch.specs.Given.{IsFull}
use Rattle.view_patch.proofs.PatchSteps.{leads_all, leads_first, leads_next, told_unfit}
use Rattle.plain_view.proofs.Steps.{each_item}
use Rattle.view_patch.proofs.patching.patch.Goals as goal

pub loop-index-init : goal.loop-index-init
loop-index-init c = leads_first c.args.view.now.tables c.in_ok-tables.tables.items c.args.actions.now (c.in_ok-tables.ensures ∙ c.as_slice.ensures) c.requires.view

pub step-requires-clause-view : goal.step-requires-clause-view
step-requires-clause-view c = c.loop-index.invariant.view

pub step-requires-clause-full : goal.step-requires-clause-full
step-requires-clause-full c =
    let i = c.loop-index.index in
    let a = c.action-item.result in
    each_item IsFull c.args.actions.now i a c.requires.full (subst (λ l. i < length l) c.as_slice-action-items.ensures c.loop-index-test.true) (c.action-item.is ∙ ap (λ l. get_or l i a) c.as_slice-action-items.ensures)

pub loop-index-preserved : goal.loop-index-preserved
loop-index-preserved c =
    let actions = c.args.actions.now in
    let a = c.action-item.result in
    let i = c.loop-index.index in
    let lt : i < length actions = subst (λ l. i < length l) c.as_slice-action-items.ensures c.loop-index-test.true in
    leads_next c.args.view.now.tables c.loop-index.tables.items c.step.new.tables.items actions i a c.loop-index.invariant lt
    (c.action-item.is ∙ ap (λ l. get_or l i a) c.as_slice-action-items.ensures) c.in_ok-step.ensures.fits c.in_ok-step.ensures.ok

pub returns-clause-ok : goal.returns-clause-ok
returns-clause-ok c =
    let all : c.loop-index.index ≡ length c.as_slice-action-items.result.now = omega arith in
    c.from.ensures ∙ (leads_all c.args.view.now.tables c.loop-index.tables.items c.args.actions.now c.loop-index.index c.loop-index.invariant (all ∙ ap length c.as_slice-action-items.ensures)).1

pub returns-clause-fits : goal.returns-clause-fits
returns-clause-fits c =
    let all : c.loop-index.index ≡ length c.as_slice-action-items.result.now = omega arith in
    (leads_all c.args.view.now.tables c.loop-index.tables.items c.args.actions.now c.loop-index.index c.loop-index.invariant (all ∙ ap length c.as_slice-action-items.ensures)).0

pub returns-clause-kept : goal.returns-clause-kept
returns-clause-kept c = subst IsView (sym c.from.ensures) c.loop-index.invariant.view

pub returns-in_err-step-clause-err : goal.returns-in_err-step-clause-err
returns-in_err-step-clause-err c =
    let actions = c.args.actions.now in
    let a = c.action-item.result in
    let i = c.loop-index.index in
    told_unfit c.from_residual-in_err-step.result c.in_err-step.field-0.0 c.args.view.now.tables c.loop-index.tables.items actions i a c.loop-index.invariant
    (subst (λ l. i < length l) c.as_slice-action-items.ensures c.loop-index-test.true) (c.action-item.is ∙ ap (λ l. get_or l i a) c.as_slice-action-items.ensures)
    c.in_err-step.ensures.err c.from_residual-in_err-step.ensures.1
