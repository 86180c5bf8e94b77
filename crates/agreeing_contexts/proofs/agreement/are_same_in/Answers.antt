use Rattle.std.proofs.Common.{◌≡◌, ◌∷◌, ◌+◌, List, true, drop, refl, subst, sym, ◌∙◌}
use Rattle.std.proofs.lemmas.Bool.{false≢true, true≢false}
use Rattle.std.proofs.lemmas.List.{drop_all}
use Rattle.agreeing_contexts.specs.Agreement.{AreSameIn, IsSameIn}
use Rattle.agreeing_contexts.specs.declared.field.UserField.{UserField}
use Rattle.agreeing_contexts.proofs.FieldLemmas.{drop_next}
use Rattle.agreeing_contexts.proofs.agreement.are_same_in.Goals as goal

pub loop-field-preserved : goal.loop-field-preserved
loop-field-preserved c =
    let P : List UserField → Type 0 = λ fs. AreSameIn fs c.args.left.now c.args.right.now in
    let next = drop_next c.args.fields.now c.loop-field.field-index c.field-item.result c.loop-field-test.true c.field-item.is in
    let same : IsSameIn c.args.left.now c.args.right.now c.field-item.result = c.is_same_in.ensures.0 c.if-not-is_same_in.false in
    (λ rest. c.loop-field.invariant.0 (subst P (sym next) (same, rest)), λ all. (subst P next (c.loop-field.invariant.1 all)).1)

pub returns-then-not-is_same_in : goal.returns-then-not-is_same_in
returns-then-not-is_same_in c =
    let P : List UserField → Type 0 = λ fs. AreSameIn fs c.args.left.now c.args.right.now in
    let next = drop_next c.args.fields.now c.loop-field.field-index c.field-item.result c.loop-field-test.true c.field-item.is in
    (λ e. absurd (false≢true e), λ all. absurd (true≢false (sym (c.is_same_in.ensures.1 (subst P next (c.loop-field.invariant.1 all)).0) ∙ c.if-not-is_same_in.true)))

pub returns : goal.returns
returns c =
    let P : List UserField → Type 0 = λ fs. AreSameIn fs c.args.left.now c.args.right.now in
    (λ e. c.loop-field.invariant.0 (subst P (sym (drop_all c.loop-field.field-index c.args.fields.now c.loop-field-test.false)) tt), λ all. refl)
