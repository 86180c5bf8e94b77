use Rattle.std.proofs.Common.{◌≡◌, ℕ, List, Option, Result, Ok, Err, IfOk, sym, subst}
use Rattle.user_attrs.specs.AttributeText.{Tells, attribute_of}
use Rattle.user_attrs.specs.declared.attribute_rule.AttributeRule.{AttributeRule}
use Rattle.user_attrs.proofs.AttributeLemmas.{tells_of}
use Rattle.user_attrs.proofs.attribute_texts.read_attribute.Goals as goal

told : {E : Type 0} (r : Result (Option AttributeRule) E) (text : List ℕ) → IfOk r (λ o. o ≡ attribute_of text) → IfOk r (λ o. Tells o text)
told (Ok o) text e = subst (λ x. Tells x text) (sym e) (tells_of text)
told (Err x) text e = tt

pub returns-clause-tells : goal.returns-clause-tells
returns-clause-tells c = told c.attribute_of.result c.args.text.now c.attribute_of.ensures
