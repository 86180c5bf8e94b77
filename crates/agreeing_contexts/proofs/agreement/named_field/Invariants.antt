use Rattle.std.proofs.Common.{◌≡◌, drop}
use Rattle.acl_formula.specs.RuleFields.{named_field}
use Rattle.agreeing_contexts.proofs.agreement.named_field.Given as goal

abbrev pub invariant-loop-attribute : goal.invariant-loop-attribute
invariant-loop-attribute l =
    named_field (drop l.attribute-index l.attributes) l.field.attribute l.field.name ≡ named_field l.attributes l.field.attribute l.field.name
