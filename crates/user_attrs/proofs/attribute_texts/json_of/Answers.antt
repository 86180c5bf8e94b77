use Rattle.std.proofs.Common.{sym}
use Rattle.user_attrs.proofs.attribute_texts.json_of.Goals as goal

pub returns-in-Ok : goal.returns-in-Ok
returns-in-Ok c = sym c.in-Ok.ensures.ok

pub returns-in_default : goal.returns-in_default
returns-in_default c = sym (c.in-Err.ensures.err (λ m. c.in_default.not-Memory (c.classify.ensures.memory.1 m)))
