use Rattle.std.proofs.Common.{◌≡◌, map, take}
use Rattle.rule_contexts.specs.Context.{context}
use Rattle.context_changes.specs.Known.{user_in}
use Rattle.context_changes.proofs.known.made_anew.Given as goal

abbrev pub invariant-loop-ctx : goal.invariant-loop-ctx
invariant-loop-ctx g l = l.made.items ≡ map (λ x. context (user_in x) (g.D.DocReader.document l.doc)) (take l.ctx-index l.contexts)
