use Rattle.std.proofs.Common.{◌≡◌, take}
use Rattle.context_changes.specs.Renewal.{users_now}
use Rattle.context_changes.proofs.renewal.users_now.Given as goal

abbrev pub invariant-loop-ctx : goal.invariant-loop-ctx
invariant-loop-ctx g l = l.users.items ≡ users_now (g.D.DocReader.document l.doc) (take l.ctx-index l.contexts)
