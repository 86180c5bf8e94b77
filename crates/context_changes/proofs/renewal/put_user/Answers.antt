use Rattle.std.proofs.Common.{arith}
use Rattle.context_changes.proofs.RenewalLemmas.{put_past, put_within}
use Rattle.context_changes.proofs.renewal.put_user.Goals as goal

pub returns-then-place-contexts : goal.returns-then-place-contexts
returns-then-place-contexts c = put_within c.args.contexts.now c.args.place c.index-contexts-place.result c.args.user c.if-place-contexts.true

pub returns-else-place-contexts : goal.returns-else-place-contexts
returns-else-place-contexts c = put_past c.args.contexts.now c.args.place c.args.user (λ lt. omega (arith, lt, c.if-place-contexts.false))
