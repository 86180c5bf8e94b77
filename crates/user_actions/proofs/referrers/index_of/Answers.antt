use Rattle.std.proofs.Common.{◌∙◌, sym}
use Rattle.user_actions.proofs.ReferrerLemmas.{index_here, index_last}
use Rattle.user_actions.proofs.referrers.index_of.Goals as goal

pub returns-then-stands_before-clause-placed : goal.returns-then-stands_before-clause-placed
returns-then-stands_before-clause-placed c =
    index_here c.args.one.now c.args.known.now c.loop-index.index c.loop-index.invariant c.index-known-index.result c.loop-index-test.true c.index-known-index.is
    (sym c.stands_before.ensures ∙ c.if-stands_before.true)

pub returns-clause-placed : goal.returns-clause-placed
returns-clause-placed c = index_last c.args.one.now c.args.known.now c.loop-index.index c.loop-index.invariant c.loop-index-test.false
