use Rattle.rename_texts.proofs.RewriteLemmas.{order_stands}
use Rattle.rename_texts.proofs.rewriting.replaced.Goals as goal

pub push_token-requires : goal.push_token-requires
push_token-requires c =
    let s = order_stands c.args.tokens.now c.loop-token.token-index c.loop-token.at _ c.token-item.result c.loop-token-test.true c.token-item.is c.loop-token.invariant.in_order in
    record { from = s.from; to = s.to; end = s.end }
