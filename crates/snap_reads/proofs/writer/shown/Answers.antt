use Rattle.std.proofs.Common.{drop, take, ap, ◌∙◌}
use Rattle.snap_reads.proofs.Rises.{match_both, past_after, publishes}
use Rattle.snap_reads.proofs.writer.shown.Goals as goal

pub publish_as-requires : goal.publish_as-requires
publish_as-requires g c next is =
    let w = c.args.writer in
    publishes g.T.Absorb.applied g.T.Shot.past g.T.Shot.stands g.T.Shot.led_to g.T.Shot.leads g.met.T.Shot.moves g.met.T.Shot.keeps
    g.T.Absorb.state g.met.T.Shot.continues _ _ w.desk.shown.value next (drop w.behind w.log.items) c.requires is

pub returns : goal.returns
returns g c =
    let w = c.args.writer in
    let p = c.publish_as in
    let after = past_after g.T.Absorb.applied g.T.Shot.past g.T.Shot.stands g.T.Shot.led_to g.T.Shot.leads g.met.T.Shot.moves g.met.T.Shot.keeps (g.T.Absorb.state w.desk.shown.value) (drop w.behind w.log.items) in
    match_both p.result.1 p.ensures.values p.ensures.rule
    (λ _ a b. (b.0, ap g.T.Shot.past a.0 ∙ after, a.1, ap (take 1) b.2))
    (λ _ a b. (a.0, a.1, b))
