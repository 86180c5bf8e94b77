use Rattle.std.proofs.Common.{◌≡◌, ◌+◌, length, refl, subst, arith}
use Rattle.view_patch.specs.Placed.{GoesBefore}
use Rattle.view_patch.proofs.Spots.{goes_before, goes_behind, goes_last, goes_over}
use Rattle.view_patch.proofs.placing.spot.Goals as goal

pub returns-in-Less : goal.returns-in-Less
returns-in-Less g c = goes_before g.T.Named.id_of c.args.id.now c.id.result.now c.args.things.now c.loop-index.index c.index-things-index.result c.loop-index-test.true c.index-things-index.is c.loop-index.invariant c.id.ensures c.in-Less.ensures

pub returns-in-Equal : goal.returns-in-Equal
returns-in-Equal g c = goes_over g.T.Named.id_of c.args.id.now c.id.result.now c.args.things.now c.loop-index.index c.index-things-index.result c.loop-index-test.true c.index-things-index.is c.loop-index.invariant c.id.ensures c.in-Equal.ensures

pub loop-index-preserved : goal.loop-index-preserved
loop-index-preserved g c = goes_behind g.T.Named.id_of c.args.id.now c.id.result.now c.args.things.now c.loop-index.index (c.loop-index.index + 1) c.index-things-index.result c.loop-index-test.true c.index-things-index.is c.loop-index.invariant c.id.ensures c.in-Greater.ensures refl

pub returns : goal.returns
returns g c =
    let all : c.loop-index.index ≡ length c.args.things.now = omega arith in
    subst (λ p. GoesBefore g.T.Named.id_of c.args.id.now c.args.things.now p) all (goes_last g.T.Named.id_of c.args.id.now c.args.things.now c.loop-index.index all c.loop-index.invariant)
