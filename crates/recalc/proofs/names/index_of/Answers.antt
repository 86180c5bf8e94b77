use Rattle.std.proofs.Common.{◌≡◌, ◌+◌, length, refl, subst, arith}
use Rattle.recalc.specs.InOrder.{GoesBefore}
use Rattle.recalc.specs.InOrder.{itself}
use Rattle.recalc.proofs.Insertions.{goes_before, goes_behind, goes_last, goes_over}
use Rattle.recalc.proofs.names.index_of.Goals as goal

pub returns-in-Less : goal.returns-in-Less
returns-in-Less c = goes_before itself c.args.id.now c.index-names-index.result c.args.names.now c.loop-index.index c.index-names-index.result c.loop-index-test.true c.index-names-index.is c.loop-index.invariant refl c.in-Less.ensures

pub returns-in-Equal : goal.returns-in-Equal
returns-in-Equal c = goes_over itself c.args.id.now c.index-names-index.result c.args.names.now c.loop-index.index c.index-names-index.result c.loop-index-test.true c.index-names-index.is c.loop-index.invariant refl c.in-Equal.ensures

pub loop-index-preserved : goal.loop-index-preserved
loop-index-preserved c = goes_behind itself c.args.id.now c.index-names-index.result c.args.names.now c.loop-index.index (c.loop-index.index + 1) c.index-names-index.result c.loop-index-test.true c.index-names-index.is c.loop-index.invariant refl c.in-Greater.ensures refl

pub returns : goal.returns
returns c =
    let all : c.loop-index.index ≡ length c.args.names.now = omega arith in
    subst (λ p. GoesBefore itself c.args.id.now c.args.names.now p) all (goes_last itself c.args.id.now c.args.names.now c.loop-index.index all c.loop-index.invariant)
