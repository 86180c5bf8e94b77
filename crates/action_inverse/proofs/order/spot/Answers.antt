use Rattle.std.proofs.Common.{get_or, sym, ap, arith}
use Rattle.action_inverse.proofs.SpotLemmas.{goes_before, stands_at, goes_on, goes_last}
use Rattle.action_inverse.proofs.order.spot.Goals as goal

pub returns-in-Equal : goal.returns-in-Equal
returns-in-Equal c =
    let ks = c.args.columns.now in
    let i = c.loop-index.index in
    record {
      within = c.loop-index-test.true;
      placed = stands_at c.args.column.now ks i (get_or ks i c.index-columns-index.result) c.loop-index-test.true
          (ap (get_or ks i) c.index-columns-index.is) c.loop-index.invariant (sym c.in-Equal.ensures);
    }

pub loop-index-preserved : goal.loop-index-preserved
loop-index-preserved c =
    let ks = c.args.columns.now in
    let i = c.loop-index.index in
    goes_on c.args.column.now ks i (get_or ks i c.index-columns-index.result) c.loop-index-test.true
    (ap (get_or ks i) c.index-columns-index.is) c.loop-index.invariant (sym c.in-Greater.ensures)

pub returns-in-Less : goal.returns-in-Less
returns-in-Less c =
    let ks = c.args.columns.now in
    let i = c.loop-index.index in
    record {
      within = omega (arith, c.loop-index-test.true);
      placed = goes_before c.args.column.now ks i (get_or ks i c.index-columns-index.result) c.loop-index-test.true
          (ap (get_or ks i) c.index-columns-index.is) c.loop-index.invariant (sym c.in-Less.ensures);
    }

pub returns : goal.returns
returns c = record {
  within = omega arith;
  placed = goes_last c.args.column.now c.args.columns.now c.loop-index.index c.loop-index-test.false c.loop-index.auto.index-end c.loop-index.invariant;
}
