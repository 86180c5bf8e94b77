use Rattle.std.proofs.Common.{◌≤◌, length, refl, subst, arith}
use Rattle.recalc.proofs.Progress.{each_more}
use Rattle.known_reads.specs.Known.{IsRead}
use Rattle.known_reads.proofs.KnownLemmas.{all_read, read_stays}
use Rattle.known_reads.proofs.WatchedLemmas.{but_next, but_none}
use Rattle.known_reads.proofs.recording.record_cells.Goals as goal

pub returns-in_err-record_where-clause-keeps : goal.returns-in_err-record_where-clause-keeps
returns-in_err-record_where-clause-keeps g c = λ d h. c.record_where.ensures.keeps d (c.loop-cell.invariant.keeps d h)

pub loop-cell-preserved : goal.loop-cell-preserved
loop-cell-preserved g c =
    let s = g.D.DocReader.document c.args.tables.now in
    record {
      indexed = c.in_ok-record_where.ensures.indexed;
      keeps = λ d h. c.record_where.ensures.keeps d (c.loop-cell.invariant.keeps d h);
      same = but_next c.args.graph.now c.loop-cell.graph c.record_where.new.graph c.args.cells.now c.loop-cell.cell-index c.cell-item.result c.loop-cell-test.true c.cell-item.is c.loop-cell.invariant.same c.record_where.ensures.same;
      steps = let first = c.loop-cell.invariant.steps in let more = c.record_where.ensures.steps in omega (arith, first, more);
      read = each_more (IsRead s c.loop-cell.graph) (IsRead s c.record_where.new.graph) c.args.cells.now c.loop-cell.cell-index _ c.cell-item.result
          (read_stays s c.loop-cell.graph c.record_where.new.graph c.record_where.ensures.keeps) refl
          (subst (IsRead s c.record_where.new.graph) c.cell-item.is c.in_ok-record_where.ensures.ok) c.loop-cell.invariant.read;
    }

pub returns-in_err-record_where-clause-steps : goal.returns-in_err-record_where-clause-steps
returns-in_err-record_where-clause-steps g c =
    let first = c.loop-cell.invariant.steps in
    let more = c.record_where.ensures.steps in
    omega (arith, first, more)

pub returns-clause-ok : goal.returns-clause-ok
returns-clause-ok g c =
    let all : length c.args.cells.now ≤ c.loop-cell.cell-index = omega arith in
    all_read (IsRead (g.D.DocReader.document c.args.tables.now) c.loop-cell.graph) c.args.cells.now c.loop-cell.cell-index all c.loop-cell.invariant.read

pub returns-in_err-record_where-clause-same : goal.returns-in_err-record_where-clause-same
returns-in_err-record_where-clause-same g c =
    but_next c.args.graph.now c.loop-cell.graph c.record_where.new.graph c.args.cells.now c.loop-cell.cell-index c.cell-item.result c.loop-cell-test.true c.cell-item.is c.loop-cell.invariant.same c.record_where.ensures.same

pub loop-cell-init : goal.loop-cell-init
loop-cell-init g c = record {
  indexed = c.requires.indexed;
  keeps = λ d h. h;
  same = but_none c.args.graph.now c.args.cells.now;
  steps = omega arith;
  read = λ j x below at. absurd (omega (arith, below));
}
