use Rattle.std.proofs.Common.{◌≤◌, length, refl, subst, ◌∙◌, arith}
use Rattle.recalc.proofs.Progress.{each_more}
use Rattle.known_reads.specs.Watched.{IsGoneNoted}
use Rattle.known_reads.proofs.KnownLemmas.{IsReadPlain, all_read, plain_stays}
use Rattle.known_reads.proofs.RecordedLemmas.{forgot_plain}
use Rattle.known_reads.proofs.WatchedLemmas.{noted_later, noted_stays, watched_next, watched_none}
use Rattle.known_reads.proofs.beside.KnownReads.forget_plain.Goals as goal

pub loop-cell-preserved : goal.loop-cell-preserved
loop-cell-preserved g c =
    let s = g.D.DocReader.document c.args.tables.now in
    let first = c.args.self.now in
    let old = c.loop-cell.self in
    let new = c.forget_where.new.self in
    record {
      keeps = λ d h. c.forget_where.ensures.keeps d (c.loop-cell.invariant.keeps d h);
      list = c.forget_where.ensures.list ∙ c.loop-cell.invariant.list;
      watched = watched_next first old new c.loop-cell.invariant.watched c.forget_where.ensures.watched;
      read = each_more (IsReadPlain s old.graph) (IsReadPlain s new.graph) c.args.cells.now c.loop-cell.cell-index _ c.cell-item.result
          (plain_stays s old.graph new.graph c.forget_where.ensures.keeps) refl
          (subst (IsReadPlain s new.graph) c.cell-item.is c.in_ok-forget_where.ensures.plain) c.loop-cell.invariant.read;
      gone = each_more (IsGoneNoted s first old) (IsGoneNoted s first new) c.args.cells.now c.loop-cell.cell-index _ c.cell-item.result
          (noted_stays s first old new c.forget_where.ensures.watched) refl
          (subst (IsGoneNoted s first new) c.cell-item.is (noted_later s first old new c.loop-cell.invariant.watched c.cell-item.result c.in_ok-forget_where.ensures.gone)) c.loop-cell.invariant.gone;
    }

pub returns-clause-knows : goal.returns-clause-knows
returns-clause-knows g c = λ but.
    let s = g.D.DocReader.document c.args.tables.now in
    let all : length c.args.cells.now ≤ c.loop-cell.cell-index = omega arith in
    forgot_plain s c.args.self.now c.loop-cell.self c.args.cells.now (all_read (IsReadPlain s c.loop-cell.self.graph) c.args.cells.now c.loop-cell.cell-index all c.loop-cell.invariant.read) c.loop-cell.invariant.keeps c.loop-cell.invariant.list but

pub returns-clause-gone : goal.returns-clause-gone
returns-clause-gone g c =
    let all : length c.args.cells.now ≤ c.loop-cell.cell-index = omega arith in
    all_read (IsGoneNoted (g.D.DocReader.document c.args.tables.now) c.args.self.now c.loop-cell.self) c.args.cells.now c.loop-cell.cell-index all c.loop-cell.invariant.gone

pub returns-in_err-forget_where-clause-watched : goal.returns-in_err-forget_where-clause-watched
returns-in_err-forget_where-clause-watched g c = watched_next c.args.self.now c.loop-cell.self c.forget_where.new.self c.loop-cell.invariant.watched c.forget_where.ensures.watched

pub loop-cell-init : goal.loop-cell-init
loop-cell-init g c = record {
  keeps = λ d h. h;
  list = refl;
  watched = watched_none c.args.self.now;
  read = λ j x below at plain. absurd (omega (arith, below));
  gone = λ j x below at plain. absurd (omega (arith, below));
}
