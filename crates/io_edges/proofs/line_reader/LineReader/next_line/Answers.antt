use Rattle.std.proofs.Common.{◌≡◌, ◌∙◌, Bool, Result, true, false, Ok, ap, length, refl, arith, rules}
use Rattle.io_edges.specs.declared.Failed.{Failed}
use Rattle.io_edges.proofs.ReadingLemmas.{reading_begins, reads_line, reading_part, reading_read, reads_fault, reads_spent, reads_last}
use Rattle.io_edges.proofs.line_reader.LineReader.next_line.Goals as goal

pub loop-whole-init : goal.loop-whole-init
loop-whole-init g c = record {
  reading = reading_begins c.args.self.now c.begin.new.self (g.S.Source.left c.args.source.now) c.begin.ensures.ahead c.begin.ensures.line c.begin.ensures.turns;
  apart = refl;
  later = omega arith;
}

pub returns-then-whole-clause-reads : goal.returns-then-whole-clause-reads
returns-then-whole-clause-reads g c = reads_line c.loop-whole.invariant.reading (rw c.if-whole.true at c.in-Ok.ensures.part) c.in-Ok.ensures.turns

pub returns-then-is_spent-clause-reads : goal.returns-then-is_spent-clause-reads
returns-then-is_spent-clause-reads g c =
    let part = rw c.if-whole.false at c.in-Ok.ensures.part in
    reads_spent (reading_part c.loop-whole.invariant.reading part c.in-Ok.ensures.turns) (part.all cc)

pub returns-in_default-fill-clause-reads : goal.returns-in_default-fill-clause-reads
returns-in_default-fill-clause-reads g c =
    let part = rw c.if-whole.false at c.in-Ok.ensures.part in
    reads_fault (reading_part c.loop-whole.invariant.reading part c.in-Ok.ensures.turns) (part.all cc) c.in_default-fill.ensures.bytes c.in_default-fill.ensures.fails (omega (arith, c.in_default-fill.ensures.turns))

pub returns-then-not-more-clause-reads : goal.returns-then-not-more-clause-reads
returns-then-not-more-clause-reads g c =
    let part = rw c.if-whole.false at c.in-Ok.ensures.part in
    let ended : ◌≡◌ {A = Result Bool Failed} (Ok c.in-Ok-fill.more) (Ok false) = ap Ok c.if-not-more.true in
    let e = c.in-Ok-fill.ensures in
    reads_last c.last.result (reading_part c.loop-whole.invariant.reading part c.in-Ok.ensures.turns) (part.all cc)
    (record { consumed = e.bytes; line = e.line; turns = rw c.if-not-more.true at e.turns; once = omega arith; some = omega arith; few = omega (arith, ap length (e.end ended).0); spare = search rules })
    (record { none_ahead = (e.end ended).0; at_end = (e.end ended).1 })
    c.last.ensures

pub loop-whole-preserved : goal.loop-whole-preserved
loop-whole-preserved g c =
    let part = rw c.if-whole.false at c.in-Ok.ensures.part in
    let more : ◌≡◌ {A = Result Bool Failed} (Ok c.in-Ok-fill.more) (Ok true) = ap Ok c.if-not-more.false in
    let e = c.in-Ok-fill.ensures in
    record {
      reading = reading_read 1 (reading_part c.loop-whole.invariant.reading part c.in-Ok.ensures.turns) (part.all cc)
          (record { consumed = e.bytes; line = e.line; turns = rw c.if-not-more.false at e.turns; once = omega arith; some = omega (arith, e.some more); few = e.few; spare = search rules });
      apart = e.apart ∙ c.loop-whole.invariant.apart;
      later = omega (arith, c.loop-whole.invariant.later, e.later);
    }
