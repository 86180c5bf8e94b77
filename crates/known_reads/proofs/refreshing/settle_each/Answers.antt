use Rattle.std.proofs.Common.{◌≤◌, [], length, refl, subst, arith}
use Rattle.recalc.specs.Evaluated.{sheet_of}
use Rattle.recalc.specs.Kept.{held_at}
use Rattle.recalc.proofs.Progress.{each_more, further_next}
use Rattle.affected_values.proofs.RefreshedLemmas.{IsHeldOf, held_stays, taken_known}
use Rattle.known_reads.specs.Attempts.{due}
use Rattle.known_reads.proofs.BoundLemmas.{due_within, spent_next, spent_within, within_next}
use Rattle.known_reads.proofs.RecordedLemmas.{recording_next}
use Rattle.known_reads.proofs.WatchedLemmas.{watched_next}
use Rattle.known_reads.proofs.refreshing.settle_each.Goals as goal

pub returns-in_err-settle_cell-clause-recording : goal.returns-in_err-settle_cell-clause-recording
returns-in_err-settle_cell-clause-recording g c =
    let s = g.D.DocReader.document c.args.tables.now in
    recording_next s (held_at s c.args.kept.now.items) (held_at s c.loop-held.kept.items) (held_at s c.settle_cell.new.kept.items) c.args.reads.now c.loop-held.reads c.settle_cell.new.reads
    c.loop-held.invariant.recording c.settle_cell.ensures.recording

pub loop-held-preserved : goal.loop-held-preserved
loop-held-preserved g c =
    let s = g.D.DocReader.document c.args.tables.now in
    let further = c.settle_cell.ensures.further in
    record {
      further = further_next s c.args.kept.now.items c.loop-held.kept.items c.settle_cell.new.kept.items c.loop-held.invariant.further further;
      known = each_more (IsHeldOf s c.loop-held.kept.items) (IsHeldOf s c.settle_cell.new.kept.items) c.args.taken.now c.loop-held.held-index _ c.held-item.result
          (held_stays s c.loop-held.kept.items c.settle_cell.new.kept.items further) refl
          (subst (IsHeldOf s c.settle_cell.new.kept.items) c.held-item.is c.in_ok-settle_cell.ensures.known) c.loop-held.invariant.known;
      indexed = c.in_ok-settle_cell.ensures.indexed;
      remembered = c.in_ok-settle_cell.ensures.remembered;
      watched = watched_next c.args.reads.now c.loop-held.reads c.settle_cell.new.reads c.loop-held.invariant.watched c.settle_cell.ensures.watched;
      recording = recording_next s (held_at s c.args.kept.now.items) (held_at s c.loop-held.kept.items) (held_at s c.settle_cell.new.kept.items) c.args.reads.now c.loop-held.reads c.settle_cell.new.reads
          c.loop-held.invariant.recording c.settle_cell.ensures.recording;
      attempts = spent_next (sheet_of s) (held_at s c.args.kept.now.items) (held_at s c.loop-held.kept.items) (held_at s c.settle_cell.new.kept.items) [] [] [] (due c.args.steps.now c.args.reads.now) (due c.loop-held.steps c.loop-held.reads) (due c.settle_cell.new.steps c.settle_cell.new.reads)
          c.loop-held.invariant.further.stays c.loop-held.invariant.attempts c.in_ok-settle_cell.ensures.attempts;
    }

pub returns-clause-known : goal.returns-clause-known
returns-clause-known g c =
    let all : length c.args.taken.now ≤ c.loop-held.held-index = omega arith in
    taken_known (g.D.DocReader.document c.args.tables.now) c.loop-held.kept.items c.args.taken.now c.loop-held.held-index all c.loop-held.invariant.known

pub returns-in_err-settle_cell-clause-attempts : goal.returns-in_err-settle_cell-clause-attempts
returns-in_err-settle_cell-clause-attempts g c =
    let s = g.D.DocReader.document c.args.tables.now in
    within_next (sheet_of s) (held_at s c.args.kept.now.items) (held_at s c.loop-held.kept.items) (due c.args.steps.now c.args.reads.now) (due c.loop-held.steps c.loop-held.reads) c.settle_cell.new.steps
    c.loop-held.invariant.further.stays c.loop-held.invariant.attempts c.settle_cell.ensures.most

pub returns-clause-attempts : goal.returns-clause-attempts
returns-clause-attempts g c =
    let s = g.D.DocReader.document c.args.tables.now in
    due_within (sheet_of s) (held_at s c.args.kept.now.items) (due c.args.steps.now c.args.reads.now) c.loop-held.steps c.loop-held.reads
    (spent_within (sheet_of s) (held_at s c.args.kept.now.items) (held_at s c.loop-held.kept.items) [] (due c.args.steps.now c.args.reads.now) (due c.loop-held.steps c.loop-held.reads) refl c.loop-held.invariant.attempts)

pub returns-clause-due : goal.returns-clause-due
returns-clause-due g c =
    let s = g.D.DocReader.document c.args.tables.now in
    spent_within (sheet_of s) (held_at s c.args.kept.now.items) (held_at s c.loop-held.kept.items) [] (due c.args.steps.now c.args.reads.now) (due c.loop-held.steps c.loop-held.reads) refl c.loop-held.invariant.attempts

pub returns-in_err-settle_cell-clause-watched : goal.returns-in_err-settle_cell-clause-watched
returns-in_err-settle_cell-clause-watched g c = watched_next c.args.reads.now c.loop-held.reads c.settle_cell.new.reads c.loop-held.invariant.watched c.settle_cell.ensures.watched
