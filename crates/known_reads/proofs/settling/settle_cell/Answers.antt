use Rattle.std.proofs.Common.{◌<◌, vec_len, ◌≡◌, [], length, rules, subst, sym, ap, arith}
use Rattle.std.specs.Global.{Global}
use Rattle.std.specs.Prelude.{Vec}
use Rattle.recalc.specs.declared.kept.KeptTable.{KeptTable}
use Rattle.recalc.specs.Evaluated.{sheet_of}
use Rattle.recalc.specs.Kept.{IsFurther, held_at}
use Rattle.recalc.proofs.Turns.{settling_done, settling_turn}
use Rattle.known_reads.specs.Attempts.{IsSpent, due, height}
use Rattle.known_reads.proofs.BoundLemmas.{due_within, some_left, spent_err, spent_next, spent_within}
use Rattle.known_reads.proofs.CountLemmas.{stack_few}
use Rattle.known_reads.proofs.RecordedLemmas.{empty_list, recording_next}
use Rattle.known_reads.proofs.WatchedLemmas.{watched_next}
use Rattle.known_reads.proofs.settling.settle_cell.Goals as goal

pub settling-preserved : goal.settling-preserved
settling-preserved g c =
    let s = g.D.DocReader.document c.args.tables.now in
    record {
      of_document = c.in_ok-turn.ensures.of_document;
      indexed = c.in_ok-turn.ensures.indexed;
      remembered = c.in_ok-turn.ensures.remembered;
      settling = settling_turn (sheet_of s) (held_at s c.args.kept.now.items) c.args.cell.now (held_at s c.settling.kept.items) (held_at s c.turn.new.kept.items) c.settling.stack.items c.turn.new.stack.items
          c.settling.invariant.settling c.in_ok-turn.ensures.turn;
      stays = λ d h. c.turn.ensures.stays d (c.settling.invariant.stays d h);
      watched = watched_next c.args.reads.now c.settling.reads c.turn.new.reads c.settling.invariant.watched c.turn.ensures.watched;
      recording = recording_next s (held_at s c.args.kept.now.items) (held_at s c.settling.kept.items) (held_at s c.turn.new.kept.items) c.args.reads.now c.settling.reads c.turn.new.reads
          c.settling.invariant.recording c.turn.ensures.recording;
      naming = c.in_ok-turn.ensures.naming;
      attempts = spent_next (sheet_of s) (held_at s c.args.kept.now.items) (held_at s c.settling.kept.items) (held_at s c.turn.new.kept.items) [] c.settling.stack.items c.turn.new.stack.items (due c.args.steps.now c.args.reads.now) (due c.settling.steps c.settling.reads) (due c.turn.new.steps c.turn.new.reads)
          c.settling.invariant.stays c.settling.invariant.attempts c.in_ok-turn.ensures.attempts;
    }

pub returns-in_err-turn-clause-further : goal.returns-in_err-turn-clause-further
returns-in_err-turn-clause-further g c =
    let s = g.D.DocReader.document c.args.tables.now in
    subst (λ (v : Vec KeptTable Global). IsFurther s c.args.kept.now.items v.items) (sym c.in_err-turn.ensures.err) (record {
      settled = record { of_document = c.settling.invariant.of_document; sound = c.settling.invariant.settling.working.sound };
      stays = c.settling.invariant.stays;
    })

pub returns-in_err-turn-clause-recording : goal.returns-in_err-turn-clause-recording
returns-in_err-turn-clause-recording g c =
    let s = g.D.DocReader.document c.args.tables.now in
    recording_next s (held_at s c.args.kept.now.items) (held_at s c.settling.kept.items) (held_at s c.turn.new.kept.items) c.args.reads.now c.settling.reads c.turn.new.reads
    c.settling.invariant.recording c.turn.ensures.recording

pub returns-clause-known : goal.returns-clause-known
returns-clause-known g c =
    let s = g.D.DocReader.document c.args.tables.now in
    let none : length c.settling.stack.items ≡ 0 = search rules in
    λ h. settling_done (sheet_of s) (held_at s c.args.kept.now.items) c.args.cell.now (held_at s c.settling.kept.items) c.settling.stack.items (empty_list c.settling.stack.items none) c.settling.invariant.settling

pub returns-in_err-turn-clause-most : goal.returns-in_err-turn-clause-most
returns-in_err-turn-clause-most g c =
    let s = g.D.DocReader.document c.args.tables.now in
    let size : length c.settling.stack.items ≡ vec_len c.settling.stack = search rules in
    let there : 0 < vec_len c.settling.stack = some_left (vec_len c.settling.stack) c.is_empty.result c.is_empty.ensures c.settling-test.true in
    let some : 0 < length c.settling.stack.items = omega (arith, size, there) in
    let step = c.turn.ensures.steps in
    spent_err (sheet_of s) (held_at s c.args.kept.now.items) (held_at s c.settling.kept.items) c.settling.stack.items (due c.args.steps.now c.args.reads.now) (due c.settling.steps c.settling.reads) c.turn.new.steps c.settling.invariant.stays some
    (λ cells has. stack_few (sheet_of s) (held_at s c.settling.kept.items) cells has c.settling.stack.items c.settling.invariant.settling.working.each_open)
    c.settling.invariant.attempts (omega (arith, step))

pub returns-clause-attempts : goal.returns-clause-attempts
returns-clause-attempts g c =
    let s = g.D.DocReader.document c.args.tables.now in
    let none : length c.settling.stack.items ≡ 0 = search rules in
    subst (λ l. IsSpent (sheet_of s) (held_at s c.args.kept.now.items) [] (due c.args.steps.now c.args.reads.now) (held_at s c.settling.kept.items) l (due c.settling.steps c.settling.reads)) (empty_list c.settling.stack.items none) c.settling.invariant.attempts

pub returns-clause-most : goal.returns-clause-most
returns-clause-most g c =
    let s = g.D.DocReader.document c.args.tables.now in
    let none : length c.settling.stack.items ≡ 0 = search rules in
    due_within (sheet_of s) (held_at s c.args.kept.now.items) (due c.args.steps.now c.args.reads.now) c.settling.steps c.settling.reads
    (spent_within (sheet_of s) (held_at s c.args.kept.now.items) (held_at s c.settling.kept.items) c.settling.stack.items (due c.args.steps.now c.args.reads.now) (due c.settling.steps c.settling.reads) (ap height (empty_list c.settling.stack.items none)) c.settling.invariant.attempts)

pub returns-in_err-turn-clause-watched : goal.returns-in_err-turn-clause-watched
returns-in_err-turn-clause-watched g c = watched_next c.args.reads.now c.settling.reads c.turn.new.reads c.settling.invariant.watched c.turn.ensures.watched
