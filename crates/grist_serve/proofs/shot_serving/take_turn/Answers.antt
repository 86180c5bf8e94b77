use Rattle.std.proofs.Common.{◌≡◌, rules}
use Rattle.io_edges.specs.declared.session_end.SessionEnd.TheVariants.{Closed, ReadFault, TurnsSpent, NoMemory}
use Rattle.grist_serve.proofs.ShotLineLaws.{ends_fault, ends_spent, ends_short, ends_input, turn_goes_on, turn_closes, turn_last, turn_ends, turn_last_ends, same_written}
use Rattle.grist_serve.specs.Due.{standing}
use Rattle.grist_serve.proofs.shot_serving.take_turn.Goals as goal

pub returns-in-Ok-true-clause-turn : goal.returns-in-Ok-true-clause-turn
returns-in-Ok-true-clause-turn g c l w old s =
    turn_closes c.args.session.now l _ _ _ old (standing c.args.pass.now c.args.progress.now.due c.args.shots.now.known) (standing c.answer.new.pass c.answer.new.progress.due c.answer.new.shots.known) w _ _ _ c.args.progress.now.buffers.reader c.read_line.new.reader c.answer.new.progress.buffers.reader s
    c.in-Ok-true.ensures.left c.in-Ok-Line.ensures.written c.in-Ok-true.ensures.reader (rw c.in-Ok-Line.field-0-is at c.in-Ok-Line.ensures.reads) (rw c.in-Ok-true.field-0-test at c.in-Ok-true.ensures.answers)

pub returns-in-Ok-false-clause-turn : goal.returns-in-Ok-false-clause-turn
returns-in-Ok-false-clause-turn g c l w old s =
    turn_goes_on c.args.session.now l _ _ _ old (standing c.args.pass.now c.args.progress.now.due c.args.shots.now.known) (standing c.answer.new.pass c.answer.new.progress.due c.answer.new.shots.known) w _ _ _ c.args.progress.now.buffers.reader c.read_line.new.reader c.answer.new.progress.buffers.reader s
    c.in-Ok-false.ensures.left c.in-Ok-Line.ensures.written c.in-Ok-false.ensures.reader (rw c.in-Ok-Line.field-0-is at c.in-Ok-Line.ensures.reads) (rw c.in-Ok-false.field-0-test at c.in-Ok-false.ensures.answers)

pub returns-in-Err-clause-turn : goal.returns-in-Err-clause-turn
returns-in-Err-clause-turn g c l w old s =
    turn_ends c.args.session.now l _ _ _ old (standing c.args.pass.now c.args.progress.now.due c.args.shots.now.known) (standing c.answer.new.pass c.answer.new.progress.due c.answer.new.shots.known) w _ _ _ c.args.progress.now.buffers.reader c.read_line.new.reader c.answer.new.progress.buffers.reader s
    c.in-Err.ensures.left c.in-Ok-Line.ensures.written c.in-Err.ensures.reader c.in-Err.end (rw c.in-Ok-Line.field-0-is at c.in-Ok-Line.ensures.reads) c.in-Err.ensures.answers

pub returns-in-Ok-clause-turn : goal.returns-in-Ok-clause-turn
returns-in-Ok-clause-turn g c l w old s =
    turn_last c.args.session.now l _ _ _ old (standing c.args.pass.now c.args.progress.now.due c.args.shots.now.known) (standing c.answer-in-Ok-Last.new.pass c.answer-in-Ok-Last.new.progress.due c.answer-in-Ok-Last.new.shots.known) w _ _ _ c.args.progress.now.buffers.reader c.read_line.new.reader c.answer-in-Ok-Last.new.progress.buffers.reader s
    c.in-Ok.ensures.left c.in-Ok-Last.ensures.written c.in-Ok.ensures.reader c.in-Ok.field-0 (rw c.in-Ok-Last.field-0-is at c.in-Ok-Last.ensures.reads) c.in-Ok.ensures.answers

pub returns-in-Err-answer-clause-turn : goal.returns-in-Err-answer-clause-turn
returns-in-Err-answer-clause-turn g c l w old s =
    turn_last_ends c.args.session.now l _ _ _ old (standing c.args.pass.now c.args.progress.now.due c.args.shots.now.known) (standing c.answer-in-Ok-Last.new.pass c.answer-in-Ok-Last.new.progress.due c.answer-in-Ok-Last.new.shots.known) w _ _ _ c.args.progress.now.buffers.reader c.read_line.new.reader c.answer-in-Ok-Last.new.progress.buffers.reader s
    c.in-Err-answer.ensures.left c.in-Ok-Last.ensures.written c.in-Err-answer.ensures.reader c.in-Err-answer.end (rw c.in-Ok-Last.field-0-is at c.in-Ok-Last.ensures.reads) c.in-Err-answer.ensures.answers

pub returns-in-Ok-End-clause-turn : goal.returns-in-Ok-End-clause-turn
returns-in-Ok-End-clause-turn g c l w old s =
    same_written Closed c.args.session.now l _ old (standing c.args.pass.now c.args.progress.now.due c.args.shots.now.known) w _ _ c.in-Ok-End.ensures.written
    (ends_input c.args.session.now l _ _ old (standing c.args.pass.now c.args.progress.now.due c.args.shots.now.known) w _ c.args.progress.now.buffers.reader c.read_line.new.reader s (rw c.in-Ok-End.field-0-is at c.in-Ok-End.ensures.reads))

pub returns-in-Err-ReadFault-clause-turn : goal.returns-in-Err-ReadFault-clause-turn
returns-in-Err-ReadFault-clause-turn g c l w old s =
    same_written ReadFault c.args.session.now l _ old (standing c.args.pass.now c.args.progress.now.due c.args.shots.now.known) w _ _ c.in-Err-ReadFault.ensures.written
    (ends_fault c.args.session.now l _ _ old (standing c.args.pass.now c.args.progress.now.due c.args.shots.now.known) w _ c.args.progress.now.buffers.reader c.read_line.new.reader s (rw c.in-Err-ReadFault.field-0-is at c.in-Err-ReadFault.ensures.reads))

pub returns-in-Err-TurnsSpent-clause-turn : goal.returns-in-Err-TurnsSpent-clause-turn
returns-in-Err-TurnsSpent-clause-turn g c l w old s =
    let spent : c.read_line.new.reader.turns ≡ 4294967296 = search rules in
    same_written TurnsSpent c.args.session.now l _ old (standing c.args.pass.now c.args.progress.now.due c.args.shots.now.known) w _ _ c.in-Err-TurnsSpent.ensures.written
    (ends_spent c.args.session.now l _ _ old (standing c.args.pass.now c.args.progress.now.due c.args.shots.now.known) w _ c.args.progress.now.buffers.reader c.read_line.new.reader s (rw c.in-Err-TurnsSpent.field-0-is at c.in-Err-TurnsSpent.ensures.reads) spent)

pub returns-in-Err-NoMemory-clause-turn : goal.returns-in-Err-NoMemory-clause-turn
returns-in-Err-NoMemory-clause-turn g c l w old s =
    same_written NoMemory c.args.session.now l _ old (standing c.args.pass.now c.args.progress.now.due c.args.shots.now.known) w _ _ c.in-Err-NoMemory.ensures.written
    (ends_short c.args.session.now l _ _ old (standing c.args.pass.now c.args.progress.now.due c.args.shots.now.known) w _ c.args.progress.now.buffers.reader c.read_line.new.reader s (rw c.in-Err-NoMemory.field-0-is at c.in-Err-NoMemory.ensures.reads))
