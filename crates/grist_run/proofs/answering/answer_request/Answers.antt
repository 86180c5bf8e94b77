use Rattle.bundle_core.specs.Core.{entry_of}
use Rattle.bundle_core.specs.KeptCore.{IsTaken}
use Rattle.grist_run.proofs.Answered.{answers_part, answers_step, stays_taken}
use Rattle.grist_run.proofs.answering.answer_request.Goals as goal

pub returns-in-Ok-clause-answers : goal.returns-in-Ok-clause-answers
returns-in-Ok-clause-answers g c =
    let t : IsTaken c.args.watched.now.core c.step.new.self.core c.args.line_request.session c.args.line_request.request c.args.line_request.size c.in-Ok-Lines.lines = rw c.in-Ok-Lines.field-0-is at c.in-Ok-Lines.ensures.ok in
    answers_step c.args.watched.now.core.state c.step.new.self.core.state (entry_of c.args.line_request.session c.args.line_request.request c.args.line_request.size t.kept) c.in-Ok-Lines.lines t.taken c.requires.stays
    c.args.outbox.now c.send_lines.new.outbox (g.O.Sink.written c.args.out.now) (g.O.Sink.written c.send_lines.new.out) (rw c.as_slice.ensures at c.in-Ok.ensures.ok)

pub returns-in-Err-WriteFault-clause-answers : goal.returns-in-Err-WriteFault-clause-answers
returns-in-Err-WriteFault-clause-answers g c =
    let t : IsTaken c.args.watched.now.core c.step.new.self.core c.args.line_request.session c.args.line_request.request c.args.line_request.size c.in-Ok-Lines.lines = rw c.in-Ok-Lines.field-0-is at c.in-Ok-Lines.ensures.ok in
    answers_part c.args.watched.now.core.state c.step.new.self.core.state (entry_of c.args.line_request.session c.args.line_request.request c.args.line_request.size t.kept) c.in-Ok-Lines.lines t.taken c.requires.stays
    c.args.outbox.now c.send_lines.new.outbox (g.O.Sink.written c.args.out.now) (g.O.Sink.written c.send_lines.new.out) (rw c.as_slice.ensures at c.in-Err-WriteFault.ensures.err)

pub returns-in-Ok-Lines-clause-answers : goal.returns-in-Ok-Lines-clause-answers
returns-in-Ok-Lines-clause-answers g c =
    let t : IsTaken c.args.watched.now.core c.step.new.self.core c.args.line_request.session c.args.line_request.request c.args.line_request.size c.in-Ok-Lines.lines = rw c.in-Ok-Lines.field-0-is at c.in-Ok-Lines.ensures.ok in
    answers_part c.args.watched.now.core.state c.step.new.self.core.state (entry_of c.args.line_request.session c.args.line_request.request c.args.line_request.size t.kept) c.in-Ok-Lines.lines t.taken c.requires.stays
    c.args.outbox.now c.send_lines.new.outbox (g.O.Sink.written c.args.out.now) (g.O.Sink.written c.send_lines.new.out) (rw c.as_slice.ensures at c.in-Err-NoMemory.ensures.err)

pub returns-in-Ok-clause-stays : goal.returns-in-Ok-clause-stays
returns-in-Ok-clause-stays g c =
    stays_taken c.args.watched.now.core c.step.new.self.core c.args.line_request.session c.args.line_request.request c.args.line_request.size c.in-Ok-Lines.lines (rw c.in-Ok-Lines.field-0-is at c.in-Ok-Lines.ensures.ok) c.requires.stays

pub returns-in-Err-WriteFault-clause-stays : goal.returns-in-Err-WriteFault-clause-stays
returns-in-Err-WriteFault-clause-stays g c =
    stays_taken c.args.watched.now.core c.step.new.self.core c.args.line_request.session c.args.line_request.request c.args.line_request.size c.in-Ok-Lines.lines (rw c.in-Ok-Lines.field-0-is at c.in-Ok-Lines.ensures.ok) c.requires.stays

pub returns-in-Ok-Lines-clause-stays : goal.returns-in-Ok-Lines-clause-stays
returns-in-Ok-Lines-clause-stays g c =
    stays_taken c.args.watched.now.core c.step.new.self.core c.args.line_request.session c.args.line_request.request c.args.line_request.size c.in-Ok-Lines.lines (rw c.in-Ok-Lines.field-0-is at c.in-Ok-Lines.ensures.ok) c.requires.stays
