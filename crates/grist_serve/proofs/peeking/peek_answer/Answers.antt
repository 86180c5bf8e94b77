use Rattle.std.proofs.Common.{List, IfOk, arith, sym, subst}
use Rattle.doc_model.specs.declared.entry.Entry.{Entry}
use Rattle.snap_reads.specs.declared.past.Past.{Past}
use Rattle.document_shot.specs.declared.past.CoreStart.{CoreStart}
use Rattle.peek_lines.specs.declared.answers.PeekAnswer.TheVariants.{NotOpen}
use Rattle.grist_serve.specs.Due.{IsPeekAnswered}
use Rattle.grist_serve.specs.declared.peeking.Due.{Due}
use Rattle.grist_serve.specs.declared.peeking.Due.TheVariants.{At}
use Rattle.grist_serve.proofs.PeekLemmas.{all_from_shot, not_open}
use Rattle.grist_serve.proofs.peeking.peek_answer.Goals as goal

pub returns-in-NoTurn-clause-answer : goal.returns-in-NoTurn-clause-answer
returns-in-NoTurn-clause-answer c =
    let known = c.args.shots.now.known in
    subst (λ (d : Due). IsPeekAnswered d c.args.session.now c.args.table.now known known NotOpen) (sym c.in-NoTurn.is) (not_open c.args.session.now c.args.table.now known)

pub returns-in-At-clause-answer : goal.returns-in-At-clause-answer
returns-in-At-clause-answer c =
    subst (λ (d : Due). IfOk c.peek.result (IsPeekAnswered d c.args.session.now c.args.table.now c.args.shots.now.known c.peek.new.self.known)) (sym c.in-At.is)
    (subst (λ (k : List (Past CoreStart Entry)). IfOk c.peek.result (IsPeekAnswered (At c.in-At.mark) c.args.session.now c.args.table.now k c.peek.new.self.known)) c.learn.ensures.known
    (all_from_shot c.in-At.mark c.args.session.now c.args.table.now c.learn.new.self.known c.learn.new.self.least c.peek.new.self.known c.peek.result (omega (arith, c.learn.ensures.least)) c.peek.ensures.answer))
