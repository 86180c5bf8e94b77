use Rattle.std.proofs.Common.{◌≡◌, not, ◌&&◌, sym, ap, subst, ◌∙◌}
use Rattle.bundle_core.specs.declared.history_core.Answer.{Answer}
use Rattle.bundle_core.specs.Core.{is_open_in}
use Rattle.bundle_core.specs.Steps.{IsAnswer}
use Rattle.watched_core.proofs.MachineLaws.{err_any, full_given, full_grows, full_opening, gives_lines, taken_grows, taken_opening, unchanged_grows, unchanged_history, unchanged_opening}
use Rattle.watched_core.proofs.machine.WatchedCoreMachine.step.Goals.{else-was_open, then-was_open}
use Rattle.watched_core.proofs.machine.WatchedCoreMachine.step.Goals as goal

pub returns-in_err-lines-clause-opening : goal.returns-in_err-lines-clause-opening
returns-in_err-lines-clause-opening g c = unchanged_opening c.args.self.now.core c.step.new.self.core c.in_err-lines.ensures.err

pub returns-in_err-lines-clause-grows : goal.returns-in_err-lines-clause-grows
returns-in_err-lines-clause-grows g c = unchanged_grows c.args.self.now.core c.step.new.self.core c.in_err-lines.ensures.err

pub returns-in_err-lines-clause-err : goal.returns-in_err-lines-clause-err
returns-in_err-lines-clause-err g c = err_any c.from_residual.result (unchanged_history c.args.self.now.core c.step.new.self.core c.in_err-lines.ensures.err)

pub returns-in_default-clause-opening : goal.returns-in_default-clause-opening
returns-in_default-clause-opening g c =
    full_opening c.args.self.now.core c.step.new.self.core c.args.event c.in_ok-lines.field-0 c.in_default.not-Lines c.in_ok-lines.ensures.ok

pub returns-in_default-clause-grows : goal.returns-in_default-clause-grows
returns-in_default-clause-grows g c =
    full_grows c.args.self.now.core c.step.new.self.core c.args.event c.in_ok-lines.field-0 c.in_default.not-Lines c.in_ok-lines.ensures.ok

pub returns-in_default-clause-ok : goal.returns-in_default-clause-ok
returns-in_default-clause-ok g c =
    full_given c.args.self.now.core c.step.new.self.core c.args.event c.in_ok-lines.field-0 c.in_default.not-Lines c.in_ok-lines.ensures.ok

pub returns-clause-opening : goal.returns-clause-opening
returns-clause-opening g c =
    let A : Answer → Type 0 = λ a. IsAnswer c.args.self.now.core c.step.new.self.core c.args.event.session c.args.event.request c.args.event.size a in
    taken_opening c.args.self.now.core c.step.new.self.core c.args.event c.in-Lines.lines (subst A c.in-Lines.is c.in_ok-lines.ensures.ok)

pub returns-clause-grows : goal.returns-clause-grows
returns-clause-grows g c =
    let A : Answer → Type 0 = λ a. IsAnswer c.args.self.now.core c.step.new.self.core c.args.event.session c.args.event.request c.args.event.size a in
    taken_grows c.args.self.now.core c.step.new.self.core c.args.event c.in-Lines.lines (subst A c.in-Lines.is c.in_ok-lines.ensures.ok)

pub returns-clause-ok : goal.returns-clause-ok
returns-clause-ok g c =
    let A : Answer → Type 0 = λ a. IsAnswer c.args.self.now.core c.step.new.self.core c.args.event.session c.args.event.request c.args.event.size a in
    let was = c.has_open-was_open.ensures in
    let now = c.has_open-is_open.ensures in
    let closing : c.if-was_open.result ≡ (c.has_open-was_open.result && not c.has_open-is_open.result) = elim c.if-was_open.branch [
      | then-was_open w ↦ w.result-is ∙ ap (λ b. b && not c.has_open-is_open.result) (sym w.if-was_open.true)
      | else-was_open w ↦ w.result-is ∙ w.if-was_open.false ∙ ap (λ b. b && not c.has_open-is_open.result) (sym w.if-was_open.false)
    ] in
    gives_lines c.args.self.now.core c.step.new.self.core c.args.event c.in-Lines.lines (subst A c.in-Lines.is c.in_ok-lines.ensures.ok) c.if-was_open.result
    (closing ∙ ap (λ b. b && not c.has_open-is_open.result) was ∙ ap (λ b. is_open_in c.args.self.now.core.state c.args.event.session && not b) now)
