use Rattle.std.proofs.Common.{◌≡◌, ap, sym, ◌∙◌}
use Rattle.bundle_core.specs.Core.{CoreState}
use Rattle.bundle_core.specs.MadeLines.{is_more, lines_made}
use Rattle.bundle_core.proofs.MadeLaws.{made_added, made_before_reply, made_last, not_made}
use Rattle.bundle_core.proofs.history_core.Core.line_made.Goals as goal

pub returns-then-not-is_more : goal.returns-then-not-is_more
returns-then-not-is_more g c = λ old e s is.
    let new = c.args.self.now.state in
    let name = c.args.session.now in
    let counted : is_more (lines_made old name) (lines_made new name) ≡ c.is_more.result =
    sym (c.is_more.ensures ∙ ap (λ n. is_more n c.lines_made.result) is ∙ ap (is_more (lines_made old name)) c.lines_made.ensures) in
    sym (not_made old new e c.args.given.now s name (counted ∙ c.if-not-is_more.true))

pub returns-then-is_last_of : goal.returns-then-is_last_of
returns-then-is_last_of g c = λ old e s is.
    let new = c.args.self.now.state in
    let name = c.args.session.now in
    let counted : is_more (lines_made old name) (lines_made new name) ≡ c.is_more.result =
    sym (c.is_more.ensures ∙ ap (λ n. is_more n c.lines_made.result) is ∙ ap (is_more (lines_made old name)) c.lines_made.ensures) in
    let more = counted ∙ c.if-not-is_more.false in
    let last = ap (λ (x : CoreState). x.history) (made_added old new e c.args.given.now s name more) in
    let r = made_before_reply old new e c.args.given.now s name more (sym (c.is_last_of.ensures old.history e last) ∙ c.if-is_last_of.true) in
    c.before_last.ensures r.0 r.1 r.2 r.4 ∙ sym r.3

pub returns-else-is_last_of : goal.returns-else-is_last_of
returns-else-is_last_of g c = λ old e s is.
    let new = c.args.self.now.state in
    let name = c.args.session.now in
    let counted : is_more (lines_made old name) (lines_made new name) ≡ c.is_more.result =
    sym (c.is_more.ensures ∙ ap (λ n. is_more n c.lines_made.result) is ∙ ap (is_more (lines_made old name)) c.lines_made.ensures) in
    let more = counted ∙ c.if-not-is_more.false in
    let last = ap (λ (x : CoreState). x.history) (made_added old new e c.args.given.now s name more) in
    c.last_waiting.ensures ∙ made_last old new e c.args.given.now s name more (sym (c.is_last_of.ensures old.history e last) ∙ c.if-is_last_of.false)
