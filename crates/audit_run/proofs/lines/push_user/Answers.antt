use Rattle.std.proofs.Common.{◌≡◌, ◌∙◌, ◌++◌, OnOk, ap, subst, string_bytes}
use Rattle.rule_contexts.specs.Context.{view_in}
use Rattle.rule_audit.specs.Closed.{audit}
use Rattle.audit_run.specs.AuditLines.{audit_line, line_for}
use Rattle.audit_run.proofs.lines.push_user.Goals as goal

pub returns-clause-line : goal.returns-clause-line
returns-clause-line g c =
    let s = g.D.DocReader.document c.args.doc.now in
    let u = c.args.user.now in
    let a = c.in_ok-told.told in
    let said : audit_line c.as_str.result.now a ≡ line_for s u =
    ap (λ t. audit_line t a) c.as_str.ensures
    ∙ ap (audit_line u.token) (c.in_ok-told.ensures ∙ ap (λ x. audit x (view_in x s)) c.in_ok-turn_to.ensures) in
    subst (λ l. OnOk c.push_line.result (string_bytes c.push_line.new.text ≡ string_bytes c.args.text.now ++ l)) said c.push_line.ensures
