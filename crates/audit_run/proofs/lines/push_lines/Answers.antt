use Rattle.std.proofs.Common.{◌++◌, string_bytes}
use Rattle.audit_run.specs.AuditLines.{lines_for}
use Rattle.audit_run.proofs.LineLemmas.{all_told, one_more}
use Rattle.audit_run.proofs.lines.push_lines.Goals as goal

pub loop-user-preserved : goal.loop-user-preserved
loop-user-preserved g c =
    let s = g.D.DocReader.document c.args.doc.now in
    record {
      book = c.in_ok-push_user.ensures.book;
      text = one_more s c.args.users.now c.loop-user.user-index c.user-item.result (string_bytes c.loop-user.text) (string_bytes c.push_user.new.text) (string_bytes c.args.text.now ++ lines_for s c.args.users.now)
          c.loop-user-test.true c.user-item.is c.loop-user.invariant.text c.in_ok-push_user.ensures.line;
    }

pub returns : goal.returns
returns g c =
    let s = g.D.DocReader.document c.args.doc.now in
    all_told s c.args.users.now c.loop-user.user-index (string_bytes c.loop-user.text) (string_bytes c.args.text.now ++ lines_for s c.args.users.now) c.loop-user-test.false c.loop-user.invariant.text
