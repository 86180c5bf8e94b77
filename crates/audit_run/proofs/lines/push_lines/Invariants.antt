use Rattle.std.proofs.Common.{◌≡◌, ◌++◌, drop, string_bytes}
use Rattle.acl_rules.specs.Loaded.{book_of}
use Rattle.audit_run.specs.AuditLines.{lines_for}
use Rattle.audit_run.proofs.lines.push_lines.Given as goal

-- the lines so far, and the others
abbrev pub invariant-loop-user : goal.invariant-loop-user
invariant-loop-user g l = record {
  book : l.ctx.book ≡ book_of (g.D.DocReader.document l.doc);
  text : string_bytes l.text ++ lines_for (g.D.DocReader.document l.doc) (drop l.user-index l.users)
      ≡ string_bytes l.fn.text ++ lines_for (g.D.DocReader.document l.doc) l.users;
}
