use Rattle.std.proofs.Common.{◌∙◌, ap, sym}
use Rattle.doc_model.specs.MetadataIds.{is_acl_id}
use Rattle.acl_checks.proofs.KeptLemmas.{acl_remove_holds, remove_holds}
use Rattle.acl_checks.proofs.before.before_remove.Goals as goal

pub returns-then-is_acl_id : goal.returns-then-is_acl_id
returns-then-is_acl_id g c =
    acl_remove_holds c.args.ctx.now c.args.table.now (g.D.DocReader.document c.args.tables.now)
    (sym (c.is_acl_id.ensures ∙ ap is_acl_id c.as_str.ensures.value) ∙ c.if-is_acl_id.true) c.args.rows.now

pub returns : goal.returns
returns g c =
    remove_holds c.args.ctx.now c.args.table.now (g.D.DocReader.document c.args.tables.now)
    (sym (c.is_acl_id.ensures ∙ ap is_acl_id c.as_str.ensures.value) ∙ c.if-is_acl_id.false) c.args.rows.now c.removes_denied.result c.removes_denied.ensures
