use Rattle.std.proofs.Common.{◌∙◌, ap, sym}
use Rattle.doc_model.specs.MetadataIds.{is_acl_id}
use Rattle.acl_checks.proofs.KeptLemmas.{acl_add_holds, add_holds}
use Rattle.acl_checks.proofs.before.before_add.Goals as goal

pub returns-then-is_acl_id : goal.returns-then-is_acl_id
returns-then-is_acl_id c = λ x s rows columns.
    acl_add_holds x c.args.table.now s (sym (c.is_acl_id.ensures ∙ ap is_acl_id c.as_str.ensures.value) ∙ c.if-is_acl_id.true) rows columns

pub returns : goal.returns
returns c = λ x s rows columns.
    add_holds x c.args.table.now s (sym (c.is_acl_id.ensures ∙ ap is_acl_id c.as_str.ensures.value) ∙ c.if-is_acl_id.false) c.new.result rows columns
