-- What stands against a table, by its open columns.
use Rattle.std.proofs.Common.{◌≡◌, ◌∙◌, ap, sym, false, cond, List, Option, None}
use Rattle.acl_rules.specs.declared.decision.Ctx.{Ctx}
use Rattle.doc_model.specs.declared.view.ViewCol.{ViewCol}
use Rattle.doc_model.specs.declared.view.ViewTable.{ViewTable}
use Rattle.doc_model.specs.MetadataIds.{is_metadata_id}
use Rattle.rule_audit.specs.declared.faults.Audit.{Audit}
use Rattle.rule_audit.specs.Closed.{ruled_fault, table_fault}
use Rattle.rule_audit.specs.Open.{open_columns}

pub fault_of : (x : Ctx) (t : ViewTable) (opened : List ViewCol) (f : Option Audit) → is_metadata_id t.id ≡ false → opened ≡ open_columns x t → f ≡ ruled_fault x opened t → f ≡ table_fault x t
unfolding table_fault
fault_of x t opened f plain is h =
    h ∙ ap (λ l. ruled_fault x l t) is ∙ sym (ap (λ b. cond b None (ruled_fault x (open_columns x t) t)) plain)
