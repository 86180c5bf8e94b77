-- What it is that an audit says `Closed`.
use Rattle.std.specs.Prelude.{List, ◌≡◌, ◌↔◌}
use Rattle.doc_model.specs.declared.view.ViewTable.{ViewTable}
use Rattle.acl_rules.specs.declared.decision.Ctx.{Ctx}
use Rattle.rule_audit.specs.declared.faults.Audit.TheVariants as fault
use Rattle.rule_audit.specs.Closed.{IsClosed, audit}

-- it says so exactly where it finds no fault
abbrev pub ClosedLaw : Type 0
ClosedLaw = (x : Ctx) (v : List ViewTable) → (audit x v ≡ fault.Closed) ↔ IsClosed x v
