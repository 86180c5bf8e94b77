-- An audit reads no row.
use Rattle.std.proofs.Common.{◌≡◌, ◌∙◌, ap, refl, ℕ, true, false, List, [], ◌∷◌, map, filter, Option, Some, None}
use Rattle.doc_model.specs.declared.view.ViewTable.{ViewTable}
use Rattle.plain_view.specs.PartsOfViews.{part_of, passing}
use Rattle.acl_rules.specs.declared.decision.Ctx.{Ctx}
use Rattle.rule_audit.specs.declared.faults.Audit.{Audit}
use Rattle.rule_audit.specs.Closed.{audit, first_fault, or_closed, or_fault, table_fault, tables_fault}

faults : (x : Ctx) (v : List ViewTable) → tables_fault x (part_of (λ table. true) (λ table row. false) v) ≡ tables_fault x v
unfolding table_fault
faults x [] = refl
faults x (t ∷ v) = ap (or_fault (table_fault x t)) (faults x v)

pub rowless : (x : Ctx) (v : List ViewTable) → audit x (part_of (λ table. true) (λ table row. false) v) ≡ audit x v
rowless x v = ap or_closed (faults x v)

pub none_kept : (rows : List ℕ) → filter (λ row. false) rows ≡ []
none_kept [] = refl
none_kept (r ∷ rows) = none_kept rows
