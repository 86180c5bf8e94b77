-- No fault is called `Closed`.
use Rattle.std.proofs.Common.{◌≡◌, ap, refl, subst, ℕ, true, false, cond, List, [], ◌∷◌, Option, Some, None}
use Rattle.std.specs.Bool.{⊤}
use Rattle.doc_model.specs.declared.view.ViewCol.{ViewCol}
use Rattle.doc_model.specs.declared.view.ViewTable.{ViewTable}
use Rattle.doc_model.specs.MetadataIds.{is_metadata_id}
use Rattle.acl_formula.specs.declared.permissions.Perm.{Perm}
use Rattle.acl_formula.specs.declared.permissions.Perm.TheVariants as perm
use Rattle.acl_rules.specs.declared.decision.Ctx.{Ctx}
use Rattle.rule_audit.specs.declared.faults.Audit.{Audit}
use Rattle.rule_audit.specs.declared.faults.Audit.TheVariants as fault
use Rattle.rule_audit.specs.Closed.{chain_fault, chain_stop, column_fault, columns_fault, first_fault, formula_fault, is_hidden, leak_of, or_closed, or_fault, rows_fault, ruled_fault, table_fault, tables_fault}
use Rattle.rule_audit.specs.Open.{open_columns}
use Rattle.rule_audit.specs.Stops.{bad_row}
use Rattle.audited_verdicts.specs.ClosedLaw.{ClosedLaw}

-- none, or one that has another name
abbrev IsOther : Option Audit → Type 0
IsOther None = ⊤
IsOther (Some fault.Closed) = ⊥
IsOther (Some f) = ⊤

either : (a b : Option Audit) → IsOther a → IsOther b → IsOther (or_fault a b)
either None b h k = k
either (Some f) b h k = h

each : {X : Type 0} (f : X → Option Audit) → ((x : X) → IsOther (f x)) → (xs : List X) → IsOther (first_fault f xs)
each f h [] = tt
each f h (x ∷ xs) = either (f x) (first_fault f xs) (h x) (each f h xs)

leak : (table : List ℕ) (column : Option (List ℕ)) (p : Perm) (o : Option ℕ) → IsOther (leak_of table column p o)
leak table column p None = tt
leak table column p (Some row) = tt

module _ (x : Ctx) (opened : List ViewCol) (table : List ℕ) where
  chain : (p : Perm) (column : Option (List ℕ)) → IsOther (chain_fault x p opened table column)
  chain p column = leak table column p (bad_row (chain_stop x p opened table column))

  formula : (d : ViewCol) → IsOther (formula_fault table d)
  formula d = elim (is_hidden d) as (λ b. IsOther (cond b (Some (fault.HiddenFormula table d.id)) None)) [ true ↦ tt | false ↦ tt ]

  columns : (ds : List ViewCol) → IsOther (columns_fault x opened table ds)
  columns ds = each (column_fault x opened table) (λ d. either (chain_fault x perm.U opened table (Some d.id)) (formula_fault table d) (chain perm.U (Some d.id)) (formula d)) ds

  ruled : (t : ViewTable) → IsOther (or_fault (rows_fault x opened table) (columns_fault x opened table t.columns))
  ruled t =
      either (rows_fault x opened table) (columns_fault x opened table t.columns)
      (either (chain_fault x perm.C opened table None) (chain_fault x perm.D opened table None) (chain perm.C None) (chain perm.D None))
      (columns t.columns)

of_table : (x : Ctx) (t : ViewTable) → IsOther (table_fault x t)
unfolding table_fault
of_table x t = elim (is_metadata_id t.id) as (λ b. IsOther (cond b None (ruled_fault x (open_columns x t) t))) [ true ↦ tt | false ↦ ruled x (open_columns x t) t.id t ]

nothing : (o : Option Audit) → IsOther o → or_closed o ≡ fault.Closed → o ≡ None
nothing None h e = refl
nothing (Some f) h e = absurd (subst (λ (a : Audit). IsOther (Some a)) e h)

pub closed_answer : ClosedLaw
closed_answer x v = (λ e. nothing (tables_fault x v) (each (table_fault x) (of_table x) v) e, λ none. ap or_closed none)
