-- What an audit says: the first thing by which a verdict may tell more than the view.
use Rattle.std.specs.Prelude.{ℕ, Bool, true, false, cond, ◌&&◌, List, [], ◌∷◌, Option, Some, None, ◌≡◌}
use Rattle.doc_model.specs.declared.view.ViewCol.{ViewCol}
use Rattle.doc_model.specs.declared.view.ViewTable.{ViewTable}
use Rattle.doc_model.specs.MetadataIds.{is_metadata_id}
use Rattle.acl_formula.specs.declared.permissions.Perm.{Perm}
use Rattle.acl_formula.specs.declared.permissions.Perm.TheVariants as perm
use Rattle.acl_rules.specs.declared.decision.Ctx.{Ctx}
use Rattle.acl_rules.specs.Chain.{chain_of}
use Rattle.rule_audit.specs.declared.faults.Audit.{Audit}
use Rattle.rule_audit.specs.declared.faults.Audit.TheVariants as fault
use Rattle.rule_audit.specs.declared.stop.Stop.{Stop}
use Rattle.rule_audit.specs.Open.{open_columns}
use Rattle.rule_audit.specs.Reached.{is_safe, reach_stop}
use Rattle.rule_audit.specs.Stops.{bad_row, first_stop}

-- a fault, or else another
abbrev pub or_fault : Option Audit → Option Audit → Option Audit
or_fault None o = o
or_fault (Some f) o = Some f

-- the first fault of these
abbrev pub first_fault : {X : Type 0} → (X → Option Audit) → List X → Option Audit
first_fault f [] = None
first_fault f (x ∷ xs) = or_fault (f x) (first_fault f xs)

-- the leak by the rule in that row
abbrev pub leak_of : List ℕ → Option (List ℕ) → Perm → Option ℕ → Option Audit
leak_of table column p None = None
leak_of table column p (Some row) = Some (fault.Leak table column p row)

-- how the walk of a chain stops over the rules that are reached for the permission
abbrev pub chain_stop : Ctx → Perm → List ViewCol → List ℕ → Option (List ℕ) → Option Stop
chain_stop x p opened table column =
    first_stop (reach_stop x.user p (is_safe p opened)) (chain_of x.book (Some table) column)

-- the first rule of a chain that is reached and mentions what is not safe
abbrev pub chain_fault : Ctx → Perm → List ViewCol → List ℕ → Option (List ℕ) → Option Audit
chain_fault x p opened table column =
    leak_of table column p (bad_row (chain_stop x p opened table column))

-- whether the formula of a shown column is hidden
abbrev pub is_hidden : ViewCol → Bool
is_hidden d = d.is_formula && elim d.formula [ None ↦ true | Some text ↦ false ]

abbrev pub formula_fault : List ℕ → ViewCol → Option Audit
formula_fault table d = cond (is_hidden d) (Some (fault.HiddenFormula table d.id)) None

-- changes of the column's cells, then its formula
abbrev pub column_fault : Ctx → List ViewCol → List ℕ → ViewCol → Option Audit
column_fault x opened table d =
    or_fault (chain_fault x perm.U opened table (Some d.id)) (formula_fault table d)

-- the columns by id
abbrev pub columns_fault : Ctx → List ViewCol → List ℕ → List ViewCol → Option Audit
columns_fault x opened table ds = first_fault (column_fault x opened table) ds

-- new rows, then rows that go
abbrev pub rows_fault : Ctx → List ViewCol → List ℕ → Option Audit
rows_fault x opened table =
    or_fault (chain_fault x perm.C opened table None) (chain_fault x perm.D opened table None)

-- by the open columns: the rows, then the columns
abbrev pub ruled_fault : Ctx → List ViewCol → ViewTable → Option Audit
ruled_fault x opened t =
    or_fault (rows_fault x opened t.id) (columns_fault x opened t.id t.columns)

-- the document's own tables have none
unfoldable pub table_fault : Ctx → ViewTable → Option Audit
table_fault x t = cond (is_metadata_id t.id) None (ruled_fault x (open_columns x t) t)

-- the tables by id
abbrev pub tables_fault : Ctx → List ViewTable → Option Audit
tables_fault x v = first_fault (table_fault x) v

abbrev pub or_closed : Option Audit → Audit
or_closed None = fault.Closed
or_closed (Some f) = f

-- of a context and what it shows
abbrev pub audit : Ctx → List ViewTable → Audit
audit x v = or_closed (tables_fault x v)

-- verdicts tell no more than the view
abbrev pub IsClosed : Ctx → List ViewTable → Type 0
IsClosed x v = tables_fault x v ≡ None
