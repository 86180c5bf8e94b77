-- Rows of two documents that are the same in what is safe.
use Rattle.std.specs.Prelude.{ℕ, true, List, [], ◌∷◌, ◌≡◌}
use Rattle.doc_model.specs.declared.view.ViewCol.{ViewCol}
use Rattle.doc_model.specs.Document.{Document}
use Rattle.acl_formula.specs.RuleRow.{RuleRow}
use Rattle.acl_formula.specs.declared.permissions.Perm.{Perm}
use Rattle.acl_formula.specs.declared.permissions.Perm.TheVariants as perm
use Rattle.acl_checks.specs.Checks.{row_at}
use Rattle.rule_audit.specs.Reached.{has_open, is_column_safe}

-- two rows with one id where a column is open, and with the same cells in columns that are safe
pub record AreAlike (p : Perm) (opened : List ViewCol) (a b : RuleRow) : Type 0 where
  pub ids : has_open opened ≡ true → a.id ≡ b.id
  pub cells : (c : List ℕ) → is_column_safe p opened c ≡ true → a.cell c ≡ b.cell c

-- rows of a table in one document, and as many in another, each like its counterpart
abbrev pub AreAllAlike : List ViewCol → List ℕ → Document → Document → List ℕ → List ℕ → Type 0
AreAllAlike opened table s t [] [] = Unit {0}
AreAllAlike opened table s t (r ∷ rows) (q ∷ others) =
    AreAlike perm.U opened (row_at s table r) (row_at t table q)
    × AreAllAlike opened table s t rows others
AreAllAlike opened table s t rows others = ⊥
