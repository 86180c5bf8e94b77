-- What the rename of a column makes of the text of a formula.
use Rattle.std.specs.Prelude.{ℕ, ◌+◌, Bool, cond, nat_le, List, length, Option, Some, None}
use Rattle.std.specs.List.{list_any}
use Rattle.formula_parse.specs.FormulaOf.{formula_of}
use Rattle.formula_parse.specs.Spelling.{max_bytes}
use Rattle.formula_parse.specs.Tree.{Tree}
use Rattle.acl_formula.specs.FormulaText.{formula_of as rule_formula_of}
use Rattle.rename_texts.specs.Marked.{marks}
use Rattle.rename_texts.specs.Rewriting.{rewritten_text}
use Rattle.rename_marks.specs.declared.column_rename.ColumnRename.{ColumnRename}
use Rattle.rename_marks.specs.Noted.{capped}
use Rattle.rename_marks.specs.Scope.{Scope, rename_in}
use Rattle.rename_marks.specs.ScopeUses.{uses}
use Rattle.rename_marks.specs.Uses.{unresolved_among}
use Rattle.rename_flow.specs.declared.text_change.TextChange.{TextChange}

-- a text that stays, with uses that cannot be resolved
abbrev pub kept : ℕ → TextChange
kept n = record { text = None; unresolved = n }

-- another text; one that is too long for a formula counts
abbrev pub rewritten : List ℕ → ℕ → TextChange
rewritten text n = record {
  text = Some text;
  unresolved = cond (nat_le (length text) max_bytes) n (capped (n + 1));
}

-- another text where a name is replaced
abbrev pub by_marks : ColumnRename → List ℕ → List Bool → ℕ → TextChange
by_marks r text ms n =
    cond (list_any (λ m. m) ms) (rewritten (rewritten_text text ms r.new) n) (kept n)

-- the change of a text with its tree
abbrev pub tree_change : ColumnRename → Scope → List ℕ → Tree → TextChange
tree_change r s text t =
    by_marks r text (marks (rename_in r s) t) (capped (unresolved_among r (uses s t)))

-- the same where there may be no tree: then it stays
abbrev pub maybe_change : ColumnRename → Scope → List ℕ → Option Tree → TextChange
maybe_change r s text None = kept 0
maybe_change r s text (Some t) = tree_change r s text t

-- the formula of a column; one that is hidden counts
abbrev pub formula_change : ColumnRename → Scope → Option (List ℕ) → TextChange
formula_change r s None = kept 1
formula_change r s (Some text) = maybe_change r s text (formula_of text)

-- the formula of a rule
abbrev pub rule_tree : List ℕ → Option Tree
rule_tree text = elim (rule_formula_of text) [ None ↦ None | Some o ↦ o ]

abbrev pub rule_change : ColumnRename → Scope → List ℕ → TextChange
rule_change r s text = maybe_change r s text (rule_tree text)
