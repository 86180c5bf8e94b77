-- Renamed formulas of rules by their texts.
use Rattle.std.specs.Prelude.{ℕ, List, Some, ◌≡◌}
use Rattle.formula_parse.specs.Tree.{Tree}
use Rattle.acl_formula.specs.FormulaText.{formula_of}
use Rattle.rename_texts.specs.Marked.{marks}
use Rattle.rename_texts.specs.Renamed.{Rename, renamed}
use Rattle.rename_texts.specs.Rewriting.{rewritten_text}
use Rattle.rename_texts.specs.Texts.{IsRewritable}

-- what is written of the text of a rule is the renamed formula
abbrev pub RewrittenRuleLaw : Type 0
RewrittenRuleLaw = (x : Rename) (text : List ℕ) (t : Tree) → IsRewritable x text t
    → formula_of text ≡ Some (Some t)
    → formula_of (rewritten_text text (marks x t) x.new) ≡ Some (Some (renamed x t))
