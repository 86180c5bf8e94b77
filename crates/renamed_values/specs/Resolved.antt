-- Formulas in which each use of a name can be resolved.
use Rattle.std.specs.Prelude.{ℕ, List, ◌≡◌}
use Rattle.formula_parse.specs.Tree.{Tree}
use Rattle.formula_records.specs.Recs.{Columns}
use Rattle.rename_marks.specs.declared.column_rename.ColumnRename.{ColumnRename}
use Rattle.rename_marks.specs.Scope.{in_column, rename_in}
use Rattle.rename_marks.specs.ScopeUses.{uses}
use Rattle.rename_marks.specs.Uses.{unresolved_among}
use Rattle.rename_texts.specs.Laws.{IsFree}
use Rattle.renamed_values.specs.SameEv.{AllFit}

-- each name is replaced as it has to be, and in a lookup in which keys are replaced none has the
-- new name
abbrev pub ResolvedLaw : Type 0
ResolvedLaw = (m : ColumnRename) (k : Columns) (own : List ℕ) (t : Tree)
    → unresolved_among m (uses (in_column k own) t) ≡ 0
    → AllFit m (rename_in m (in_column k own)) k own t × IsFree (rename_in m (in_column k own)) t
