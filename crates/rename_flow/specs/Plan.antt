-- The plan of a rename through formulas and rules, by a view.
use Rattle.std.specs.Prelude.{ℕ, Bool, ◌||◌, cond, List, [], ◌∷◌, ◌++◌, is_some, bytes_eq}
use Rattle.doc_model.specs.declared.user_action.UserAction.TheVariants.{RenameColumn}
use Rattle.doc_model.specs.declared.view.ViewTable.{ViewTable}
use Rattle.formula_parse.specs.declared.operator.LookupKind.TheVariants as look
use Rattle.formula_parse.specs.Grammar.{all_word, lookup_word}
use Rattle.formula_records.specs.ShownColumns.{shown_column}
use Rattle.rename_marks.specs.declared.column_rename.ColumnRename.{ColumnRename}
use Rattle.rename_flow.specs.declared.rename_plan.RenamePlan.{RenamePlan}
use Rattle.rename_flow.specs.ColumnParts.{column_parts}
use Rattle.rename_flow.specs.Parts.{Part, count_where, with_parts}
use Rattle.rename_flow.specs.RuleParts.{attributes_part, formulas_part, resources_part}
use Rattle.rename_flow.specs.ShownRules.{abouts_in, attributes_in, resource_rows, rule_rows}

-- the rename alone, with nothing unresolved
abbrev pub bare_plan : ColumnRename → RenamePlan
bare_plan r = record { actions = RenameColumn r.table r.old r.new ∷ []; unresolved = 0 }

-- whether the view shows a column of the table
abbrev pub is_shown : List ViewTable → List ℕ → List ℕ → Bool
is_shown v t c = is_some (shown_column v t c)

-- the words behind a table's name in a formula
abbrev pub is_table_word : List ℕ → Bool
is_table_word n =
    bytes_eq n all_word
    || (bytes_eq n (lookup_word look.Records) || bytes_eq n (lookup_word look.One))

-- the new name must be free, and neither name one of those words
abbrev pub name_parts : List ViewTable → ColumnRename → List Part
name_parts v r =
    count_where (is_shown v r.table r.new)
    ∷ (count_where (is_table_word r.old) ∷ (count_where (is_table_word r.new) ∷ []))

-- the rules that the view shows
abbrev pub rule_parts : List ViewTable → ColumnRename → List Part
rule_parts v r =
    formulas_part r (abouts_in (resource_rows v)) (attributes_in (rule_rows v)) (rule_rows v)
    ∷ (attributes_part r (rule_rows v) ∷ (resources_part r (resource_rows v) ∷ []))

-- the rename, then formulas, then rules
abbrev pub whole_plan : List ViewTable → ColumnRename → RenamePlan
whole_plan v r =
    with_parts (bare_plan r) (column_parts v r v ++ (rule_parts v r ++ name_parts v r))

-- where the view does not show the column it is the rename alone
abbrev pub plan_of : List ViewTable → ColumnRename → RenamePlan
plan_of v r = cond (is_shown v r.table r.old) (whole_plan v r) (bare_plan r)
