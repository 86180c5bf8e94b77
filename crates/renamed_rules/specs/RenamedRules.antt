-- Rules that follow a column to its new name.
use Rattle.std.specs.Prelude.{List, [], ◌∷◌, map, Option, Some, None, option_map, ◌≡◌, ⊤}
use Rattle.std.specs.List.{AllByRecursion}
use Rattle.acl_rules.specs.declared.resource.Columns.TheVariants as columns
use Rattle.acl_rules.specs.declared.resource.Resource.{Resource}
use Rattle.acl_rules.specs.declared.resource.Resource.TheVariants as resource
use Rattle.acl_rules.specs.Carried.{moved as moved_by}
use Rattle.acl_rules.specs.RuleBook.{BookRule}
use Rattle.formula_parse.specs.Tree.{Tree}
use Rattle.formula_records.specs.declared.tables.RecordTables.{RecordTables}
use Rattle.formula_records.specs.declared.tables.RecordTables.TheVariants.{Any}
use Rattle.formula_records.specs.RecordTables.{IsIn, none, only}
use Rattle.rename_marks.specs.declared.column_rename.ColumnRename.{ColumnRename}
use Rattle.rename_marks.specs.declared.formula_place.AttributeTable.{AttributeTable}
use Rattle.rename_marks.specs.Scope.{Scope, in_rule, rename_in, tables_of}
use Rattle.rename_marks.specs.ScopeUses.{uses}
use Rattle.rename_marks.specs.Uses.{unresolved_among}
use Rattle.rename_texts.specs.Renamed.{renamed}
use Rattle.renamed_documents.specs.RenamingSteps.{naming}
use Rattle.renamed_values.specs.HeldRecords.{IsPlain}
use Rattle.renamed_values.specs.SameEv.{IsKept, moved}
use Rattle.user_attrs.specs.declared.attribute_rule.AttributeRule.{AttributeRule}

-- an attribute of users, its column by the new name
abbrev pub attribute_after : ColumnRename → AttributeRule → AttributeRule
attribute_after m a = record {
  name = a.name;
  table = a.table;
  column = moved m a.table a.column;
  property = a.property;
}

-- it finds its row by a column that is not the new one, of no metadata table
pub record AttributeKept (m : ColumnRename) (a : AttributeRule) : Type 0 where
  pub plain : IsPlain a.table
  pub kept : IsKept m a.table a.column

-- it finds its row in a table that is known for its name
abbrev pub IsListed : List AttributeTable → AttributeRule → Type 0
IsListed ts a = IsIn (tables_of ts a.name) a.table

-- whose rows a rule is asked about
abbrev pub rows_of : Option Resource → RecordTables
rows_of None = none
rows_of (Some (resource.Table id cs)) = only id
rows_of (Some resource.Document) = Any

abbrev pub scope_of : List AttributeTable → Option Resource → Scope
scope_of ts q = in_rule (rows_of q) ts

-- no column that a resource lists has the new name
abbrev pub ListsKept : ColumnRename → Option Resource → Type 0
ListsKept m (Some (resource.Table id (columns.These cs))) = AllByRecursion (IsKept m id) cs
ListsKept m q = ⊤

-- each use of a name in the formula of a rule can be resolved, and the other is that formula with
-- the names replaced; a text that is none, or empty, stays so
abbrev pub FormulaFollows : ColumnRename → Scope → Option (Option Tree) → Option (Option Tree)
    → Type 0
FormulaFollows m s None None = ⊤
FormulaFollows m s (Some None) (Some None) = ⊤
FormulaFollows m s (Some (Some t)) (Some (Some u)) =
    (unresolved_among m (uses s t) ≡ 0) × (u ≡ renamed (rename_in m s) t)
FormulaFollows m s f g = ⊥

-- the same of a rule that is about something; one about nothing is never asked
abbrev pub AskedFollows : ColumnRename → List AttributeTable → Option Resource
    → Option (Option Tree) → Option (Option Tree) → Type 0
AskedFollows m ts None f g = ⊤
AskedFollows m ts (Some q) f g = FormulaFollows m (scope_of ts (Some q)) f g

-- a rule, and the same rule after the rename
pub record RuleFollows (m : ColumnRename) (ts : List AttributeTable) (b c : BookRule)
    : Type 0 where
  pub row : c.rule.row ≡ b.rule.row
  pub permissions : c.rule.permissions ≡ b.rule.permissions
  pub resource : c.resource ≡ option_map (moved_by (naming m)) b.resource
  pub lists : ListsKept m b.resource
  pub formula : AskedFollows m ts b.resource b.rule.formula c.rule.formula

abbrev pub AllRulesFollow : ColumnRename → List AttributeTable → List BookRule → List BookRule
    → Type 0
AllRulesFollow m ts [] [] = ⊤
AllRulesFollow m ts (b ∷ bs) (c ∷ cs) = RuleFollows m ts b c × AllRulesFollow m ts bs cs
AllRulesFollow m ts bs cs = ⊥

-- rules and attributes, and those after the rename
pub record RulesFollow (m : ColumnRename) (as' bs : List AttributeRule)
    (book after : List BookRule) : Type 0 where
  pub tables : List AttributeTable
  pub attributes : bs ≡ map (attribute_after m) as'
  pub kept : AllByRecursion (AttributeKept m) as'
  pub listed : AllByRecursion (IsListed tables) as'
  pub rules : AllRulesFollow m tables book after
