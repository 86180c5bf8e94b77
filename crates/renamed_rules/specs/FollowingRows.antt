-- Rows of rules that follow a column to its new name.
use Rattle.std.specs.Prelude.{ℕ, codes, List, Option, Some, None, option_map, ◌≡◌, ⊤}
use Rattle.std.specs.List.{AllByRecursion}
use Rattle.acl_rules.specs.Carried.{moved as moved_by}
use Rattle.acl_rules.specs.Loaded.{book_of, place_of, resource_named, rule_cell, rule_in, rule_rows}
use Rattle.doc_model.specs.Document.{Document}
use Rattle.rename_marks.specs.declared.column_rename.ColumnRename.{ColumnRename}
use Rattle.rename_marks.specs.declared.formula_place.AttributeTable.{AttributeTable}
use Rattle.renamed_documents.specs.RenamingSteps.{naming}
use Rattle.user_attrs.specs.Attributes.{attribute_at, attributes_of}
use Rattle.user_attrs.specs.declared.attribute_rule.AttributeRule.{AttributeRule}
use Rattle.renamed_rules.specs.RenamedRules.{AskedFollows, AttributeKept, IsListed, ListsKept, RulesFollow, attribute_after}

-- an attribute that a row may say
abbrev pub MayFollow : ColumnRename → List AttributeTable → Option AttributeRule → Type 0
MayFollow m ts None = ⊤
MayFollow m ts (Some a) = AttributeKept m a × IsListed ts a

-- what a row of the table of rules says in each of two documents
pub record RowFollows (m : ColumnRename) (ts : List AttributeTable) (s s' : Document)
    (r : ℕ) : Type 0 where
  pub resource : resource_named s' r ≡ option_map (moved_by (naming m)) (resource_named s r)
  pub lists : ListsKept m (resource_named s r)
  pub permissions :
      rule_cell s' (codes "permissionsText") r ≡ rule_cell s (codes "permissionsText") r
  pub formula : AskedFollows m ts (resource_named s r) (rule_in s r).formula (rule_in s' r).formula
  pub attribute : attribute_at s' r ≡ option_map (attribute_after m) (attribute_at s r)
  pub kept : MayFollow m ts (attribute_at s r)

-- the same rows in the same places, each of which follows
pub record RowsFollow (m : ColumnRename) (ts : List AttributeTable) (s s' : Document)
    : Type 0 where
  pub rows : rule_rows s' ≡ rule_rows s
  pub places : (r : ℕ) → place_of s' r ≡ place_of s r
  pub each : AllByRecursion (RowFollows m ts s s') (rule_rows s)

-- then so do the rules of the documents
abbrev pub FollowingRowsLaw : Type 0
FollowingRowsLaw = (m : ColumnRename) (ts : List AttributeTable) (s s' : Document)
    → RowsFollow m ts s s'
    → RulesFollow m (attributes_of s) (attributes_of s') (book_of s) (book_of s')
