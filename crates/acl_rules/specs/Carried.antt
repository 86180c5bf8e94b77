-- What a rename makes of the rules that are in force: what they are about gets the new id, whether
-- or not anything has the old one. So a rename frees nothing from its rules.
use Rattle.std.specs.Prelude.{ℕ, Bool, true, false, cond, List, map, option_map, bytes_eq}
use Rattle.doc_model.specs.declared.action.DocAction.{DocAction}
use Rattle.doc_model.specs.declared.action.DocAction.TheVariants.{RenameTable, RenameColumn}
use Rattle.acl_rules.specs.declared.resource.Columns.{Columns}
use Rattle.acl_rules.specs.declared.resource.Columns.TheVariants as columns
use Rattle.acl_rules.specs.declared.resource.Resource.{Resource}
use Rattle.acl_rules.specs.declared.resource.Resource.TheVariants as resource
use Rattle.acl_rules.specs.RuleBook.{BookRule}

-- the new id in the place of the old one
abbrev pub moved_id : List ℕ → List ℕ → List ℕ → List ℕ
moved_id old new id = cond (bytes_eq id old) new id

-- the same of listed columns
abbrev pub moved_columns : List ℕ → List ℕ → Columns → Columns
moved_columns old new columns.All = columns.All
moved_columns old new (columns.These cs) = columns.These (map (moved_id old new) cs)

-- a resource after an action
abbrev pub moved : DocAction → Resource → Resource
moved (RenameTable table new) (resource.Table id cs) = resource.Table (moved_id table new id) cs
moved (RenameColumn table column new) (resource.Table id cs) =
    resource.Table id (cond (bytes_eq id table) (moved_columns column new cs) cs)
moved a r = r

-- a rule after an action; its formula stays
abbrev pub moved_rule : DocAction → BookRule → BookRule
moved_rule a b = record { rule = b.rule; resource = option_map (moved a) b.resource }

-- the rules after an action
abbrev pub carried : DocAction → List BookRule → List BookRule
carried a book = map (moved_rule a) book

-- whether it renames a table or a column; no other action moves a resource
abbrev pub is_rename : DocAction → Bool
is_rename (RenameTable table new) = true
is_rename (RenameColumn table column new) = true
is_rename a = false
