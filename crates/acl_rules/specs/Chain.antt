-- The chain of a column, of a table or of the document: its rules in the order in which they are
-- asked.
use Rattle.std.specs.Prelude.{ℕ, Bool, true, false, ◌&&◌, List, ◌++◌, filter, Option, Some, None, bytes_eq}
use Rattle.std.specs.List.{list_any}
use Rattle.acl_rules.specs.declared.resource.Columns.{Columns}
use Rattle.acl_rules.specs.declared.resource.Columns.TheVariants as columns
use Rattle.acl_rules.specs.declared.resource.Part as code
use Rattle.acl_rules.specs.declared.resource.Part.TheVariants as part
use Rattle.acl_rules.specs.declared.resource.Resource.{Resource}
use Rattle.acl_rules.specs.declared.resource.Resource.TheVariants as resource
use Rattle.acl_rules.specs.RuleBook.{BookRule}

-- whether the columns are listed, and this is one of them
abbrev pub names_column : Columns → List ℕ → Bool
names_column columns.All c = false
names_column (columns.These cs) c = list_any (λ d. bytes_eq d c) cs

-- whether it is all columns, none listed
abbrev pub are_all : Columns → Bool
are_all columns.All = true
are_all (columns.These cs) = false

-- a part of a chain: the rules of a column of a table, of a whole table, of the document
pub data Part : Type 0 where
  of_column : List ℕ → List ℕ → Part
  of_table : List ℕ → Part
  of_document : Part

-- whether a rule about this is of the part; a rule about nothing is of none
abbrev pub is_of : Part → Option Resource → Bool
is_of p None = false
is_of (of_column t c) (Some (resource.Table id cs)) = bytes_eq id t && names_column cs c
is_of (of_column t c) (Some resource.Document) = false
is_of (of_table t) (Some (resource.Table id cs)) = bytes_eq id t && are_all cs
is_of (of_table t) (Some resource.Document) = false
is_of of_document (Some (resource.Table id cs)) = false
is_of of_document (Some resource.Document) = true

-- whether it is about the table or columns of it
abbrev pub is_on : List ℕ → Option Resource → Bool
is_on t (Some (resource.Table id cs)) = bytes_eq id t
is_on t _ = false

-- the rules of a part, in their order
abbrev pub rules_of : Part → List BookRule → List BookRule
rules_of p book = filter (λ (b : BookRule). is_of p b.resource) book

-- the document's chain, a table's, and a column's
abbrev pub chain_of : List BookRule → Option (List ℕ) → Option (List ℕ) → List BookRule
chain_of book None c = rules_of of_document book
chain_of book (Some t) None = rules_of (of_table t) book ++ rules_of of_document book
chain_of book (Some t) (Some c) =
    rules_of (of_column t c) book ++ (rules_of (of_table t) book ++ rules_of of_document book)

-- the same part, as the code names it
abbrev pub part_in : code.Part → Part
part_in (part.Column t c) = of_column t.now c.now
part_in (part.Table t) = of_table t.now
part_in part.Document = of_document
