-- What the texts of a resource say.
use Rattle.std.specs.Prelude.{ℕ, Bool, ◌&&◌, ◌==◌, cond, codes, List, [], ◌∷◌, length, nat_le, Option, Some, None, option_map, bytes_eq}
use Rattle.std.specs.Borrow.{Bor}
use Rattle.std.specs.List.{list_all}
use Rattle.cell_types.specs.NameRule.{is_name}
use Rattle.acl_rules.specs.declared.resource.Columns.{Columns}
use Rattle.acl_rules.specs.declared.resource.Columns.TheVariants as columns
use Rattle.acl_rules.specs.declared.resource.Resource.{Resource}
use Rattle.acl_rules.specs.declared.resource.Resource.TheVariants as resource

-- the character in front of the first part
abbrev pub put_first : ℕ → List (List ℕ) → List (List ℕ)
put_first c [] = (c ∷ []) ∷ []
put_first c (p ∷ ps) = (c ∷ p) ∷ ps

-- the parts of a text between its commas
abbrev pub parts_of : List ℕ → List (List ℕ)
parts_of [] = [] ∷ []
parts_of (c ∷ cs) = cond (c == 44) ([] ∷ parts_of cs) (put_first c (parts_of cs))

-- the same where there may be no text
abbrev pub parts_behind : Option (Bor (List ℕ)) → List (List ℕ)
parts_behind None = []
parts_behind (Some text) = parts_of text.now

-- whether these are names, and no more than 255
abbrev pub are_names : List (List ℕ) → Bool
are_names ps = nat_le (length ps) 255 && list_all is_name ps

-- which columns a text says
abbrev pub columns_of : List ℕ → Option Columns
columns_of text =
    cond (bytes_eq text (codes "*")) (Some columns.All)
    (cond (are_names (parts_of text)) (Some (columns.These (parts_of text))) None)

-- which resource two texts say: that of the table, and that of its columns
abbrev pub resource_of : List ℕ → List ℕ → Option Resource
resource_of table cs =
    cond (bytes_eq table (codes "*"))
    (cond (bytes_eq cs (codes "*")) (Some resource.Document) None)
    (cond (is_name table) (option_map (resource.Table table) (columns_of cs)) None)
