-- Lists of columns in which one has a new name.
use Rattle.std.specs.Prelude.{ℕ, true, List, option_map, ◌≡◌}
use Rattle.std.specs.Str.{IsUtf8}
use Rattle.acl_rules.specs.Carried.{moved_columns}
use Rattle.acl_rules.specs.RuleTexts.{columns_of}
use Rattle.cell_types.specs.NameRule.{is_name}
use Rattle.renamed_resources.specs.NameLists.{names_of}
use Rattle.renamed_resources.specs.Renamed.{list_renamed}

-- the text of columns that a rename leaves says those that it said, under the new name
abbrev pub RenamedListLaw : Type 0
RenamedListLaw = (old new t : List ℕ) → is_name new ≡ true → IsUtf8 new → IsUtf8 t
    → columns_of (list_renamed old new t (names_of t))
    ≡ option_map (moved_columns old new) (columns_of t)
