use Rattle.std.proofs.Common.{◌≡◌, ◌++◌, true, length}
use Rattle.std.specs.List.{list_all}
use denote.Shadow.{shadow}
use denote.Text.{Utf8}
use Rattle.cell_types.specs.NameRule.{is_name}
use Rattle.renamed_resources.specs.NameLists.{parts_of}
use Rattle.renamed_resources.proofs.name_lists.names_in.Given as goal

-- the names that were read stand before the parts of the rest
abbrev pub invariant-loop-count : goal.invariant-loop-count
invariant-loop-count l =
    (parts_of l.text ≡ l.names ++ parts_of l.rest) × (list_all is_name l.names ≡ true) × (length l.names ≡ l._count) × shadow (Utf8 l.rest)
