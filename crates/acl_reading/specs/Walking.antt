-- A part of a chain, walked by the places of its rules.
use Rattle.std.specs.Prelude.{ℕ, Bool, List, [], ◌∷◌, Option, Some, None, option_map}
use Rattle.std.specs.List.{list_any}
use Rattle.acl_formula.specs.Asked.{Asked}
use Rattle.acl_formula.specs.declared.permissions.Perm.TheVariants as perm
use Rattle.acl_formula.specs.declared.user_info.UserInfo.{UserInfo}
use Rattle.acl_rules.specs.Asking.{answer_at}
use Rattle.acl_rules.specs.Chain.{Part, rules_of}
use Rattle.acl_rules.specs.Places.{picked}
use Rattle.acl_rules.specs.RuleBook.{BookRule}
use Rattle.acl_reading.specs.Shown.{tells_of_reading}
use Rattle.acl_reading.specs.Walk.{allows, first_end}

-- an end, or else another
abbrev pub or_end : Option Bool → Option Bool → Option Bool
or_end None o = o
or_end (Some b) o = Some b

-- what the rule at a place says, where it is of the part and ends the walk
abbrev pub end_at : UserInfo → Part → List BookRule → ℕ → Option Bool
end_at u part book place = first_end u (rules_of part (picked book (place ∷ [])))

-- what the first rule at these places says that is of the part and ends the walk
abbrev pub end_among : UserInfo → Part → List BookRule → List ℕ → Option Bool
end_among u part book [] = None
end_among u part book (place ∷ places) =
    or_end (end_at u part book place) (end_among u part book places)

-- what the rule at a place decides of reading, where it is of the part
abbrev pub reads_at : Asked → Part → List BookRule → ℕ → Option Bool
reads_at x part book place = option_map allows (answer_at x perm.R part book place)

-- what the first rule at these places decides that is of the part
abbrev pub reads_among : Asked → Part → List BookRule → List ℕ → Option Bool
reads_among x part book [] = None
reads_among x part book (place ∷ places) =
    or_end (reads_at x part book place) (reads_among x part book places)

-- whether the rule at a place is of the part and says something of reading
abbrev pub tells_at : Part → List BookRule → ℕ → Bool
tells_at part book place = list_any tells_of_reading (rules_of part (picked book (place ∷ [])))
