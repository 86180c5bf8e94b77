-- A free id is there for each name.
use Rattle.std.specs.Prelude.{ℕ, true, List, ◌≡◌}
use Rattle.cell_types.specs.NameRule.{is_name}
use Rattle.name_rules.specs.FreeName.{AreFew, IsFresh}

-- what is made of a name is a name that is free. Beside more ids than `AreFew` says that fails in
-- the end: the number would leave no character of the name
abbrev pub FreshLaw : Type 0
FreshLaw =
    (taken : List (List ℕ)) (wanted : List ℕ) → AreFew taken → is_name wanted ≡ true
    → IsFresh taken wanted
