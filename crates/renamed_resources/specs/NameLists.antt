-- Names with commas between them.
use Rattle.std.specs.Prelude.{ℕ, Bool, ◌&&◌, ◌==◌, cond, codes, List, [], ◌∷◌, ◌++◌, length, nat_le, Option, Some, None}
use Rattle.std.specs.Borrow.{Bor}
use Rattle.std.specs.List.{list_all}
use Rattle.cell_types.specs.NameRule.{is_name}

-- the character in front of the first part
abbrev pub put_first : ℕ → List (List ℕ) → List (List ℕ)
put_first c [] = (c ∷ []) ∷ []
put_first c (p ∷ ps) = (c ∷ p) ∷ ps

-- the parts of a text between its commas
abbrev pub parts_of : List ℕ → List (List ℕ)
parts_of [] = [] ∷ []
parts_of (c ∷ cs) = cond (c == 44) ([] ∷ parts_of cs) (put_first c (parts_of cs))

-- the same where there may be no text
abbrev pub parts_behind : Option (Bor (List ℕ)) → List (List ℕ)
parts_behind None = []
parts_behind (Some text) = parts_of text.now

-- whether these are names, and no more than 255
abbrev pub are_names : List (List ℕ) → Bool
are_names ps = nat_le (length ps) 255 && list_all is_name ps

-- the names that a text lists, if it is such a list
abbrev pub names_of : List ℕ → Option (List (List ℕ))
names_of text = cond (are_names (parts_of text)) (Some (parts_of text)) None

-- names as a text lists them
abbrev pub behind_commas : List (List ℕ) → List ℕ
behind_commas [] = []
behind_commas (n ∷ names) = codes "," ++ n ++ behind_commas names

abbrev pub joined : List (List ℕ) → List ℕ
joined [] = []
joined (n ∷ names) = n ++ behind_commas names
