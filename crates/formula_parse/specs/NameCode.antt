-- Names as trees of numbers, and back.
use Rattle.std.specs.Prelude.{ℕ, ◌≡◌, List, [], ◌∷◌, refl}
use Rattle.std.proofs.Common.{ap}
use base.Stored.{Gv, gnil, gnum, gcons, num}

-- the code of a name
abbrev pub name_code : List ℕ → Gv
name_code [] = gnil
name_code (n ∷ ns) = gcons (gnum n) (name_code ns)

-- the name of a code
abbrev pub name_in : Gv → List ℕ
name_in gnil = []
name_in (gnum n) = []
name_in (gcons a b) = num a ∷ name_in b

-- which is the one that has it
pub name_back : (ns : List ℕ) → name_in (name_code ns) ≡ ns
name_back [] = refl
name_back (n ∷ ns) = ap (λ m. n ∷ m) (name_back ns)

-- the first part of a pair
abbrev pub left_of : Gv → Gv
left_of gnil = gnil
left_of (gnum n) = gnil
left_of (gcons a b) = a

-- the second part of a pair
abbrev pub right_of : Gv → Gv
right_of gnil = gnil
right_of (gnum n) = gnil
right_of (gcons a b) = b
