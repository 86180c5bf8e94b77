-- Where things stand in a list, counted from 0.
use Rattle.std.specs.Prelude.{ℕ, suc, Bool, cond, List, [], ◌∷◌, Option, Some, None, Vec, String, slice_get}
use Rattle.std.specs.Global.{Global}
use Rattle.std.specs.BTreeMap.{BTreeMap, get_by_text}
use Rattle.std.specs.List.{filter_map}

-- the places of those that pass, where the first one stands at n
abbrev pub places_from : {X : Type 0} → (X → Bool) → ℕ → List X → List ℕ
places_from f n [] = []
places_from f n (x ∷ xs) = cond (f x) (n ∷ places_from f (suc n) xs) (places_from f (suc n) xs)

-- the places of those that pass
abbrev pub places_of : {X : Type 0} → (X → Bool) → List X → List ℕ
places_of f xs = places_from f 0 xs

-- those that stand at the places
abbrev pub picked : {X : Type 0} → List X → List ℕ → List X
picked xs places = filter_map (slice_get xs) places

-- the places of a vector that may be missing
abbrev pub listed : Option (Vec ℕ Global) → List ℕ
listed None = []
listed (Some places) = places.items

-- the places that are noted for a text
abbrev pub places_in : BTreeMap (String Global) (Vec ℕ Global) → List ℕ → List ℕ
places_in noted text = listed (get_by_text noted text)
