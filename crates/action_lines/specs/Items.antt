-- The items of an array, one after the other.
use Rattle.std.specs.Prelude.{◌≡◌, ℕ, List, [], ◌∷◌, ◌++◌, Bool, true, false, Option, Some, None, option_map, option_and_then}
use Rattle.serde_json.specs.Data.{Data, array, Items, no_items, item}
use Rattle.serde_json.specs.Find.{as_str, as_array}
use Rattle.action_lines.specs.Steps.{◌>>=◌}

-- the first item and the items after it
abbrev pub first_item : Items → Option (Data × Items)
first_item no_items = None
first_item (item d ds) = Some (d, ds)

-- the same, where it is a text
abbrev pub item_text : Items → Option (List ℕ × Items)
item_text ds = option_and_then (λ p. option_map (λ t. (t, p.1)) (as_str p.0)) (first_item ds)

-- no item is left
abbrev pub is_last : Items → Bool
is_last no_items = true
is_last (item d ds) = false

-- what all items are read as, behind what is done
abbrev pub all_onto : {X : Type 0} → (Data → Option X) → List X → Items → Option (List X)
all_onto from done no_items = Some done
all_onto from done (item d ds) = from d >>= λ x. all_onto from (done ++ x ∷ []) ds

-- what all items are read as
abbrev pub all_from : {X : Type 0} → (Data → Option X) → Items → Option (List X)
all_from from ds = all_onto from [] ds

-- the items stand for these things, one for each
abbrev pub AreAll : {X : Type 0} → (X → Data → Type 0) → List X → Items → Type 0
AreAll stands [] no_items = Unit {0}
AreAll stands [] (item d ds) = ⊥
AreAll stands (x ∷ xs) no_items = ⊥
AreAll stands (x ∷ xs) (item d ds) = stands x d × AreAll stands xs ds

-- the one item that there is
abbrev pub only_item : Items → Option Data
only_item no_items = None
only_item (item d no_items) = Some d
only_item (item d (item e ds)) = None

-- the two items that there are
abbrev pub two_items : Items → Option (Data × Data)
two_items no_items = None
two_items (item d no_items) = None
two_items (item d (item e no_items)) = Some (d, e)
two_items (item d (item e (item f ds))) = None

-- the one item that there is, where it is a text
unfoldable pub only_text : Items → Option (List ℕ)
only_text ds = only_item ds >>= λ d. as_str d

-- the two items that there are, where the first is a text
unfoldable pub text_beside : Items → Option (List ℕ × Data)
text_beside ds = two_items ds >>= λ two. as_str two.0 >>= λ t. Some (t, two.1)

-- one thing, or the things of an array
abbrev pub given_from : {X : Type 0} → (Data → Option X) → Bool → Data → Option (List X)
given_from from true d = from d >>= λ x. Some (x ∷ [])
given_from from false d = as_array d >>= λ ds. all_from from ds

-- the JSON stands for one thing, or is an array that stands for these things
abbrev pub AreGiven : {X : Type 0} → (X → Data → Type 0) → Bool → List X → Data → Type 0
AreGiven {X} stands true xs d = (x : X) × (xs ≡ x ∷ []) × stands x d
AreGiven stands false xs d = (ds : Items) × AreAll stands xs ds × (d ≡ array ds)
