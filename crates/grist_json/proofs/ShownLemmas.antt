-- A loop that shows things as JSON, one a round.
use Rattle.std.proofs.Common.{◌≡◌, ℕ, ◌+◌, ◌<◌, ◌≤◌, List, [], ◌∷◌, ◌++◌, map, length, take, get_or, Vec, Global, sym, ap, ◌∙◌}
use Rattle.std.proofs.lemmas.List.{map-append, map_more, take_all}
use Rattle.serde_json.specs.Data.{Data, array}
use Rattle.serde_json.specs.View.{view, items_of}
use Rattle.serde_json.specs.declared.value.Value.{Value, Array}
use Rattle.serde_json.proofs.Views.{view-Array}
use Rattle.grist_json.specs.Values.{array_of}

-- one more value, the JSON of one more thing
pub shown_step : {X : Type 0} (f : X → Data) (xs : List X) (i : ℕ) (x : X) (old new : List Value) (v : Value) → i < length xs → map view old ≡ map f (take i xs) → new ≡ old ++ v ∷ [] → view v ≡ f (get_or xs i x) → map view new ≡ map f (take (i + 1) xs)
shown_step f xs i x old new v l h p q =
    ap (map view) p ∙ map-append view old (v ∷ []) ∙ ap (λ ds. ds ++ view v ∷ []) h ∙ ap (λ d. map f (take i xs) ++ d ∷ []) q ∙ sym (map_more f xs i x l)

-- the same after a mark
pub marked_step : {X : Type 0} (mark : Data) (f : X → Data) (xs : List X) (i : ℕ) (x : X) (old new : List Value) (v : Value) → i < length xs → map view old ≡ mark ∷ map f (take i xs) → new ≡ old ++ v ∷ [] → view v ≡ f (get_or xs i x) → map view new ≡ mark ∷ map f (take (i + 1) xs)
marked_step mark f xs i x old new v l h p q =
    ap (map view) p ∙ map-append view old (v ∷ []) ∙ ap (λ ds. ds ++ view v ∷ []) h ∙ ap (λ d. mark ∷ (map f (take i xs) ++ d ∷ [])) q ∙ ap (λ ds. mark ∷ ds) (sym (map_more f xs i x l))

-- after the last round
pub shown_all : {X : Type 0} (f : X → Data) (xs : List X) (i : ℕ) (v : Vec Value Global) → length xs ≤ i → map view v.items ≡ map f (take i xs) → view (Array v) ≡ array_of f xs
shown_all f xs i v l h = view-Array v ∙ ap (λ ds. array (items_of ds)) (h ∙ ap (map f) (take_all i xs l))

pub marked_all : {X : Type 0} (mark : Data) (f : X → Data) (xs : List X) (i : ℕ) (v : Vec Value Global) → length xs ≤ i → map view v.items ≡ mark ∷ map f (take i xs) → view (Array v) ≡ array (items_of (mark ∷ map f xs))
marked_all mark f xs i v l h = view-Array v ∙ ap (λ ds. array (items_of ds)) (h ∙ ap (λ ys. mark ∷ map f ys) (take_all i xs l))
