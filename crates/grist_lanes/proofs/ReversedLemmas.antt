-- Lists that were taken from their ends.
use Rattle.std.proofs.Common.{◌≡◌, List, [], ◌∷◌, ◌++◌, map, reverse, refl, sym, ap, ◌∙◌}
use Rattle.std.proofs.lemmas.List.{map-append, reverse-append, reverse-reverse}

module _ {A B : Type 0} (f : A → B) where
  map-reverse : (xs : List A) → map f (reverse xs) ≡ reverse (map f xs)
  map-reverse [] = refl
  map-reverse (x ∷ xs) =
      ap (map f) (reverse-append (x ∷ []) xs)
      ∙ map-append f (reverse xs) (x ∷ [])
      ∙ ap (λ ys. ys ++ f x ∷ []) (map-reverse xs)
      ∙ sym (reverse-append (f x ∷ []) (map f xs))

  -- all were taken, the last first
  pub all_taken : (xs : List A) (left all : List B) → left ≡ [] → left ++ reverse (map f xs) ≡ all → map f (reverse xs) ≡ all
  all_taken xs left all none e = map-reverse xs ∙ ap (λ ys. ys ++ reverse (map f xs)) (sym none) ∙ e

  -- none was put back yet
  pub none_put : (xs : List A) (back : List B) → back ≡ [] → back ++ reverse (map f (reverse xs)) ≡ map f xs
  none_put xs back none =
      ap (λ ys. ys ++ reverse (map f (reverse xs))) none
      ∙ ap reverse (map-reverse xs)
      ∙ reverse-reverse (map f xs)
