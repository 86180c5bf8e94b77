-- A walk over a list, a value for each element.
use Rattle.std.proofs.Common.{ℕ, ◌+◌, ◌<◌, List, [], ◌∷◌, ◌++◌, map, length, take, get_or, ◌≡◌, sym, ap, ◌∙◌}
use Rattle.std.proofs.lemmas.List.{map_more}

-- one more value beside one more element
pub map_step : {X Y : Type 0} (f : X → Y) (xs : List X) (i : ℕ) (x : X) (ys zs : List Y) (y : Y) → i < length xs → x ≡ get_or xs i x → ys ≡ map f (take i xs) → zs ≡ ys ++ y ∷ [] → y ≡ f x → zs ≡ map f (take (i + 1) xs)
map_step f xs i x ys zs y l e h p q = p ∙ ap (λ l. l ++ y ∷ []) h ∙ ap (λ v. map f (take i xs) ++ v ∷ []) (q ∙ ap f e) ∙ sym (map_more f xs i x l)
