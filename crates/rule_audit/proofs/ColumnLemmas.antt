-- Columns that pass, one after the other.
use Rattle.std.proofs.Common.{◌≡◌, ◌∙◌, ap, refl, sym, ℕ, suc, zero, ◌+◌, ◌<◌, Bool, true, false, cond, List, [], ◌∷◌, ◌++◌, filter, get_or, length, take, append_assoc, arith}
use Rattle.std.proofs.lemmas.List.{take_more}

module _ {X : Type 0} (p : X → Bool) where
  both : (xs ys : List X) → filter p (xs ++ ys) ≡ filter p xs ++ filter p ys
  both [] ys = refl
  both (x ∷ xs) ys =
      elim (p x) as (λ b. cond b (x ∷ filter p (xs ++ ys)) (filter p (xs ++ ys)) ≡ cond b (x ∷ filter p xs) (filter p xs) ++ filter p ys) [
        | true ↦ ap (λ l. x ∷ l) (both xs ys)
        | false ↦ both xs ys
      ]

  -- one thing more, where it passes
  pub one_more : (xs : List X) (i : ℕ) (x : X) (old new : List X) → i < length xs → x ≡ get_or xs i x → old ≡ filter p (take i xs) → new ≡ old ++ cond (p x) (x ∷ []) [] → new ≡ filter p (take (i + 1) xs)
  one_more xs i x old new lt is so_far more =
      more
      ∙ ap (λ l. l ++ cond (p x) (x ∷ []) []) so_far
      ∙ ap (λ y. filter p (take i xs) ++ cond (p y) (y ∷ []) []) is
      ∙ sym (both (take i xs) (get_or xs i x ∷ []))
      ∙ ap (filter p) (sym (take_more xs i x lt))
