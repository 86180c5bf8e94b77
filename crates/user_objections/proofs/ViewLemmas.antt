-- What is found in a list.
use Rattle.std.proofs.Common.{Bool, true, false, cond, List, [], ◌∷◌, ◌≡◌, refl, sym, ap, ◌∙◌, Some, find, filter}
use Rattle.std.proofs.lemmas.Bool.{true≢false}
use Rattle.doc_model.proofs.Choices.{false_from}

-- what a test finds is found among what passes a wider one
pub find_kept : {X : Type 0} (p q : X → Bool) (xs : List X) → ((x : X) → p x ≡ true → q x ≡ true) → find p (filter q xs) ≡ find p xs
find_kept p q [] wider = refl
find_kept p q (y ∷ ys) wider =
    elim (q y) as (λ b. q y ≡ b → find p (cond b (y ∷ filter q ys) (filter q ys)) ≡ cond (p y) (Some y) (find p ys)) [
      | true ↦ λ _. ap (λ o. cond (p y) (Some y) o) (find_kept p q ys wider)
      | false ↦ λ no. find_kept p q ys wider ∙ sym (ap (λ b. cond b (Some y) (find p ys)) (false_from (p y) (λ is. true≢false (sym (wider y is) ∙ no))))
    ] refl
