-- Lists that are pushed together, one thing after the other.
use Rattle.std.proofs.Common.{ℕ, zero, suc, ◌<◌, List, [], ◌∷◌, ◌++◌, drop, length, get_or, slice_get, ◌≡◌, refl, sym, ap, ◌∙◌, Some, None, arith}
use Rattle.std.proofs.lemmas.List.{append_assoc, append-nil}

pub drop_there : {X : Type 0} (xs : List X) (i : ℕ) (x : X) → slice_get xs i ≡ Some x → drop i xs ≡ x ∷ drop (suc i) xs
drop_there [] i x h = absurd (cc)
drop_there (y ∷ ys) zero x h = let same : y ≡ x = cc in ap (λ z. z ∷ ys) same
drop_there (y ∷ ys) (suc i) x h = drop_there ys i x h

drop_got : {X : Type 0} (xs : List X) (i : ℕ) (x : X) → i < length xs → x ≡ get_or xs i x → drop i xs ≡ x ∷ drop (suc i) xs
drop_got [] i x l h = absurd (omega arith)
drop_got (y ∷ ys) zero x l h = ap (λ z. z ∷ ys) (sym h)
drop_got (y ∷ ys) (suc i) x l h = drop_got ys i x (omega arith) h

pub drop_past : {X : Type 0} (xs : List X) (i : ℕ) → slice_get xs i ≡ None → drop i xs ≡ []
drop_past [] zero h = refl
drop_past [] (suc i) h = refl
drop_past (x ∷ xs) zero h = absurd (cc)
drop_past (x ∷ xs) (suc i) h = drop_past xs i h

-- flat is what things come to, one after the other
module _ {X R : Type 0} (flat : List X → List R) (of : X → List R) (step : (x : X) (xs : List X) → flat (x ∷ xs) ≡ of x ++ flat xs)
    (all : List X) (start now : List R) (i : ℕ) (so : now ++ flat (drop i all) ≡ start ++ flat all) where
  next : (x : X) (j : ℕ) (new : List R) → j ≡ suc i → drop i all ≡ x ∷ drop (suc i) all → new ≡ now ++ of x → new ++ flat (drop j all) ≡ start ++ flat all
  next x j new after at put =
      ap (λ l. l ++ flat (drop j all)) put ∙ append_assoc now (of x) (flat (drop j all))
      ∙ ap (λ l. now ++ l) (ap (λ n. of x ++ flat (drop n all)) after ∙ sym (step x (drop (suc i) all)) ∙ ap flat (sym at)) ∙ so

  pub flat_next : (x : X) (j : ℕ) (new : List R) → j ≡ suc i → slice_get all i ≡ Some x → new ≡ now ++ of x → new ++ flat (drop j all) ≡ start ++ flat all
  flat_next x j new after at put = next x j new after (drop_there all i x at) put

  pub flat_item : (x : X) (j : ℕ) (new : List R) → j ≡ suc i → i < length all → x ≡ get_or all i x → new ≡ now ++ of x → new ++ flat (drop j all) ≡ start ++ flat all
  flat_item x j new after below at put = next x j new after (drop_got all i x below at) put

  pub flat_end : flat [] ≡ [] → slice_get all i ≡ None → now ≡ start ++ flat all
  flat_end none past = sym (append-nil now) ∙ ap (λ l. now ++ l) (sym none ∙ ap flat (sym (drop_past all i past))) ∙ so
