-- Lists that are made of two lists, place by place.
use Rattle.std.proofs.Common.{◌≡◌, List, [], ◌∷◌, ◌++◌, length, map, zip, refl, sym, ap, ◌∙◌, append_assoc, append-nil, arith}

-- what was made so far, and what is left to make, are all
pub zip_next : {X Y Z : Type 0} (f : X × Y → Z) (made pushed all : List Z) (xs more : List X) (ys others : List Y) (x : X) (y : Y) (z : Z)
    → made ++ map f (zip xs ys) ≡ all → xs ≡ x ∷ more → ys ≡ y ∷ others → z ≡ f (x, y) → pushed ≡ made ++ z ∷ [] → pushed ++ map f (zip more others) ≡ all
zip_next f made pushed all xs more ys others x y z so_far left right next push =
    ap (λ l. l ++ map f (zip more others)) (push ∙ ap (λ v. made ++ v ∷ []) next)
    ∙ append_assoc made (f (x, y) ∷ []) (map f (zip more others))
    ∙ ap (λ l. made ++ map f (zip l (y ∷ others))) (sym left) ∙ ap (λ l. made ++ map f (zip xs l)) (sym right) ∙ so_far

zip_first_empty : {X Y : Type 0} (xs : List X) (ys : List Y) → length xs ≡ 0 → zip xs ys ≡ []
zip_first_empty [] ys e = refl
zip_first_empty (x ∷ xs) ys e = absurd (omega (arith, e))

zip_second_empty : {X Y : Type 0} (xs : List X) (ys : List Y) → length ys ≡ 0 → zip xs ys ≡ []
zip_second_empty [] ys e = refl
zip_second_empty (x ∷ xs) [] e = refl
zip_second_empty (x ∷ xs) (y ∷ ys) e = absurd (omega (arith, e))

-- where nothing is left, all is made
pub zip_done_first : {X Y Z : Type 0} (f : X × Y → Z) (made all : List Z) (xs : List X) (ys : List Y)
    → made ++ map f (zip xs ys) ≡ all → length xs ≡ 0 → made ≡ all
zip_done_first f made all xs ys so_far e = sym (append-nil made) ∙ ap (λ l. made ++ map f l) (sym (zip_first_empty xs ys e)) ∙ so_far

pub zip_done_second : {X Y Z : Type 0} (f : X × Y → Z) (made all : List Z) (xs : List X) (ys : List Y)
    → made ++ map f (zip xs ys) ≡ all → length ys ≡ 0 → made ≡ all
zip_done_second f made all xs ys so_far e = sym (append-nil made) ∙ ap (λ l. made ++ map f l) (sym (zip_second_empty xs ys e)) ∙ so_far
