-- Extremes of values, one after the other.
use Rattle.std.proofs.Common.{ℕ, zero, suc, ◌+◌, ◌<◌, length, get_or, drop, arith, subst, ℤ, Bool, Option, Some, None, List, [], ◌∷◌, ◌++◌, ◌≡◌, refl, sym, ap, ◌∙◌}
use Rattle.std.proofs.lemmas.List.{append-nil}
use Rattle.cell_types.specs.declared.value.CellValue.{CellValue}
use Rattle.cell_types.specs.declared.value.CellValue.TheVariants as value
use Rattle.formula_eval.specs.Function.{better, picked, item_numbers, numbers_in, item_dates, dates_in}

better-append : (most : Bool) (o : Option ℤ) (xs ys : List ℤ) → better most o (xs ++ ys) ≡ better most (better most o xs) ys
better-append most o [] ys = refl
better-append most None (x ∷ xs) ys = better-append most (Some x) xs ys
better-append most (Some m) (x ∷ xs) ys = better-append most (Some (picked most m x)) xs ys

-- the items of a list alone
pub better_items : (most : Bool) (o : Option ℤ) (xs : List ℤ) → better most o (xs ++ []) ≡ better most o xs
better_items most o xs = ap (better most o) (append-nil xs)

number-cons : (v : CellValue) (vs : List CellValue) → numbers_in (v ∷ vs) ≡ numbers_in (v ∷ []) ++ numbers_in vs
number-cons value.Null vs = refl
number-cons (value.Int n) vs = refl
number-cons (value.Bool b) vs = refl
number-cons (value.Text t) vs = refl
number-cons (value.Date n) vs = refl
number-cons (value.Rec r) vs = refl
number-cons (value.RecSet s) vs = refl
number-cons (value.List is) vs = ap (λ (ns : List ℤ). ns ++ numbers_in vs) (sym (append-nil (item_numbers is)))
number-cons (value.Err e) vs = refl
number-cons value.Censored vs = refl

number_after : (most : Bool) (vs : List CellValue) (i : ℕ) (v : CellValue) (o next : Option ℤ) → i < length vs → v ≡ get_or vs i v → next ≡ better most o (numbers_in (v ∷ []))
    → better most o (numbers_in (drop i vs)) ≡ better most next (numbers_in (drop (suc i) vs))
number_after most [] i v o next h e n = absurd (omega arith)
number_after most (u ∷ us) zero v o next h e n =
    ap (better most o) (number-cons u us) ∙ better-append most o (numbers_in (u ∷ [])) (numbers_in us)
    ∙ ap (λ (w : CellValue). better most (better most o (numbers_in (w ∷ []))) (numbers_in us)) (sym e) ∙ ap (λ (m : Option ℤ). better most m (numbers_in us)) (sym n)
number_after most (u ∷ us) (suc i) v o next h e n = number_after most us i v o next (omega arith) e n

pub number_left : (most : Bool) (vs : List CellValue) (i : ℕ) (v : CellValue) (o next : Option ℤ) → i < length vs → v ≡ get_or vs i v → next ≡ better most o (numbers_in (v ∷ []))
    → better most o (numbers_in (drop i vs)) ≡ better most next (numbers_in (drop (i + 1) vs))
number_left most vs i v o next h e n =
    let one : suc i ≡ i + 1 = omega arith in
    subst (λ (j : ℕ). better most o (numbers_in (drop i vs)) ≡ better most next (numbers_in (drop j vs))) one (number_after most vs i v o next h e n)

date-cons : (v : CellValue) (vs : List CellValue) → dates_in (v ∷ vs) ≡ dates_in (v ∷ []) ++ dates_in vs
date-cons value.Null vs = refl
date-cons (value.Int n) vs = refl
date-cons (value.Bool b) vs = refl
date-cons (value.Text t) vs = refl
date-cons (value.Date n) vs = refl
date-cons (value.Rec r) vs = refl
date-cons (value.RecSet s) vs = refl
date-cons (value.List is) vs = ap (λ (ns : List ℤ). ns ++ dates_in vs) (sym (append-nil (item_dates is)))
date-cons (value.Err e) vs = refl
date-cons value.Censored vs = refl

date_after : (most : Bool) (vs : List CellValue) (i : ℕ) (v : CellValue) (o next : Option ℤ) → i < length vs → v ≡ get_or vs i v → next ≡ better most o (dates_in (v ∷ []))
    → better most o (dates_in (drop i vs)) ≡ better most next (dates_in (drop (suc i) vs))
date_after most [] i v o next h e n = absurd (omega arith)
date_after most (u ∷ us) zero v o next h e n =
    ap (better most o) (date-cons u us) ∙ better-append most o (dates_in (u ∷ [])) (dates_in us)
    ∙ ap (λ (w : CellValue). better most (better most o (dates_in (w ∷ []))) (dates_in us)) (sym e) ∙ ap (λ (m : Option ℤ). better most m (dates_in us)) (sym n)
date_after most (u ∷ us) (suc i) v o next h e n = date_after most us i v o next (omega arith) e n

pub date_left : (most : Bool) (vs : List CellValue) (i : ℕ) (v : CellValue) (o next : Option ℤ) → i < length vs → v ≡ get_or vs i v → next ≡ better most o (dates_in (v ∷ []))
    → better most o (dates_in (drop i vs)) ≡ better most next (dates_in (drop (i + 1) vs))
date_left most vs i v o next h e n =
    let one : suc i ≡ i + 1 = omega arith in
    subst (λ (j : ℕ). better most o (dates_in (drop i vs)) ≡ better most next (dates_in (drop j vs))) one (date_after most vs i v o next h e n)
