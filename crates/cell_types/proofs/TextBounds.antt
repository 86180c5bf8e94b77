-- A text that is too long with one more part is too long with all that are still to come.
use Rattle.std.proofs.Common.{◌≡◌, ℕ, ◌+◌, ◌<◌, List, ◌∷◌, ◌++◌, map, drop, length, get_or, Err, arith, ap, sym, ◌∙◌, length-append, drop-cons, suc, codes}
use Rattle.cell_types.specs.TextBound.{Adds, text_bound}
use Rattle.cell_types.specs.ValueText.{after_commas}
use Rattle.cell_types.specs.declared.bounded_text.TextEnd.{TextEnd}
use Rattle.cell_types.specs.declared.bounded_text.TextEnd.TheVariants.{TooLong, NoMemory}

longer : (old now whole part more : List ℕ) → now ++ (part ++ more) ≡ old ++ whole → text_bound < length now + length part → text_bound < length old + length whole
longer old now whole part more e h =
    let n : length (now ++ (part ++ more)) ≡ length (old ++ whole) = ap length e in
    omega (arith, length-append now (part ++ more), length-append part more, length-append old whole, n, h)

pub too_long_already : {X : Type 0} (f : X → List ℕ) (xs : List X) (i : ℕ) (x d : X) (old now new last : List ℕ) (end : TextEnd) → i < length xs → x ≡ get_or xs i d → now ++ after_commas (map f (drop i xs)) ≡ old ++ after_commas (map f xs) → Adds now new (codes ", " ++ f x) (Err end) → Adds old last (after_commas (map f xs)) (Err end)
too_long_already f xs i x d old now new last TooLong lt is e h =
    let split : drop i xs ≡ x ∷ drop (suc i) xs = drop-cons xs i d lt ∙ ap (λ y. y ∷ drop (suc i) xs) (sym is) in
    longer old now (after_commas (map f xs)) (codes ", " ++ f x) (after_commas (map f (drop (suc i) xs)))
    (ap (λ ys. now ++ after_commas (map f ys)) (sym split) ∙ e) h
too_long_already f xs i x d old now new last NoMemory lt is e h = tt
