-- A text is part of another exactly where its bytes stand in it.
use Rattle.std.proofs.Common.{◌≡◌, ℕ, ◌==◌, ◌⊎◌, inl, inr, List, [], ◌∷◌, ◌++◌, length, drop, refl, ap, Decides}
use Rattle.std.proofs.lemmas.Bool.Decides.{Decides-eqb, Decides-or, Decides-like}
use Rattle.std.proofs.lemmas.Slice.Eq.{starts_is}
use Rattle.std.specs.List.{starts_with}
use Rattle.std.specs.Str.Iter.{HasSubslice}
use Rattle.value_ops.specs.Containment.{is_part}

abbrev Begins : List ℕ → List ℕ → Type 0
Begins text part = (rest : List ℕ) × (text ≡ part ++ rest)

begins_decides : (part text : List ℕ) → Decides (starts_with ◌==◌ text part) (Begins text part)
begins_decides part text =
    let d = starts_is Decides-eqb text part (starts_with ◌==◌ text part) refl in
    (λ h. (drop (length part) text, d.0 h), λ w. d.1 w.0 w.1)

stands_in : (part : List ℕ) (c : ℕ) (cs : List ℕ) → Begins (c ∷ cs) part ⊎ HasSubslice cs part → HasSubslice (c ∷ cs) part
stands_in part c cs (inl w) = ([], w.0, w.1)
stands_in part c cs (inr w) = (c ∷ w.0, w.1, ap (λ x. c ∷ x) w.2)

where_stands : (part : List ℕ) (c : ℕ) (cs a b : List ℕ) → c ∷ cs ≡ a ++ (part ++ b) → Begins (c ∷ cs) part ⊎ HasSubslice cs part
where_stands part c cs [] b e = inl (b, e)
where_stands part c cs (x ∷ xs) b e = inr (xs, b, cc)

none_stands : (part a b : List ℕ) → [] ≡ a ++ (part ++ b) → Begins [] part
none_stands part [] b e = (b, e)
none_stands part (x ∷ xs) b e = cc

pub is_part_decides : (part text : List ℕ) → Decides (is_part part text) (HasSubslice text part)
is_part_decides part [] =
    Decides-like _ (λ w. ([], w.0, w.1)) (λ w. none_stands part w.0 w.1 w.2) (begins_decides part [])
is_part_decides part (c ∷ cs) =
    Decides-like _ (stands_in part c cs) (λ w. where_stands part c cs w.0 w.1 w.2)
    (Decides-or _ _ (begins_decides part (c ∷ cs)) (is_part_decides part cs))
