-- Numbers that stand once.
use Rattle.std.proofs.Common.{ℕ, ℤ, zero, suc, ◌+◌, ◌-◌, ◌<◌, Bool, true, false, cond, not, ◌&&◌, ◌||◌, List, [], ◌∷◌, drop, length, get_or, ◌≡◌, refl, sym, ap, ◌∙◌, drop-cons, arith}
use Rattle.std.specs.Ordering.{int_cmp, is_eq}
use Rattle.user_actions.specs.Given.{have_no_duplicates, has_number}
use Rattle.user_actions.proofs.ApartLemmas.{and_false}

cond_or : (a b : Bool) → cond a true b ≡ (a || b)
cond_or true b = refl
cond_or false b = refl

-- a list has a repeat where it has one further on
pub have_no_duplicates-drop : (k : ℕ) (ns : List ℤ) → have_no_duplicates (drop k ns) ≡ false → have_no_duplicates ns ≡ false
have_no_duplicates-drop zero ns h = h
have_no_duplicates-drop (suc k) [] h = h
have_no_duplicates-drop (suc k) (n ∷ ns) h =
    ap (λ b. not (has_number ns n) && b) (have_no_duplicates-drop k ns h) ∙ and_false (not (has_number ns n))

-- the last number but so many, and those behind it
pub drop_before : (ns : List ℤ) (k : ℕ) (d : ℤ) → k < length ns
    → drop (length ns - (k + 1)) ns ≡ get_or ns (length ns - 1 - k) d ∷ drop (length ns - k) ns
drop_before ns k d lt =
    let i : length ns - 1 - k ≡ length ns - (k + 1) = omega arith in
    let j : length ns - k ≡ suc (length ns - (k + 1)) = omega (arith, lt) in
    let w : length ns - (k + 1) < length ns = omega (arith, lt) in
    rw (i, j) (drop-cons ns (length ns - (k + 1)) d w)

-- a number that a set takes is seen, beside those that it had
pub seen_more : (n q : ℤ) (ns : List ℤ) (old new : Bool)
    → new ≡ cond (is_eq (int_cmp n q)) true old → old ≡ has_number ns q → new ≡ has_number (n ∷ ns) q
seen_more n q ns old new e h =
    e ∙ ap (λ b. cond (is_eq (int_cmp n q)) true b) h ∙ cond_or (is_eq (int_cmp n q)) (has_number ns q)

not_false : (b : Bool) → false ≡ not b → b ≡ true
not_false true h = refl
not_false false h = cc

not_true : (b : Bool) → true ≡ not b → b ≡ false
not_true true h = cc
not_true false h = refl

-- a number that a set had before stands twice
pub seen_before : (n : ℤ) (all ns : List ℤ) {b : Bool} → all ≡ n ∷ ns → b ≡ has_number ns n → false ≡ not b → have_no_duplicates all ≡ false
seen_before n all ns {b = b} e h new =
    ap have_no_duplicates e ∙ ap (λ t. not t && have_no_duplicates ns) (sym h ∙ not_false b new)

-- a number that a set had not stands once
pub new_one : (n : ℤ) (all ns : List ℤ) {b : Bool} → all ≡ n ∷ ns → have_no_duplicates ns ≡ true → b ≡ has_number ns n → true ≡ not b → have_no_duplicates all ≡ true
new_one n all ns {b = b} e once h new =
    ap have_no_duplicates e ∙ ap (λ t. not t && have_no_duplicates ns) (sym h ∙ not_true b new) ∙ once
