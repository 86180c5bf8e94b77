-- What is left of a round, and how far rounds go.
use Rattle.std.proofs.Common.{ℕ, zero, suc, Bool, true, false, ◌&&◌, ◌||◌, ◌+◌, ◌<◌, ◌≤◌, ◌≡◌, refl, sym, ap, ◌∙◌, subst, arith, List, [], ◌∷◌, ◌++◌, map, length, get_or, drop, Option}
use Rattle.std.specs.Prelude.{slice_get, Some, option_to_list}
use Rattle.std.proofs.lemmas.List.{length-map}
use Rattle.par_recalc.specs.declared.plan.ColumnFormula.{ColumnFormula}
use Rattle.par_recalc.specs.Levels.{is_below, marked_anew, marks, one_anew, places_of}
use Rattle.par_recalc.specs.Numbers.{number_of, numbers_named, numbers_of, own_number}
use Rattle.par_recalc.specs.Rounds.{are_ready, blank, next_marks, round, with_column, with_columns}
use Rattle.par_recalc.proofs.NumberLemmas.{marks_next}

marks_suc : (waiting : List Bool) (all : List (List ℕ)) (bs : List Bool) (i : ℕ) (ns : List ℕ) (d : Bool) → i < length bs → length all ≡ length bs → ns ≡ get_or all i ns
    → next_marks waiting (drop i all) (drop i bs) ≡ (get_or bs i d || are_ready waiting ns) ∷ next_marks waiting (drop (suc i) all) (drop (suc i) bs)
marks_suc waiting all [] i ns d lt e at = absurd (omega arith)
marks_suc waiting [] (b ∷ bs) i ns d lt e at = absurd (omega arith)
marks_suc waiting (a ∷ others) (b ∷ bs) zero ns d lt e at = ap (λ l. (b || are_ready waiting l) ∷ next_marks waiting others bs) (sym at)
marks_suc waiting (a ∷ others) (b ∷ bs) (suc i) ns d lt e at = marks_suc waiting others bs i ns d (omega arith) (omega arith) at

pub marks_left : (waiting : List Bool) (all : List (List ℕ)) (bs : List Bool) (i : ℕ) (ns : List ℕ) (d : Bool) → i < length bs → length all ≡ length bs → ns ≡ get_or all i ns
    → next_marks waiting (drop i all) (drop i bs) ≡ (get_or bs i d || are_ready waiting ns) ∷ next_marks waiting (drop (i + 1) all) (drop (i + 1) bs)
marks_left waiting all bs i ns d lt e at =
    let one : suc i ≡ i + 1 = omega arith in
    subst (λ (n : ℕ). next_marks waiting (drop i all) (drop i bs) ≡ (get_or bs i d || are_ready waiting ns) ∷ next_marks waiting (drop n all) (drop n bs)) one (marks_suc waiting all bs i ns d lt e at)

columns_suc : (waiting : List Bool) (own : List (Option ℕ)) (bs : List Bool) (i : ℕ) (o : Option ℕ) (d : Bool) → i < length own → length bs ≡ length own → o ≡ get_or own i o
    → with_columns waiting (drop i own) (drop i bs) ≡ with_columns (with_column waiting o (get_or bs i d)) (drop (suc i) own) (drop (suc i) bs)
columns_suc waiting [] bs i o d lt e at = absurd (omega arith)
columns_suc waiting (a ∷ own) [] i o d lt e at = absurd (omega arith)
columns_suc waiting (a ∷ own) (b ∷ bs) zero o d lt e at = ap (λ p. with_columns (with_column waiting p b) own bs) (sym at)
columns_suc waiting (a ∷ own) (b ∷ bs) (suc i) o d lt e at = columns_suc waiting own bs i o d (omega arith) (omega arith) at

pub columns_left : (waiting : List Bool) (own : List (Option ℕ)) (bs : List Bool) (i : ℕ) (o : Option ℕ) (d : Bool) → i < length own → length bs ≡ length own → o ≡ get_or own i o
    → with_columns waiting (drop i own) (drop i bs) ≡ with_columns (with_column waiting o (get_or bs i d)) (drop (i + 1) own) (drop (i + 1) bs)
columns_left waiting own bs i o d lt e at =
    let one : suc i ≡ i + 1 = omega arith in
    subst (λ (n : ℕ). with_columns waiting (drop i own) (drop i bs) ≡ with_columns (with_column waiting o (get_or bs i d)) (drop n own) (drop n bs)) one (columns_suc waiting own bs i o d lt e at)

numbers_suc : (fs : List ColumnFormula) (ids : List (List ℕ)) (i : ℕ) (q : List ℕ) → i < length ids → q ≡ get_or ids i q
    → numbers_of fs (drop i ids) ≡ option_to_list (number_of fs q) ++ numbers_of fs (drop (suc i) ids)
numbers_suc fs [] i q lt at = absurd (omega arith)
numbers_suc fs (id ∷ ids) zero q lt at = ap (λ n. option_to_list (number_of fs n) ++ numbers_of fs ids) (sym at)
numbers_suc fs (id ∷ ids) (suc i) q lt at = numbers_suc fs ids i q (omega arith) at

pub numbers_left : (fs : List ColumnFormula) (ids : List (List ℕ)) (i : ℕ) (q : List ℕ) → i < length ids → q ≡ get_or ids i q
    → numbers_of fs (drop i ids) ≡ option_to_list (number_of fs q) ++ numbers_of fs (drop (i + 1) ids)
numbers_left fs ids i q lt at =
    let one : suc i ≡ i + 1 = omega arith in
    subst (λ (n : ℕ). numbers_of fs (drop i ids) ≡ option_to_list (number_of fs q) ++ numbers_of fs (drop n ids)) one (numbers_suc fs ids i q lt at)

mapped_suc : {B : Type 0} (h : ColumnFormula → B) (fs : List ColumnFormula) (i : ℕ) (f : ColumnFormula) → i < length fs → f ≡ get_or fs i f → map h (drop i fs) ≡ h f ∷ map h (drop (suc i) fs)
mapped_suc h [] i f lt at = absurd (omega arith)
mapped_suc h (g ∷ gs) zero f lt at = ap (λ c. h c ∷ map h gs) (sym at)
mapped_suc h (g ∷ gs) (suc i) f lt at = mapped_suc h gs i f (omega arith) at

pub mapped_left : {B : Type 0} (h : ColumnFormula → B) (fs : List ColumnFormula) (i : ℕ) (f : ColumnFormula) → i < length fs → f ≡ get_or fs i f → map h (drop i fs) ≡ h f ∷ map h (drop (i + 1) fs)
mapped_left h fs i f lt at =
    let one : suc i ≡ i + 1 = omega arith in
    subst (λ (n : ℕ). map h (drop i fs) ≡ h f ∷ map h (drop n fs)) one (mapped_suc h fs i f lt at)

anew_suc : (at : ℕ) (bs cs : List Bool) (i : ℕ) (d : Bool) → i < length bs → length cs ≡ length bs
    → marked_anew at (drop i bs) (drop i cs) ≡ one_anew at (get_or bs i d) (get_or cs i d) ++ marked_anew (at + 1) (drop (suc i) bs) (drop (suc i) cs)
anew_suc at [] cs i d lt e = absurd (omega arith)
anew_suc at (b ∷ bs) [] i d lt e = absurd (omega arith)
anew_suc at (b ∷ bs) (c ∷ cs) zero d lt e = refl
anew_suc at (b ∷ bs) (c ∷ cs) (suc i) d lt e = anew_suc at bs cs i d (omega arith) (omega arith)

pub anew_left : (bs cs : List Bool) (i : ℕ) (d : Bool) → i < length bs → length cs ≡ length bs
    → marked_anew i (drop i bs) (drop i cs) ≡ one_anew i (get_or bs i d) (get_or cs i d) ++ marked_anew (i + 1) (drop (i + 1) bs) (drop (i + 1) cs)
anew_left bs cs i d lt e =
    let one : suc i ≡ i + 1 = omega arith in
    subst (λ (n : ℕ). marked_anew i (drop i bs) (drop i cs) ≡ one_anew i (get_or bs i d) (get_or cs i d) ++ marked_anew (i + 1) (drop n bs) (drop n cs)) one (anew_suc i bs cs i d lt e)

-- how many are not marked
abbrev pub unmarked : List Bool → ℕ
unmarked [] = 0
unmarked (true ∷ bs) = unmarked bs
unmarked (false ∷ bs) = unmarked bs + 1

fewer_or_same : (waiting : List Bool) (all : List (List ℕ)) (bs : List Bool) → length all ≡ length bs → unmarked (next_marks waiting all bs) ≤ unmarked bs
fewer_or_same waiting [] [] e = omega arith
fewer_or_same waiting [] (b ∷ bs) e = absurd (omega arith)
fewer_or_same waiting (a ∷ others) [] e = absurd (omega arith)
fewer_or_same waiting (a ∷ others) (true ∷ bs) e = fewer_or_same waiting others bs (omega arith)
fewer_or_same waiting (a ∷ others) (false ∷ bs) e = by (are_ready waiting a) (fewer_or_same waiting others bs (omega arith))
  where
    by : (r : Bool) → unmarked (next_marks waiting others bs) ≤ unmarked bs → unmarked (r ∷ next_marks waiting others bs) ≤ unmarked bs + 1
    by true h = omega (arith, h)
    by false h = omega (arith, h)

-- where a place is marked anew, fewer are unmarked
fewer : (waiting : List Bool) (at : ℕ) (all : List (List ℕ)) (bs : List Bool) → length all ≡ length bs
    → 0 < length (marked_anew at bs (next_marks waiting all bs)) → unmarked (next_marks waiting all bs) < unmarked bs
fewer waiting at [] [] e some = absurd (omega arith)
fewer waiting at [] (b ∷ bs) e some = absurd (omega arith)
fewer waiting at (a ∷ others) [] e some = absurd (omega arith)
fewer waiting at (a ∷ others) (true ∷ bs) e some = fewer waiting (at + 1) others bs (omega arith) some
fewer waiting at (a ∷ others) (false ∷ bs) e some = by (are_ready waiting a) (fewer_or_same waiting others bs (omega arith)) (λ h. fewer waiting (at + 1) others bs (omega arith) h) some
  where
    by : (r : Bool) → unmarked (next_marks waiting others bs) ≤ unmarked bs
        → (0 < length (marked_anew (at + 1) bs (next_marks waiting others bs)) → unmarked (next_marks waiting others bs) < unmarked bs)
        → 0 < length (one_anew at false r ++ marked_anew (at + 1) bs (next_marks waiting others bs))
        → unmarked (r ∷ next_marks waiting others bs) < unmarked bs + 1
    by true same less h = omega (arith, same)
    by false same less h = omega (arith, less h)

blank_suc : (fs : List ColumnFormula) (i : ℕ) → i < length fs → blank (drop i fs) ≡ false ∷ blank (drop (suc i) fs)
blank_suc [] i lt = absurd (omega arith)
blank_suc (g ∷ gs) zero lt = refl
blank_suc (g ∷ gs) (suc i) lt = blank_suc gs i (omega arith)

pub blank_left : (fs : List ColumnFormula) (i : ℕ) → i < length fs → blank (drop i fs) ≡ false ∷ blank (drop (i + 1) fs)
blank_left fs i lt =
    let one : suc i ≡ i + 1 = omega arith in
    subst (λ (n : ℕ). blank (drop i fs) ≡ false ∷ blank (drop n fs)) one (blank_suc fs i lt)

-- one round over the marks of the first levels
pub next_round : (fs : List ColumnFormula) (k : ℕ) (own : List (Option ℕ)) (all : List (List ℕ)) (bs cs : List Bool) → own ≡ map (own_number fs) fs → all ≡ map (numbers_named fs) fs
    → bs ≡ marks fs k → cs ≡ round fs own all bs → cs ≡ marks fs (suc k)
next_round fs k own all bs cs o a b e =
    e ∙ ap (λ l. round fs l all bs) o ∙ ap (λ l. round fs (map (own_number fs) fs) l bs) a
    ∙ ap (λ l. round fs (map (own_number fs) fs) (map (numbers_named fs) fs) l) b ∙ marks_next fs k

round_size : (fs : List ColumnFormula) (k : ℕ) → length (marks fs (suc k)) ≡ length (marks fs k)
round_size fs k = length-map fs (is_below fs (suc k)) ∙ sym (length-map fs (is_below fs k))

pub same_size : (fs : List ColumnFormula) (k : ℕ) (bs cs : List Bool) → bs ≡ marks fs k → cs ≡ marks fs (suc k) → length cs ≡ length bs
same_size fs k bs cs b c = ap length c ∙ round_size fs k ∙ sym (ap length b)

-- a round that marks a place leaves fewer unmarked
pub round_smaller : (fs : List ColumnFormula) (k : ℕ) → 0 < length (places_of fs k) → unmarked (marks fs (suc k)) < unmarked (marks fs k)
round_smaller fs k some =
    let size : length (map (numbers_named fs) fs) ≡ length (marks fs k) = length-map fs (numbers_named fs) ∙ sym (length-map fs (is_below fs k)) in
    let waiting = with_columns (blank fs) (map (own_number fs) fs) (marks fs k) in
    subst (λ m. unmarked m < unmarked (marks fs k)) (marks_next fs k)
    (fewer waiting 0 (map (numbers_named fs) fs) (marks fs k) size (subst (λ m. 0 < length (marked_anew 0 (marks fs k) m)) (sym (marks_next fs k)) some))

pub empty_list : (xs : List ℕ) → length xs ≡ 0 → xs ≡ []
empty_list [] e = refl
empty_list (x ∷ xs) e = absurd (omega arith)

-- one list more at the end
pub snoc_all : (P : ℕ → List ℕ → Type 0) (ls : List (List ℕ)) (q : List ℕ) → ((j : ℕ) (ps : List ℕ) → slice_get ls j ≡ Some ps → P j ps) → P (length ls) q
    → (j : ℕ) (ps : List ℕ) → slice_get (ls ++ q ∷ []) j ≡ Some ps → P j ps
snoc_all P [] q h last zero ps e = let same : q ≡ ps = cc in subst (P 0) same last
snoc_all P [] q h last (suc j) ps e = absurd (cc)
snoc_all P (l ∷ ls) q h last zero ps e = h 0 ps e
snoc_all P (l ∷ ls) q h last (suc j) ps e = snoc_all (λ n. P (suc n)) ls q (λ n r. h (suc n) r) last j ps e
