-- Where a thing goes among things that stand by their ids.
use Rattle.std.proofs.Common.{ℕ, zero, suc, ◌+◌, Bool, true, false, cond, not, ◌||◌, eqb, ltb, List, [], ◌∷◌, ◌++◌, take, drop, length, get_or, ◌≡◌, ◌<◌, ◌≤◌, refl, sym, ap, subst, ◌∙◌, arith, append_assoc, drop-cons, set}
use Rattle.std.specs.declared.cmp.Ordering.TheVariants.{Less, Equal, Greater}
use Rattle.std.proofs.lemmas.Bool.{eqb-true, eq-eqb, le-ltb, lt-ltb, ne_eqb, or_right}
use Rattle.std.proofs.lemmas.List.{set_split, take_more}
use Rattle.std.proofs.lemmas.Map.Text.{is_eq-slice_cmp}
use Rattle.std.specs.Cmp.Lexicographic.{slice_cmp}
use Rattle.std.specs.Ordering.{nat_cmp, is_lt, is_eq}
use Rattle.std.specs.Str.{bytes_eq}
use Rattle.doc_model.specs.ByIds.{precedes, put_by_id}
use Rattle.doc_model.specs.Rows.{has, insert_row, insert_rows, has_no_duplicates, IsAscending}
use Rattle.doc_model.proofs.Choices.{both_true, cond_true, cond_false, or_assoc, or_swap}
use Rattle.doc_model.proofs.RowsLaws.{has_below, has-insert_row, has-insert_rows, IsAscending-insert_row, IsAscending-insert_rows, same_ascending}
use Rattle.view_patch.specs.Placed.{GoesBefore, GoesOver}

module _ {X : Type 0} (id : X → List ℕ) where
  -- what was passed stays before it
  abbrev pub Passed : List ℕ → List X → ℕ → Type 0
  Passed c xs i = (x : X) → id x ≡ c → put_by_id id x xs ≡ take i xs ++ put_by_id id x (drop i xs)

  at_head : (xs : List X) (i : ℕ) (y x : X) → i < length xs → y ≡ get_or xs i y
      → put_by_id id x (drop i xs) ≡ cond (precedes (id x) (id y)) (x ∷ drop i xs) (cond (bytes_eq (id x) (id y)) (x ∷ drop (suc i) xs) (y ∷ put_by_id id x (drop (suc i) xs)))
  at_head xs i y x lt is =
      let split : drop i xs ≡ y ∷ drop (suc i) xs = drop-cons xs i y lt ∙ ap (λ z. z ∷ drop (suc i) xs) (sym is) in
      ap (put_by_id id x) split
      ∙ ap (λ l. cond (precedes (id x) (id y)) (x ∷ l) (cond (bytes_eq (id x) (id y)) (x ∷ drop (suc i) xs) (y ∷ put_by_id id x (drop (suc i) xs)))) (sym split)

  pub goes_before : (c e : List ℕ) (xs : List X) (i : ℕ) (y : X) → i < length xs → y ≡ get_or xs i y → Passed c xs i → e ≡ id y → Less ≡ slice_cmp nat_cmp c e → GoesBefore id c xs i
  goes_before c e xs i y lt is before named o = record {
    within = omega (arith, lt);
    placed = λ x same.
        before x same
        ∙ ap (λ l. take i xs ++ l) (at_head xs i y x lt is
        ∙ ap (λ b. cond b (x ∷ drop i xs) (cond (bytes_eq (id x) (id y)) (x ∷ drop (suc i) xs) (y ∷ put_by_id id x (drop (suc i) xs))))
        (ap (λ n. precedes n (id y)) same ∙ ap (precedes c) (sym named) ∙ ap is_lt (sym o)));
  }

  pub goes_over : (c e : List ℕ) (xs : List X) (i : ℕ) (y : X) → i < length xs → y ≡ get_or xs i y → Passed c xs i → e ≡ id y → Equal ≡ slice_cmp nat_cmp c e → GoesOver id c xs i
  goes_over c e xs i y lt is before named o = record {
    within = lt;
    placed = λ x same.
        before x same
        ∙ ap (λ l. take i xs ++ l) (at_head xs i y x lt is
        ∙ ap (λ b. cond b (x ∷ drop i xs) (cond (bytes_eq (id x) (id y)) (x ∷ drop (suc i) xs) (y ∷ put_by_id id x (drop (suc i) xs))))
        (ap (λ n. precedes n (id y)) same ∙ ap (precedes c) (sym named) ∙ ap is_lt (sym o))
        ∙ ap (λ b. cond b (x ∷ drop (suc i) xs) (y ∷ put_by_id id x (drop (suc i) xs)))
        (ap (λ n. bytes_eq n (id y)) same ∙ ap (bytes_eq c) (sym named) ∙ sym (is_eq-slice_cmp c e) ∙ ap is_eq (sym o)));
  }

  pub goes_behind : (c e : List ℕ) (xs : List X) (i j : ℕ) (y : X) → i < length xs → y ≡ get_or xs i y → Passed c xs i → e ≡ id y → Greater ≡ slice_cmp nat_cmp c e → j ≡ i + 1 → Passed c xs j
  goes_behind c e xs i j y lt is before named o next x same =
      let n : j ≡ suc i = omega (arith, next) in
      before x same
      ∙ ap (λ l. take i xs ++ l) (at_head xs i y x lt is
      ∙ ap (λ b. cond b (x ∷ drop i xs) (cond (bytes_eq (id x) (id y)) (x ∷ drop (suc i) xs) (y ∷ put_by_id id x (drop (suc i) xs))))
      (ap (λ n. precedes n (id y)) same ∙ ap (precedes c) (sym named) ∙ ap is_lt (sym o))
      ∙ ap (λ b. cond b (x ∷ drop (suc i) xs) (y ∷ put_by_id id x (drop (suc i) xs)))
      (ap (λ n. bytes_eq n (id y)) same ∙ ap (bytes_eq c) (sym named) ∙ sym (is_eq-slice_cmp c e) ∙ ap is_eq (sym o)))
      ∙ sym (append_assoc (take i xs) (y ∷ []) (put_by_id id x (drop (suc i) xs)))
      ∙ ap (λ l. l ++ put_by_id id x (drop (suc i) xs)) (ap (λ z. take i xs ++ z ∷ []) is ∙ sym (take_more xs i y lt) ∙ ap (λ k. take k xs) (sym next))
      ∙ ap (λ k. take j xs ++ put_by_id id x (drop k xs)) (sym n)

  pub goes_last : (c : List ℕ) (xs : List X) (i : ℕ) → i ≡ length xs → Passed c xs i → GoesBefore id c xs i
  goes_last c xs i e before = record {
    within = omega (arith, e);
    placed = λ x same. before x same ∙ ap (λ l. take i xs ++ l) (ap (put_by_id id x) none ∙ ap (λ l. x ∷ l) (sym none));
  }
    where
      none : drop i xs ≡ []
      none = Rattle.std.proofs.lemmas.List.drop_all i xs (omega (arith, e))

  pub put_over : (xs seen : List X) (p : ℕ) (x : X) → seen ≡ xs → GoesOver id (id x) seen p → set xs p x ≡ put_by_id id x xs
  put_over xs seen p x e h = set_split xs p x (omega (arith, h.within, ap length e)) ∙ ap (λ l. take p l ++ x ∷ drop (suc p) l) (sym e) ∙ sym (h.placed x refl) ∙ ap (put_by_id id x) e

-- a row goes between the lower ones and the greater ones
pub row_before : (xs : List ℕ) (row p : ℕ) → p ≤ length xs → ((k : ℕ) → k < p → get_or xs k 0 < row) → ((k : ℕ) → p ≤ k → k < length xs → row < get_or xs k 0) → insert_row row xs ≡ take p xs ++ row ∷ drop p xs
row_before [] row zero le lower higher = refl
row_before [] row (suc p) le lower higher = absurd (omega arith)
row_before (x ∷ xs) row zero le lower higher = let lt : row < x = higher zero (omega arith) (omega arith) in cond_true (ltb row x) (row ∷ x ∷ xs) (cond (eqb row x) (x ∷ xs) (x ∷ insert_row row xs)) (lt-ltb row x lt)
row_before (x ∷ xs) row (suc p) le lower higher =
    let lt : x < row = lower zero (omega arith) in
    cond_false (ltb row x) (row ∷ x ∷ xs) (cond (eqb row x) (x ∷ xs) (x ∷ insert_row row xs)) (le-ltb row x (omega (arith, lt)))
    ∙ cond_false (eqb row x) (x ∷ xs) (x ∷ insert_row row xs) (ne_eqb row x (λ e. absurd (omega (arith, lt, e))))
    ∙ ap (λ l. x ∷ l) (row_before xs row p (omega (arith, le)) (λ k l. lower (suc k) (omega (arith, l))) (λ k l m. higher (suc k) (omega (arith, l)) (omega (arith, m))))

-- a row that is there stays
pub row_there : (xs : List ℕ) (row p : ℕ) → IsAscending xs → p < length xs → get_or xs p 0 ≡ row → insert_row row xs ≡ xs
row_there xs row p a lt e =
    same_ascending (insert_row row xs) xs (IsAscending-insert_row row xs a) a (λ q. has-insert_row row xs q ∙ either q (eqb row q) refl)
  where
    here : (xs : List ℕ) (p : ℕ) → p < length xs → get_or xs p 0 ≡ row → has xs row ≡ true
    here [] p lt e = absurd (omega arith)
    here (x ∷ xs) zero lt e = ap (λ b. b || has xs row) (eq-eqb x row e)
    here (x ∷ xs) (suc p) lt e = or_right (eqb x row) (has xs row) (here xs p (omega (arith, lt)) e)

    either : (q : ℕ) (b : Bool) → eqb row q ≡ b → (eqb row q || has xs q) ≡ has xs q
    either q true is = ap (λ b. b || has xs q) is ∙ sym (ap (has xs) (sym (eqb-true row q is)) ∙ here xs p lt e)
    either q false is = ap (λ b. b || has xs q) is

-- rows go in in either order
pub rows_next : (q : ℕ) (new rows : List ℕ) → IsAscending rows → insert_rows (q ∷ new) rows ≡ insert_rows new (insert_row q rows)
rows_next q new rows a =
    same_ascending (insert_rows (q ∷ new) rows) (insert_rows new (insert_row q rows)) (IsAscending-insert_rows (q ∷ new) rows a) (IsAscending-insert_rows new (insert_row q rows) (IsAscending-insert_row q rows a))
    (λ p. has-insert_rows (q ∷ new) rows p ∙ sym (has-insert_rows new (insert_row q rows) p ∙ ap (λ b. has new p || b) (has-insert_row q rows p) ∙ or_swap (has new p) (eqb q p) (has rows p) ∙ or_assoc (eqb q p) (has new p) (has rows p)))

pub put_found : (xs seen : List ℕ) (row p : ℕ) → seen ≡ xs → IsAscending xs → (p < length seen) × (get_or seen p 0 ≡ row) → xs ≡ insert_row row xs
put_found xs seen row p e a h = sym (row_there xs row p a (omega (arith, h.0, ap length e)) (ap (λ l. get_or l p 0) (sym e) ∙ h.1))

pub put_new : (xs seen : List ℕ) (row p : ℕ) (ys : List ℕ) → seen ≡ xs → (p ≤ length seen) × ((k : ℕ) → k < p → get_or seen k 0 < row) × ((k : ℕ) → p ≤ k → k < length seen → row < get_or seen k 0)
    → ys ≡ take p xs ++ row ∷ drop p xs → ys ≡ insert_row row xs
put_new xs seen row p ys e h is = is ∙ ap (λ l. take p l ++ row ∷ drop p l) (sym e) ∙ sym (row_before seen row p h.0 h.1 h.2) ∙ ap (insert_row row) e

pub put_next : (new rows all next : List ℕ) (i : ℕ) → i < length new → IsAscending all → insert_rows (drop i new) all ≡ insert_rows new rows → next ≡ insert_row (get_or new i 0) all
    → IsAscending next × (insert_rows (drop (i + 1) new) next ≡ insert_rows new rows)
put_next new rows all next i lt a before is =
    let one : i + 1 ≡ suc i = omega arith in
    let split : drop i new ≡ get_or new i 0 ∷ drop (i + 1) new = drop-cons new i 0 lt ∙ ap (λ k. get_or new i 0 ∷ drop k new) (sym one) in (
      subst IsAscending (sym is) (IsAscending-insert_row (get_or new i 0) all a),
      ap (insert_rows (drop (i + 1) new)) is ∙ sym (rows_next (get_or new i 0) (drop (i + 1) new) all a) ∙ ap (λ l. insert_rows l all) (sym split) ∙ before,
    )

pub once : (rows : List ℕ) → IsAscending rows → has_no_duplicates rows ≡ true
once [] a = refl
once (r ∷ rows) a = both_true (not (has rows r)) (has_no_duplicates rows) (ap not (has_below r rows a.0)) (once rows a.1)
