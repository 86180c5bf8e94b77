-- Where a thing goes among things that stand by their ids.
use Rattle.std.proofs.Common.{ℕ, suc, ◌+◌, cond, List, [], ◌∷◌, ◌++◌, take, drop, length, get_or, ◌≡◌, ◌<◌, refl, sym, ap, ◌∙◌, arith, append_assoc, drop-cons, set}
use Rattle.std.specs.declared.cmp.Ordering.TheVariants.{Less, Equal, Greater}
use Rattle.std.proofs.lemmas.List.{set_split, take_more}
use Rattle.std.proofs.lemmas.Map.Text.{is_eq-slice_cmp}
use Rattle.std.specs.Cmp.Lexicographic.{slice_cmp}
use Rattle.std.specs.Ordering.{nat_cmp, is_lt, is_eq}
use Rattle.std.specs.Str.{bytes_eq}
use Rattle.doc_model.specs.ByIds.{precedes, put_by_id}
use Rattle.recalc.specs.InOrder.{GoesBefore, GoesOver}

module _ {X : Type 0} (id : X → List ℕ) where
  -- what was passed stays before it
  abbrev pub Passed : List ℕ → List X → ℕ → Type 0
  Passed c xs i = (x : X) → id x ≡ c → put_by_id id x xs ≡ take i xs ++ put_by_id id x (drop i xs)

  at_head : (xs : List X) (i : ℕ) (y x : X) → i < length xs → y ≡ get_or xs i y
      → put_by_id id x (drop i xs) ≡ cond (precedes (id x) (id y)) (x ∷ drop i xs) (cond (bytes_eq (id x) (id y)) (x ∷ drop (suc i) xs) (y ∷ put_by_id id x (drop (suc i) xs)))
  at_head xs i y x lt is =
      let split : drop i xs ≡ y ∷ drop (suc i) xs = drop-cons xs i y lt ∙ ap (λ z. z ∷ drop (suc i) xs) (sym is) in
      ap (put_by_id id x) split
      ∙ ap (λ l. cond (precedes (id x) (id y)) (x ∷ l) (cond (bytes_eq (id x) (id y)) (x ∷ drop (suc i) xs) (y ∷ put_by_id id x (drop (suc i) xs)))) (sym split)

  pub goes_before : (c e : List ℕ) (xs : List X) (i : ℕ) (y : X) → i < length xs → y ≡ get_or xs i y → Passed c xs i → e ≡ id y → Less ≡ slice_cmp nat_cmp c e → GoesBefore id c xs i
  goes_before c e xs i y lt is before named o = record {
    within = omega (arith, lt);
    placed = λ x same.
        before x same
        ∙ ap (λ l. take i xs ++ l) (at_head xs i y x lt is
        ∙ ap (λ b. cond b (x ∷ drop i xs) (cond (bytes_eq (id x) (id y)) (x ∷ drop (suc i) xs) (y ∷ put_by_id id x (drop (suc i) xs))))
        (ap (λ n. precedes n (id y)) same ∙ ap (precedes c) (sym named) ∙ ap is_lt (sym o)));
  }

  pub goes_over : (c e : List ℕ) (xs : List X) (i : ℕ) (y : X) → i < length xs → y ≡ get_or xs i y → Passed c xs i → e ≡ id y → Equal ≡ slice_cmp nat_cmp c e → GoesOver id c xs i
  goes_over c e xs i y lt is before named o = record {
    within = lt;
    placed = λ x same.
        before x same
        ∙ ap (λ l. take i xs ++ l) (at_head xs i y x lt is
        ∙ ap (λ b. cond b (x ∷ drop i xs) (cond (bytes_eq (id x) (id y)) (x ∷ drop (suc i) xs) (y ∷ put_by_id id x (drop (suc i) xs))))
        (ap (λ n. precedes n (id y)) same ∙ ap (precedes c) (sym named) ∙ ap is_lt (sym o))
        ∙ ap (λ b. cond b (x ∷ drop (suc i) xs) (y ∷ put_by_id id x (drop (suc i) xs)))
        (ap (λ n. bytes_eq n (id y)) same ∙ ap (bytes_eq c) (sym named) ∙ sym (is_eq-slice_cmp c e) ∙ ap is_eq (sym o)));
  }

  pub goes_behind : (c e : List ℕ) (xs : List X) (i j : ℕ) (y : X) → i < length xs → y ≡ get_or xs i y → Passed c xs i → e ≡ id y → Greater ≡ slice_cmp nat_cmp c e → j ≡ i + 1 → Passed c xs j
  goes_behind c e xs i j y lt is before named o next x same =
      let n : j ≡ suc i = omega (arith, next) in
      before x same
      ∙ ap (λ l. take i xs ++ l) (at_head xs i y x lt is
      ∙ ap (λ b. cond b (x ∷ drop i xs) (cond (bytes_eq (id x) (id y)) (x ∷ drop (suc i) xs) (y ∷ put_by_id id x (drop (suc i) xs))))
      (ap (λ n. precedes n (id y)) same ∙ ap (precedes c) (sym named) ∙ ap is_lt (sym o))
      ∙ ap (λ b. cond b (x ∷ drop (suc i) xs) (y ∷ put_by_id id x (drop (suc i) xs)))
      (ap (λ n. bytes_eq n (id y)) same ∙ ap (bytes_eq c) (sym named) ∙ sym (is_eq-slice_cmp c e) ∙ ap is_eq (sym o)))
      ∙ sym (append_assoc (take i xs) (y ∷ []) (put_by_id id x (drop (suc i) xs)))
      ∙ ap (λ l. l ++ put_by_id id x (drop (suc i) xs)) (ap (λ z. take i xs ++ z ∷ []) is ∙ sym (take_more xs i y lt) ∙ ap (λ k. take k xs) (sym next))
      ∙ ap (λ k. take j xs ++ put_by_id id x (drop k xs)) (sym n)

  pub goes_last : (c : List ℕ) (xs : List X) (i : ℕ) → i ≡ length xs → Passed c xs i → GoesBefore id c xs i
  goes_last c xs i e before = record {
    within = omega (arith, e);
    placed = λ x same. before x same ∙ ap (λ l. take i xs ++ l) (ap (put_by_id id x) none ∙ ap (λ l. x ∷ l) (sym none));
  }
    where
      none : drop i xs ≡ []
      none = Rattle.std.proofs.lemmas.List.drop_all i xs (omega (arith, e))

  pub put_over : (xs seen : List X) (p : ℕ) (x : X) → seen ≡ xs → GoesOver id (id x) seen p → set xs p x ≡ put_by_id id x xs
  put_over xs seen p x e h = set_split xs p x (omega (arith, h.within, ap length e)) ∙ ap (λ l. take p l ++ x ∷ drop (suc p) l) (sym e) ∙ sym (h.placed x refl) ∙ ap (put_by_id id x) e
