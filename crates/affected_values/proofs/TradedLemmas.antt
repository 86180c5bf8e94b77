-- Values of rows that stand in two lists change places, in one walk over both.
use Rattle.std.proofs.Common.{ℕ, zero, suc, Bool, true, false, cond, not, ◌&&◌, ◌||◌, nat_eq, List, [], ◌∷◌, drop, length, slice_get, ◌≡◌, ◌<◌, ◌≤◌, refl, sym, ap, ◌∙◌, subst, Option, Some, arith}
use Rattle.std.proofs.lemmas.Bool.{eqb-true, eq-eqb, ne_eqb}
use Rattle.std.specs.List.{AllByRecursion}
use Rattle.cell_types.specs.declared.value.CellValue.{CellValue}
use Rattle.doc_model.specs.Rows.{IsAscending, has}
use Rattle.recalc.specs.Kept.{held_in}
use Rattle.recalc.proofs.PlaceLemmas.{held-set}
use Rattle.affected_values.specs.Relaid.{IsTraded}

abbrev Known : Type 0
Known = ℕ → Option CellValue

-- whether the row is still to come in both lists
abbrev pub is_ahead : List ℕ → ℕ → List ℕ → ℕ → ℕ → Bool
is_ahead rows i others j r = has (drop i rows) r && has (drop j others) r

-- what was known of the rows that were passed in both lists has changed places
pub record IsMidway (rows : List ℕ) (i : ℕ) (others : List ℕ) (j : ℕ) (a b now left : Known) : Type 0 where
  pub held : (r : ℕ) → now r ≡ cond ((has rows r && has others r) && not (is_ahead rows i others j r)) (b r) (a r)
  pub left_held : (r : ℕ) → left r ≡ cond ((has rows r && has others r) && not (is_ahead rows i others j r)) (a r) (b r)

none_yet : (x : Bool) → (x && not x) ≡ false
none_yet true = refl
none_yet false = refl

pub midway_start : (rows others : List ℕ) (a b : Known) → IsMidway rows 0 others 0 a b a b
midway_start rows others a b = record {
  held = λ r. ap (λ t. cond t (b r) (a r)) (sym (none_yet (has rows r && has others r)));
  left_held = λ r. ap (λ t. cond t (a r) (b r)) (sym (none_yet (has rows r && has others r)));
}

and_true : (x : Bool) → (x && true) ≡ x
and_true true = refl
and_true false = refl

pub midway_end : (rows : List ℕ) (i : ℕ) (others : List ℕ) (j : ℕ) (a b now left : Known) → ((r : ℕ) → is_ahead rows i others j r ≡ false) → IsMidway rows i others j a b now left
    → (r : ℕ) → (now r ≡ cond (has rows r && has others r) (b r) (a r)) × (left r ≡ cond (has rows r && has others r) (a r) (b r))
midway_end rows i others j a b now left none m r =
    let all : ((has rows r && has others r) && not (is_ahead rows i others j r)) ≡ (has rows r && has others r) = ap (λ t. (has rows r && has others r) && not t) (none r) ∙ and_true (has rows r && has others r) in
    (m.held r ∙ ap (λ t. cond t (b r) (a r)) all, m.left_held r ∙ ap (λ t. cond t (a r) (b r)) all)

-- past a row that the other list does not have
pub midway_same : (rows : List ℕ) (i h : ℕ) (others : List ℕ) (j k : ℕ) (a b now left : Known) → ((r : ℕ) → is_ahead rows i others j r ≡ is_ahead rows h others k r) → IsMidway rows i others j a b now left → IsMidway rows h others k a b now left
midway_same rows i h others j k a b now left same m = record {
  held = λ r. m.held r ∙ ap (λ t. cond ((has rows r && has others r) && not t) (b r) (a r)) (same r);
  left_held = λ r. m.left_held r ∙ ap (λ t. cond ((has rows r && has others r) && not t) (a r) (b r)) (same r);
}

-- past a row that both lists have
pub midway_next : (rows : List ℕ) (i : ℕ) (others : List ℕ) (j x : ℕ) (a b now left next rest : Known)
    → has rows x ≡ true → has others x ≡ true → is_ahead rows i others j x ≡ true → is_ahead rows (suc i) others (suc j) x ≡ false
    → ((r : ℕ) → nat_eq x r ≡ false → is_ahead rows i others j r ≡ is_ahead rows (suc i) others (suc j) r)
    → ((r : ℕ) → nat_eq x r ≡ true → x ≡ r)
    → ((r : ℕ) → next r ≡ cond (nat_eq x r) (left x) (now r)) → ((r : ℕ) → rest r ≡ cond (nat_eq x r) (now x) (left r))
    → IsMidway rows i others j a b now left → IsMidway rows (suc i) others (suc j) a b next rest
midway_next rows i others j x a b now left next rest in_rows in_others here gone same is put put_rest m = record {
  held = λ r. put r ∙ by_held r (nat_eq x r) refl;
  left_held = λ r. put_rest r ∙ by_left r (nat_eq x r) refl;
}
  where
    ahead_x : ((has rows x && has others x) && not (is_ahead rows i others j x)) ≡ false
    ahead_x = ap (λ t. (has rows x && has others x) && not t) here ∙ none (has rows x && has others x)
      where
        none : (t : Bool) → (t && false) ≡ false
        none true = refl
        none false = refl

    past_x : ((has rows x && has others x) && not (is_ahead rows (suc i) others (suc j) x)) ≡ true
    past_x = (λ k. (in_rows k && in_others k) && not (gone k))

    by_held : (r : ℕ) (t : Bool) → nat_eq x r ≡ t → cond t (left x) (now r) ≡ cond ((has rows r && has others r) && not (is_ahead rows (suc i) others (suc j) r)) (b r) (a r)
    by_held r true e =
        m.left_held x ∙ ap (λ u. cond u (a x) (b x)) ahead_x ∙ sym (ap (λ u. cond u (b x) (a x)) past_x)
        ∙ ap (λ y. cond ((has rows y && has others y) && not (is_ahead rows (suc i) others (suc j) y)) (b y) (a y)) (is r e)
    by_held r false e = m.held r ∙ ap (λ u. cond ((has rows r && has others r) && not u) (b r) (a r)) (same r e)

    by_left : (r : ℕ) (t : Bool) → nat_eq x r ≡ t → cond t (now x) (left r) ≡ cond ((has rows r && has others r) && not (is_ahead rows (suc i) others (suc j) r)) (a r) (b r)
    by_left r true e =
        m.held x ∙ ap (λ u. cond u (b x) (a x)) ahead_x ∙ sym (ap (λ u. cond u (a x) (b x)) past_x)
        ∙ ap (λ y. cond ((has rows y && has others y) && not (is_ahead rows (suc i) others (suc j) y)) (a y) (b y)) (is r e)
    by_left r false e = m.left_held r ∙ ap (λ u. cond ((has rows r && has others r) && not u) (a r) (b r)) (same r e)

-- ---- what is ahead in lists that ascend

pub ahead_more : (rows : List ℕ) (i x r : ℕ) → slice_get rows i ≡ Some x → has (drop i rows) r ≡ (nat_eq x r || has (drop (suc i) rows) r)
ahead_more [] zero x r h = absurd (cc)
ahead_more [] (suc i) x r h = absurd (cc)
ahead_more (q ∷ rows) zero x r h = let same : q ≡ x = cc in ap (λ y. nat_eq y r || has rows r) same
ahead_more (q ∷ rows) (suc i) x r h = ahead_more rows i x r h

-- all that follows is above
above : (rows : List ℕ) (i x : ℕ) → IsAscending rows → slice_get rows i ≡ Some x → AllByRecursion (λ q. x < q) (drop (suc i) rows)
above [] zero x a h = absurd (cc)
above [] (suc i) x a h = absurd (cc)
above (q ∷ rows) zero x a h = let same : q ≡ x = cc in subst (λ y. AllByRecursion (λ z. y < z) rows) same a.0
above (q ∷ rows) (suc i) x a h = above rows i x a.1 h

not_above : (rows : List ℕ) (x r : ℕ) → AllByRecursion (λ q. x < q) rows → r ≤ x → has rows r ≡ false
not_above [] x r a h = refl
not_above (q ∷ rows) x r a h =
    let lt : x < q = a.0 in
    ap (λ b. b || has rows r) (ne_eqb q r (λ e. absurd (omega (arith, e, lt, h)))) ∙ not_above rows x r a.1 h

none_both : (a b o : Bool) → (a ≡ true → o ≡ false) → ((a || b) && o) ≡ (b && o)
none_both false b o h = refl
none_both true true o h = refl
none_both true false o h = h refl

and_swap : (a b : Bool) → (a && b) ≡ (b && a)
and_swap true true = refl
and_swap true false = refl
and_swap false true = refl
and_swap false false = refl

module _ (rows : List ℕ) (i : ℕ) (others : List ℕ) (j x y : ℕ) (a : IsAscending rows) (b : IsAscending others) (here : slice_get rows i ≡ Some x) (there : slice_get others j ≡ Some y) where
  -- a row below the next of the other list is not in what is ahead there
  not_there : (r : ℕ) → r < y → has (drop j others) r ≡ false
  not_there r lt = ahead_more others j y r there ∙ ap (λ t. t || has (drop (suc j) others) r) (ne_eqb y r (λ e. absurd (omega (arith, e, lt)))) ∙ not_above (drop (suc j) others) y r (above others j y b there) (omega (arith, lt))

  pub ahead_first : x < y → (r : ℕ) → is_ahead rows i others j r ≡ is_ahead rows (suc i) others j r
  ahead_first lt r =
      ap (λ t. t && has (drop j others) r) (ahead_more rows i x r here)
      ∙ none_both (nat_eq x r) (has (drop (suc i) rows) r) (has (drop j others) r) (λ e. not_there r (let same : x ≡ r = eqb-true x r e in omega (arith, same, lt)))

  not_here : (r : ℕ) → r < x → has (drop i rows) r ≡ false
  not_here r lt = ahead_more rows i x r here ∙ ap (λ t. t || has (drop (suc i) rows) r) (ne_eqb x r (λ e. absurd (omega (arith, e, lt)))) ∙ not_above (drop (suc i) rows) x r (above rows i x a here) (omega (arith, lt))

  pub ahead_second : y < x → (r : ℕ) → is_ahead rows i others j r ≡ is_ahead rows i others (suc j) r
  ahead_second lt r =
      ap (λ t. has (drop i rows) r && t) (ahead_more others j y r there)
      ∙ and_swap (has (drop i rows) r) (nat_eq y r || has (drop (suc j) others) r)
      ∙ none_both (nat_eq y r) (has (drop (suc j) others) r) (has (drop i rows) r) (λ e. not_here r (let same : y ≡ r = eqb-true y r e in omega (arith, same, lt)))
      ∙ and_swap (has (drop (suc j) others) r) (has (drop i rows) r)

  module _ (same : x ≡ y) where
    pub here_ahead : is_ahead rows i others j x ≡ true
    here_ahead = (λ k. ahead_more rows i x x here k && ahead_more others j y x there k) ∙ (λ k. (eq-eqb x x refl k || has (drop (suc i) rows) x) && (eq-eqb y x (sym same) k || has (drop (suc j) others) x))

    pub here_gone : is_ahead rows (suc i) others (suc j) x ≡ false
    here_gone = ap (λ t. t && has (drop (suc j) others) x) (not_above (drop (suc i) rows) x x (above rows i x a here) (omega arith))

    pub others_ahead : (r : ℕ) → nat_eq x r ≡ false → is_ahead rows i others j r ≡ is_ahead rows (suc i) others (suc j) r
    others_ahead r e =
        (λ k. ahead_more rows i x r here k && ahead_more others j y r there k)
        ∙ (λ k. (e k || has (drop (suc i) rows) r) && ((ap (λ z. nat_eq z r) (sym same) ∙ e) k || has (drop (suc j) others) r))

has_at : (rows : List ℕ) (i x : ℕ) → slice_get rows i ≡ Some x → has rows x ≡ true
has_at [] zero x h = absurd (cc)
has_at [] (suc i) x h = absurd (cc)
has_at (q ∷ rows) zero x h = let same : q ≡ x = cc in ap (λ b. b || has rows x) (eq-eqb q x same)
has_at (q ∷ rows) (suc i) x h = or_true (nat_eq q x) (has rows x) (has_at rows i x h)
  where
    or_true : (a b : Bool) → b ≡ true → (a || b) ≡ true
    or_true true b h = refl
    or_true false b h = h

-- where one list has passed, nothing is ahead
pub none_ahead : (rows : List ℕ) (i : ℕ) (others : List ℕ) (j : ℕ) → length rows ≤ i → (r : ℕ) → is_ahead rows i others j r ≡ false
none_ahead [] zero others j h r = refl
none_ahead [] (suc i) others j h r = refl
none_ahead (q ∷ rows) zero others j h r = absurd (omega (arith, h))
none_ahead (q ∷ rows) (suc i) others j h r = none_ahead rows i others j (omega (arith, h)) r

-- ---- one value in its place

pub held-at : (rows : List ℕ) (vs : List (Option CellValue)) (p r : ℕ) (v : Option CellValue) → IsAscending rows → slice_get rows p ≡ Some r → slice_get vs p ≡ Some v → held_in rows vs r ≡ v
held-at [] vs zero r v a h g = absurd (cc)
held-at [] vs (suc p) r v a h g = absurd (cc)
held-at (x ∷ rows) [] zero r v a h g = absurd (cc)
held-at (x ∷ rows) [] (suc p) r v a h g = absurd (cc)
held-at (x ∷ rows) (w ∷ vs) zero r v a h g = let same : x ≡ r = cc in let is : w ≡ v = cc in ap (λ b. cond b w (held_in rows vs r)) (eq-eqb x r same) ∙ is
held-at (x ∷ rows) (w ∷ vs) (suc p) r v a h g =
    ap (λ b. cond b w (held_in rows vs r)) (ne_eqb x r (λ e. absurd (omega (arith, e, at_above rows p r a.0 h)))) ∙ held-at rows vs p r v a.1 h g
  where
    at_above : (ys : List ℕ) (p r : ℕ) → AllByRecursion (λ q. x < q) ys → slice_get ys p ≡ Some r → x < r
    at_above [] zero r a h = absurd (cc)
    at_above [] (suc p) r a h = absurd (cc)
    at_above (y ∷ ys) zero r a h = let same : y ≡ r = cc in subst (λ z. x < z) same a.0
    at_above (y ∷ ys) (suc p) r a h = at_above ys p r a.1 h

within_of : {X : Type 0} (xs : List X) (i : ℕ) (x : X) → slice_get xs i ≡ Some x → i < length xs
within_of [] zero x h = absurd (cc)
within_of [] (suc i) x h = absurd (cc)
within_of (y ∷ xs) zero x h = omega arith
within_of (y ∷ xs) (suc i) x h = let l : i < length xs = within_of xs i x h in omega (arith, l)

-- the values of a row in both lists have changed places
pub midway_traded : (rows : List ℕ) (i : ℕ) (others : List ℕ) (j x y : ℕ) (first second vs ws new left : List (Option CellValue)) → IsAscending rows → IsAscending others
    → slice_get rows i ≡ Some x → slice_get others j ≡ Some y → x ≡ y → IsTraded vs i ws j new left
    → IsMidway rows i others j (held_in rows first) (held_in others second) (held_in rows vs) (held_in others ws)
    → IsMidway rows (suc i) others (suc j) (held_in rows first) (held_in others second) (held_in rows new) (held_in others left)
midway_traded rows i others j x y first second vs ws new left a b here there same t m =
    midway_next rows i others j x (held_in rows first) (held_in others second) (held_in rows vs) (held_in others ws) (held_in rows new) (held_in others left)
    (has_at rows i x here) (has_at others j x there_x) (here_ahead rows i others j x y a b here there same) (here_gone rows i others j x y a b here there same) (others_ahead rows i others j x y a b here there same) (λ r e. eqb-true x r e)
    (λ r. ap (λ l. held_in rows l r) t.now ∙ held-set rows vs i x t.other r a here (within_of vs i t.one t.here) ∙ ap (λ o. cond (nat_eq x r) o (held_in rows vs r)) (sym (held-at others ws j x t.other b there_x t.there)))
    (λ r. ap (λ l. held_in others l r) t.others ∙ held-set others ws j x t.one r b there_x (within_of ws j t.other t.there) ∙ ap (λ o. cond (nat_eq x r) o (held_in others ws r)) (sym (held-at rows vs i x t.one a here t.here)))
    m
  where
    there_x : slice_get others j ≡ Some x
    there_x = there ∙ ap (λ z. Some z) (sym same)
