-- Rows in ascending order: what stands in them after a change, and that they are told by what stands in them.
use Rattle.std.proofs.Common.{ℕ, Bool, true, false, cond, not, ◌||◌, ◌&&◌, List, [], ◌∷◌, filter, ◌≡◌, ◌<◌, ◌≤◌, refl, sym, ap, subst, ◌∙◌, ⊎_elim, arith, eqb, ltb}
use Rattle.std.proofs.lemmas.Bool.{false≢true, true≢false, eqb-true, eqb-false, ne_eqb, eq-eqb, or_right, both_ways, ltb-true, ltb-false, cases_order}
use Rattle.std.specs.List.{AllByRecursion}
use Rattle.doc_model.specs.Rows.{has, insert_row, insert_rows, without, all_in, none_in, IsAscending}
use Rattle.doc_model.proofs.Choices.{each_weaker, or_swap, or_assoc, or_false, not_true, each_true, true_each}

pub number_itself : (n : ℕ) → eqb n n ≡ true
number_itself n = eq-eqb n n refl

-- what holds of each row that stands in the list holds of each element
pub each_has : (P : ℕ → Type 0) (rs : List ℕ) → ((r : ℕ) → has rs r ≡ true → P r) → AllByRecursion P rs
each_has P [] h = tt
each_has P (r ∷ rs) h = (h r (ap (λ b. b || has rs r) (number_itself r)), each_has P rs (λ q e. h q (or_right (eqb r q) (has rs q) e)))

twice : (a b : Bool) → (a || b) ≡ (a || (a || b))
twice true b = refl
twice false b = refl

pub has-insert_row : (r : ℕ) (rs : List ℕ) (q : ℕ) → has (insert_row r rs) q ≡ (eqb r q || has rs q)
has-insert_row r [] q = refl
has-insert_row r (p ∷ rs) q =
    elim (ltb r p) as (λ b. has (cond b (r ∷ p ∷ rs) (cond (eqb r p) (p ∷ rs) (p ∷ insert_row r rs))) q ≡ (eqb r q || (eqb p q || has rs q))) [
      | true ↦ refl
      | false ↦ elim (eqb r p) as (λ b. eqb r p ≡ b → has (cond b (p ∷ rs) (p ∷ insert_row r rs)) q ≡ (eqb r q || (eqb p q || has rs q))) [
        | true ↦ λ is. twice (eqb p q) (has rs q) ∙ ap (λ z. eqb z q || (eqb p q || has rs q)) (sym (eqb-true r p is))
        | false ↦ λ _. ap (λ b. eqb p q || b) (has-insert_row r rs q) ∙ or_swap (eqb p q) (eqb r q) (has rs q)
      ] refl
    ]

pub has-insert_rows : (qs rs : List ℕ) (q : ℕ) → has (insert_rows qs rs) q ≡ (has qs q || has rs q)
has-insert_rows [] rs q = refl
has-insert_rows (p ∷ qs) rs q = has-insert_row p (insert_rows qs rs) q ∙ ap (λ b. eqb p q || b) (has-insert_rows qs rs q) ∙ or_assoc (eqb p q) (has qs q) (has rs q)

-- a row below each is not among them
pub has_below : (r : ℕ) (rs : List ℕ) → AllByRecursion (λ q. r < q) rs → has rs r ≡ false
has_below r [] h = refl
has_below r (q ∷ rs) h = ap (λ b. b || has rs r) (ne_eqb q r (λ e. absurd (omega arith))) ∙ has_below r rs h.1

below_insert : (p r : ℕ) (rs : List ℕ) → p < r → AllByRecursion (λ q. p < q) rs → AllByRecursion (λ q. p < q) (insert_row r rs)
below_insert p r [] l h = (l, tt)
below_insert p r (q ∷ rs) l h =
    elim (ltb r q) as (λ b. AllByRecursion (λ q. p < q) (cond b (r ∷ q ∷ rs) (cond (eqb r q) (q ∷ rs) (q ∷ insert_row r rs)))) [
      | true ↦ (l, h)
      | false ↦ elim (eqb r q) as (λ b. AllByRecursion (λ q. p < q) (cond b (q ∷ rs) (q ∷ insert_row r rs))) [ true ↦ h | false ↦ (h.0, below_insert p r rs l h.1) ]
    ]

pub IsAscending-insert_row : (r : ℕ) (rs : List ℕ) → IsAscending rs → IsAscending (insert_row r rs)
IsAscending-insert_row r [] a = (tt, tt)
IsAscending-insert_row r (q ∷ rs) a =
    elim (ltb r q) as (λ b. ltb r q ≡ b → IsAscending (cond b (r ∷ q ∷ rs) (cond (eqb r q) (q ∷ rs) (q ∷ insert_row r rs)))) [
      | true ↦ λ is. let lt : r < q = ltb-true r q is in ((lt, each_weaker (λ p. q < p) (λ p. r < p) (λ p l. omega arith) rs a.0), a)
      | false ↦ λ isnt. elim (eqb r q) as (λ b. eqb r q ≡ b → IsAscending (cond b (q ∷ rs) (q ∷ insert_row r rs))) [
        | true ↦ λ _. a
        | false ↦ λ apart.
            let ne : r ≡ q → ⊥ = eqb-false r q apart in
            let le : q ≤ r = ltb-false r q isnt in
            let lt : q < r = omega arith in
            (below_insert q r rs lt a.0, IsAscending-insert_row r rs a.1)
      ] refl
    ] refl

pub IsAscending-insert_rows : (qs rs : List ℕ) → IsAscending rs → IsAscending (insert_rows qs rs)
IsAscending-insert_rows [] rs a = a
IsAscending-insert_rows (q ∷ qs) rs a = IsAscending-insert_row q (insert_rows qs rs) (IsAscending-insert_rows qs rs a)

module _ (p : ℕ → Bool) where
  pub has-filter : (rs : List ℕ) (q : ℕ) → has (filter p rs) q ≡ (p q && has rs q)
  has-filter [] q = elim (p q) as (λ b. false ≡ (b && false)) [ true ↦ refl | false ↦ refl ]
  has-filter (r ∷ rs) q =
      elim (p r) as (λ b. p r ≡ b → has (cond b (r ∷ filter p rs) (filter p rs)) q ≡ (p q && (eqb r q || has rs q))) [
        | true ↦ λ is. elim (eqb r q) as (λ c. eqb r q ≡ c → (c || has (filter p rs) q) ≡ (p q && (c || has rs q))) [
          | true ↦ λ same. ap (λ b. b && true) (sym (sym (ap p (eqb-true r q same)) ∙ is))
          | false ↦ λ _. has-filter rs q
        ] refl
        | false ↦ λ is. elim (eqb r q) as (λ c. eqb r q ≡ c → has (filter p rs) q ≡ (p q && (c || has rs q))) [
          | true ↦ λ same. let no : p q ≡ false = sym (ap p (eqb-true r q same)) ∙ is in has-filter rs q ∙ ap (λ b. b && has rs q) no ∙ sym (ap (λ b. b && true) no)
          | false ↦ λ _. has-filter rs q
        ] refl
      ] refl

  below_filter : (r : ℕ) (rs : List ℕ) → AllByRecursion (λ q. r < q) rs → AllByRecursion (λ q. r < q) (filter p rs)
  below_filter r [] h = tt
  below_filter r (q ∷ rs) h = elim (p q) as (λ b. AllByRecursion (λ q. r < q) (cond b (q ∷ filter p rs) (filter p rs))) [ true ↦ (h.0, below_filter r rs h.1) | false ↦ below_filter r rs h.1 ]

  pub IsAscending-filter : (rs : List ℕ) → IsAscending rs → IsAscending (filter p rs)
  IsAscending-filter [] a = tt
  IsAscending-filter (r ∷ rs) a = elim (p r) as (λ b. IsAscending (cond b (r ∷ filter p rs) (filter p rs))) [ true ↦ (below_filter r rs a.0, IsAscending-filter rs a.1) | false ↦ IsAscending-filter rs a.1 ]

-- a row below the first is not among the rows
has_low : (q y : ℕ) (ys : List ℕ) → q < y → IsAscending (y ∷ ys) → has (y ∷ ys) q ≡ false
has_low q y ys l b = has_below q (y ∷ ys) (l, each_weaker (λ p. y < p) (λ p. q < p) (λ p m. omega arith) ys b.0)

has_first : (x : ℕ) (xs : List ℕ) → has (x ∷ xs) x ≡ true
has_first x xs = ap (λ c. c || has xs x) (number_itself x)

first_same : (x y : ℕ) (xs ys : List ℕ) → IsAscending (x ∷ xs) → IsAscending (y ∷ ys) → ((q : ℕ) → has (x ∷ xs) q ≡ has (y ∷ ys) q) → x ≡ y
first_same x y xs ys a b h =
    ⊎_elim (λ e. e)
    (⊎_elim
    (λ l. absurd (both_ways (has (y ∷ ys) x) (has_low x y ys l b) (sym (h x) ∙ has_first x xs)))
    (λ l. absurd (both_ways (has (x ∷ xs) y) (has_low y x xs l a) (h y ∙ has_first y ys))))
    (cases_order x y)

rest_same : (x : ℕ) (xs ys : List ℕ) → IsAscending (x ∷ xs) → IsAscending (x ∷ ys) → ((q : ℕ) → has (x ∷ xs) q ≡ has (x ∷ ys) q) → (q : ℕ) → has xs q ≡ has ys q
rest_same x xs ys a b h q =
    elim (eqb x q) as (λ c. eqb x q ≡ c → (c || has xs q) ≡ (c || has ys q) → has xs q ≡ has ys q) [
      | true ↦ λ is _. let e : x ≡ q = eqb-true x q is in
          has_below q xs (rw (← e) a.0) ∙ sym (has_below q ys (rw (← e) b.0))
      | false ↦ λ _ e. e
    ] refl (h q)

-- ascending rows are told by what stands in them
pub same_ascending : (xs ys : List ℕ) → IsAscending xs → IsAscending ys → ((q : ℕ) → has xs q ≡ has ys q) → xs ≡ ys
same_ascending [] [] a b h = refl
same_ascending [] (y ∷ ys) a b h = absurd (false≢true (h y ∙ has_first y ys))
same_ascending (x ∷ xs) [] a b h = absurd (true≢false (sym (has_first x xs) ∙ h x))
same_ascending (x ∷ xs) (y ∷ ys) a b h =
    let same : x ≡ y = first_same x y xs ys a b h in
    let b' : IsAscending (x ∷ ys) = rw same b in
    let h' : (q : ℕ) → has (x ∷ xs) q ≡ has (x ∷ ys) q = λ q. h q ∙ ap (λ z. eqb z q || has ys q) (sym same) in
    ap (λ z. z ∷ xs) same ∙ ap (λ zs. y ∷ zs) (same_ascending xs ys a.1 b.1 (rest_same x xs ys a b' h'))

-- what holds of each holds of one that stands among them
pub each_at : (P : ℕ → Type 0) (rs : List ℕ) (r : ℕ) → AllByRecursion P rs → has rs r ≡ true → P r
each_at P [] r h e = absurd (false≢true e)
each_at P (q ∷ rs) r h e =
    elim (eqb q r) as (λ b. eqb q r ≡ b → (b || has rs r) ≡ true → P r) [
      | true ↦ λ is _. subst P (eqb-true q r is) h.0
      | false ↦ λ _ e. each_at P rs r h.1 e
    ] refl e

in_either : (b c : Bool) → (b ≡ true → c ≡ true) → (b || (not b && c)) ≡ c
in_either true c f = sym (f refl)
in_either false c f = refl

merged : (b c : Bool) → ((not b && c) || (not (not c && b) && b)) ≡ c
merged true true = refl
merged true false = refl
merged false true = refl
merged false false = refl

-- the rows that are not wanted taken out, and then the missing ones put in
pub insert_rows-without : (gs ws : List ℕ) → IsAscending gs → IsAscending ws → insert_rows (without gs ws) (without (without ws gs) gs) ≡ ws
insert_rows-without gs ws a b =
    same_ascending (insert_rows (without gs ws) (without (without ws gs) gs)) ws
    (IsAscending-insert_rows (without gs ws) (without (without ws gs) gs) (IsAscending-filter (λ r. not (has (without ws gs) r)) gs a)) b
    (λ q. has-insert_rows (without gs ws) (without (without ws gs) gs) q
    ∙ ap (λ c. c || has (without (without ws gs) gs) q) (has-filter (λ r. not (has gs r)) ws q)
    ∙ ap (λ c. (not (has gs q) && has ws q) || c) (has-filter (λ r. not (has (without ws gs) r)) gs q ∙ ap (λ c. not c && has gs q) (has-filter (λ r. not (has ws r)) gs q))
    ∙ merged (has gs q) (has ws q))

out_of_both : (b c : Bool) → (b ≡ true → c ≡ false) → (not b && (b || c)) ≡ c
out_of_both true c f = sym (f refl)
out_of_both false c f = refl

-- rows that stand in both
pub none_in_at : (qs rs : List ℕ) (q : ℕ) → none_in qs rs ≡ true → has qs q ≡ true → has rs q ≡ false
none_in_at qs rs q h here = not_true (has rs q) (each_at (λ q. not (has rs q) ≡ true) qs q (each_true (λ q. not (has rs q)) qs h) here)

pub all_in_at : (qs rs : List ℕ) (q : ℕ) → all_in qs rs ≡ true → has qs q ≡ true → has rs q ≡ true
all_in_at qs rs q h here = each_at (λ q. has rs q ≡ true) qs q (each_true (λ q. has rs q) qs h) here

-- new rows put in and taken out
pub without-insert_rows : (qs rs : List ℕ) → IsAscending rs → none_in qs rs ≡ true → without qs (insert_rows qs rs) ≡ rs
without-insert_rows qs rs a h =
    same_ascending (without qs (insert_rows qs rs)) rs (IsAscending-filter (λ r. not (has qs r)) (insert_rows qs rs) (IsAscending-insert_rows qs rs a)) a
    (λ q. has-filter (λ r. not (has qs r)) (insert_rows qs rs) q ∙ ap (λ b. not (has qs q) && b) (has-insert_rows qs rs q)
    ∙ out_of_both (has qs q) (has rs q) (none_in_at qs rs q h))

-- rows taken out and put back
pub insert_rows-again : (qs rs : List ℕ) → IsAscending rs → all_in qs rs ≡ true → insert_rows qs (without qs rs) ≡ rs
insert_rows-again qs rs a h =
    same_ascending (insert_rows qs (without qs rs)) rs (IsAscending-insert_rows qs (without qs rs) (IsAscending-filter (λ r. not (has qs r)) rs a)) a
    (λ q. has-insert_rows qs (without qs rs) q ∙ ap (λ b. has qs q || b) (has-filter (λ r. not (has qs r)) rs q)
    ∙ in_either (has qs q) (has rs q) (all_in_at qs rs q h))

-- rows put in where there is none
pub insert_rows-all : (rs : List ℕ) → IsAscending rs → insert_rows rs [] ≡ rs
insert_rows-all rs a = same_ascending (insert_rows rs []) rs (IsAscending-insert_rows rs [] tt) a (λ q. has-insert_rows rs [] q ∙ or_false (has rs q))

pub all_in_itself : (rs : List ℕ) → all_in rs rs ≡ true
all_in_itself rs = true_each (λ q. has rs q) rs (each_has (λ q. has rs q ≡ true) rs (λ q here. here))

-- none of the rows that were taken out is left
pub none_in-without : (qs rs : List ℕ) → none_in qs (without qs rs) ≡ true
none_in-without qs rs = true_each (λ q. not (has (without qs rs) q)) qs (each_has (λ q. not (has (without qs rs) q) ≡ true) qs (λ q here. ap not (has-filter (λ r. not (has qs r)) rs q ∙ ap (λ b. not b && has rs q) here)))

pub all_in-insert_rows : (qs rs : List ℕ) → all_in qs (insert_rows qs rs) ≡ true
all_in-insert_rows qs rs = true_each (λ q. has (insert_rows qs rs) q) qs (each_has (λ q. has (insert_rows qs rs) q ≡ true) qs (λ q here. has-insert_rows qs rs q ∙ ap (λ b. b || has rs q) here))
