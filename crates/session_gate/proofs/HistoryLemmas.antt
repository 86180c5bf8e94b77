-- The calls of one pass in a history, and what a pass has seen of it.
use Rattle.std.proofs.Common.{◌≡◌, ◌≢◌, ℕ, zero, suc, ◌+◌, ◌==◌, ◌<◌, ◌≤◌, nat_lt, Bool, true, false, List, [], ◌∷◌, ◌++◌, length, map, take, drop, inl, inr, ◌⊎◌, ⊎_elim, refl, ap, sym, subst, ◌∙◌, arith, Some, None, if◌then◌else◌, slice_get, append_assoc}
use mathlib.Core.List.{IsPrefix}
use Rattle.session_gate.specs.declared.known.Made.{Made}
use Rattle.session_gate.specs.History.{brought, is_by, calls_by, entries_of, made_by, entry_of, grown, Leads, IsLegal}
use Rattle.session_gate.specs.Known.{longer}
use Rattle.session_gate.specs.Rule.{IsSeen}
use Rattle.std.proofs.lemmas.List.{append-nil, take-append-le, map-append, length-map}
use Rattle.std.proofs.Math.Seq.{take-append_seam, take-append-add, drop-append_seam, drop-length}
use Rattle.std.proofs.lemmas.Option.{slice_get_within}
use Rattle.std.proofs.lemmas.Bool.Decides.{nat_tests}
use Rattle.session_gate.proofs.Lists.{prefix_trans, prefix_length, prefix_between, prefix_whole, snoc_get}

module _ {E : Type 0} where
  joined : (b : Bool) (x : E) (xs ys : List E) → (if b then x ∷ (xs ++ ys) else (xs ++ ys)) ≡ (if b then x ∷ xs else xs) ++ ys
  joined true x xs ys = refl
  joined false x xs ys = refl

  pub calls-append : (n : ℕ) (xs ys : List (Made E)) → calls_by n (xs ++ ys) ≡ calls_by n xs ++ calls_by n ys
  calls-append n [] ys = refl
  calls-append n (x ∷ xs) ys = ap (λ (zs : List E). if is_by n x.by then x.entry ∷ zs else zs) (calls-append n xs ys) ∙ joined (is_by n x.by) x.entry (calls_by n xs) (calls_by n ys)

  pub nothing_more : (xs ys : List E) → xs ++ ys ≡ xs → ys ≡ []
  nothing_more [] ys e = e
  nothing_more (x ∷ xs) ys e = nothing_more xs ys (cc)

  -- what a pass does not have in the part that it has seen, it does not have between
  pub none_between : (n : ℕ) (log seen between : List (Made E)) → seen ++ between ≡ log → calls_by n log ≡ calls_by n seen → calls_by n between ≡ []
  none_between n log seen between whole own = nothing_more (calls_by n seen) (calls_by n between) (sym (calls-append n seen between) ∙ (ap (calls_by n) whole ∙ own))

  seen_length : (seen : List (Made E)) → length (entries_of seen) ≡ length seen
  seen_length seen = length-map seen entry_of

  pub grown_same : (n : ℕ) (seen : List (Made E)) (h : List E) → h ≡ entries_of seen → grown n seen h ≡ seen
  grown_same n seen h e =
      let none : drop (length seen) h ≡ [] = ap (drop (length seen)) e ∙ (ap (λ (k : ℕ). drop k (entries_of seen)) (sym (seen_length seen)) ∙ drop-length (entries_of seen)) in
      ap (λ (xs : List E). seen ++ map (made_by n) xs) none ∙ append-nil seen

  pub grown_more : (n : ℕ) (seen : List (Made E)) (h : List E) (x : E) → h ≡ entries_of seen ++ x ∷ [] → grown n seen h ≡ seen ++ made_by n x ∷ []
  grown_more n seen h x e =
      let one : drop (length seen) h ≡ x ∷ [] = ap (drop (length seen)) e ∙ (ap (λ (k : ℕ). drop k (entries_of seen ++ x ∷ [])) (sym (seen_length seen)) ∙ drop-append_seam (entries_of seen) (x ∷ [])) in
      ap (λ (xs : List E). seen ++ map (made_by n) xs) one

  pub entries_more : (n : ℕ) (seen : List (Made E)) (x : E) → entries_of (seen ++ made_by n x ∷ []) ≡ entries_of seen ++ x ∷ []
  entries_more n seen x = map-append entry_of seen (made_by n x ∷ [])

  own_one : (b : Bool) (x : E) → b ≡ true → (if b then x ∷ [] else []) ≡ x ∷ []
  own_one true x e = refl
  own_one false x e = absurd (cc)

  other_one : (b : Bool) (x : E) → b ≡ false → (if b then x ∷ [] else []) ≡ []
  other_one false x e = refl
  other_one true x e = absurd (cc)

  pub calls_own : (n : ℕ) (log : List (Made E)) (x : E) → calls_by n (log ++ made_by n x ∷ []) ≡ calls_by n log ++ x ∷ []
  calls_own n log x = calls-append n log (made_by n x ∷ []) ∙ ap (λ (ys : List E). calls_by n log ++ ys) (own_one (n == n) x (grind (arith, nat_tests)))

  pub calls_other : (n m : ℕ) (log : List (Made E)) (x : E) → n ≢ m → calls_by n (log ++ made_by m x ∷ []) ≡ calls_by n log
  calls_other n m log x other = calls-append n log (made_by m x ∷ []) ∙ (ap (λ (ys : List E). calls_by n log ++ ys) (other_one (n == m) x (grind (arith, nat_tests))) ∙ append-nil (calls_by n log))

  nothing_front : (xs ys : List E) → xs ++ ys ≡ [] → xs ≡ []
  nothing_front [] ys e = refl
  nothing_front (x ∷ xs) ys e = absurd (cc)

  -- whoever has no calls in the history has none in a beginning of it
  pub none_seen : (n : ℕ) (log seen : List (Made E)) → IsPrefix seen log → calls_by n log ≡ [] → calls_by n seen ≡ []
  none_seen n log seen p none = nothing_front (calls_by n seen) (calls_by n p.0) (sym (calls-append n seen p.0) ∙ (ap (calls_by n) p.1 ∙ none))

  pub entries_brought : (h : List E) → entries_of (map brought h) ≡ h
  entries_brought [] = refl
  entries_brought (x ∷ xs) = ap (λ (ys : List E). x ∷ ys) (entries_brought xs)

  pub calls_brought : (n : ℕ) (h : List E) → calls_by n (map brought h) ≡ []
  calls_brought n [] = refl
  calls_brought n (x ∷ xs) = calls_brought n xs

  -- what was brought has no number
  pub brought_alone : (h : List E) (k : ℕ) (x : Made E) → slice_get (map brought h) k ≡ Some x → x.by ≡ None
  brought_alone [] k x e = absurd (cc)
  brought_alone (y ∷ ys) zero x e = let f : brought y ≡ x = cc in ap (λ (m : Made E). m.by) (sym f)
  brought_alone (y ∷ ys) (suc k) x e = brought_alone ys k x e

module _ {E : Type 0} where
  nothing_back : (xs ys : List E) → xs ++ ys ≡ [] → ys ≡ []
  nothing_back [] ys e = e
  nothing_back (x ∷ xs) ys e = absurd (cc)

  -- whoever has no calls beyond a beginning of the history has none beyond a longer one
  pub own_longer : (n : ℕ) (log seen more : List (Made E)) → IsPrefix seen log → IsPrefix more log → length seen ≤ length more → calls_by n log ≡ calls_by n seen → calls_by n log ≡ calls_by n more
  own_longer n log seen more p q le own =
      let between = prefix_between seen more log p q le in
      let whole : (seen ++ between.0) ++ q.0 ≡ log = ap (λ (z : List (Made E)). z ++ q.0) between.1 ∙ q.1 in
      let none : calls_by n (between.0 ++ q.0) ≡ [] = none_between n log seen (between.0 ++ q.0) (sym (append_assoc seen between.0 q.0) ∙ whole) own in
      let back : calls_by n q.0 ≡ [] = nothing_back (calls_by n between.0) (calls_by n q.0) (sym (calls-append n between.0 q.0) ∙ none) in
      sym (ap (calls_by n) q.1) ∙ (calls-append n more q.0 ∙ (ap (λ (ys : List E). calls_by n more ++ ys) back ∙ append-nil (calls_by n more)))

  longer_if : (xs ys : List (Made E)) (b : Bool) → nat_lt (length xs) (length ys) ≡ b → ((longer xs ys ≡ ys) × (length xs < length ys)) ⊎ ((longer xs ys ≡ xs) × (length ys ≤ length xs))
  longer_if xs ys true is = inl (ap (λ (b : Bool). if b then ys else xs) is, grind (arith, nat_tests))
  longer_if xs ys false is = inr (ap (λ (b : Bool). if b then ys else xs) is, grind (arith, nat_tests))

  longer_cases : (xs ys : List (Made E)) → ((longer xs ys ≡ ys) × (length xs < length ys)) ⊎ ((longer xs ys ≡ xs) × (length ys ≤ length xs))
  longer_cases xs ys = longer_if xs ys (nat_lt (length xs) (length ys)) refl

  -- the longer of what two passes have seen, one of which has seen the whole history, is the whole
  pub longer_whole : (log xs ys : List (Made E)) → IsPrefix xs log → IsPrefix ys log → (xs ≡ log) ⊎ (ys ≡ log) → longer xs ys ≡ log
  longer_whole log xs ys p q one = ⊎_elim
      (λ (t : (longer xs ys ≡ ys) × (length xs < length ys)). t.0 ∙ prefix_whole ys log q (let n = prefix_length ys log q in ⊎_elim (λ (e : xs ≡ log). let f = ap length e in omega arith) (λ (e : ys ≡ log). let f = ap length e in omega arith) one))
      (λ (t : (longer xs ys ≡ xs) × (length ys ≤ length xs)). t.0 ∙ prefix_whole xs log p (⊎_elim (λ (e : xs ≡ log). let f = ap length e in omega arith) (λ (e : ys ≡ log). let f = ap length e in omega arith) one))
      (longer_cases xs ys)

  -- a pass has seen the longer of two beginnings, of which it had seen the first
  pub seen_longer : (base log : List (Made E)) (n m : ℕ) (xs ys : List (Made E)) → IsSeen base log n xs → IsSeen base log m ys → IsSeen base log n (longer xs ys)
  seen_longer base log n m xs ys r q = ⊎_elim
      (λ (t : (longer xs ys ≡ ys) × (length xs < length ys)). subst (IsSeen base log n) (sym t.0) record { prefix = q.prefix; begins = q.begins; own = own_longer n log xs ys r.prefix q.prefix (let lt = t.1 in omega arith) r.own })
      (λ (t : (longer xs ys ≡ xs) × (length ys ≤ length xs)). subst (IsSeen base log n) (sym t.0) r)
      (longer_cases xs ys)

  pub seen_grows : (base log log' : List (Made E)) (n : ℕ) (seen : List (Made E)) → IsPrefix log log' → calls_by n log' ≡ calls_by n log → IsSeen base log n seen → IsSeen base log' n seen
  seen_grows base log log' n seen more same r = record { prefix = prefix_trans seen log log' r.prefix more; begins = r.begins; own = same ∙ r.own }

module _ {E O Ev Out : Type 0} (takes_event : Ev → Type 0) (answers : O → List E → List E → Ev → Out → Type 0) where
  pub legal_more : (o : O) (log : List (Made E)) (y : Made E) → IsLegal takes_event answers o log → Leads takes_event answers o (entries_of log) (entries_of (log ++ y ∷ [])) → IsLegal takes_event answers o (log ++ y ∷ [])
  legal_more o log y legal leads k x is by = ⊎_elim
      (λ (e : slice_get log k ≡ Some x). let near : k < length log = slice_get_within log k x e in
      let a : take k (log ++ y ∷ []) ≡ take k log = take-append-le k log (y ∷ []) (omega arith) in
      let b : take (suc k) (log ++ y ∷ []) ≡ take (suc k) log = take-append-le (suc k) log (y ∷ []) (omega arith) in
      subst (λ (z : List (Made E) × List (Made E)). Leads takes_event answers o (entries_of z.0) (entries_of z.1)) (λ i. (sym a i, sym b i)) (legal k x e by))
      (λ (t : (k ≡ length log) × (y ≡ x)). let e = t.0 in
      let a : take k (log ++ y ∷ []) ≡ log = ap (λ (n : ℕ). take n (log ++ y ∷ [])) e ∙ take-append_seam log (y ∷ []) in
      let b : take (suc k) (log ++ y ∷ []) ≡ log ++ y ∷ [] = ap (λ (n : ℕ). take n (log ++ y ∷ [])) (let f : suc k ≡ length log + 1 = omega arith in f) ∙ take-append-add log (y ∷ []) 1 in
      subst (λ (z : List (Made E) × List (Made E)). Leads takes_event answers o (entries_of z.0) (entries_of z.1)) (λ i. (sym a i, sym b i)) leads)
      (snoc_get log y k x is)
