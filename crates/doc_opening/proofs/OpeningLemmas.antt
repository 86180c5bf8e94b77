-- One record more.
use Rattle.std.proofs.Common.{◌≡◌, ℕ, suc, ◌+◌, inl, inr, List, [], ◌∷◌, ◌++◌, true, false, length, take, drop, get_or, Option, Some, None, IfSome, slice_get, refl, sym, ap, ◌∙◌, subst, arith}
use Rattle.std.proofs.Math.Seq.{take-suc}
use Rattle.std.proofs.lemmas.List.{length-append, take_all, take-append-drop}
use Rattle.std.proofs.lemmas.Option.{slice_get_within, get_or_from_slice_get, slice_get_cases}
use Rattle.doc_model.specs.Document.{Document}
use Rattle.doc_opening.specs.Loading.{IsBad, Leads, Takes}
use Rattle.doc_opening.specs.Opening.{FirstBad, Opening, Opens, bad, kept_on, opened_onto, opens}

-- what a document after such a record is opened to
abbrev pub next_opening : ℕ → Option Document → Opening
next_opening n None = bad n
next_opening n (Some s) = opens s

-- with one more record behind
abbrev pub ends_with : Opening → ℕ → List ℕ → Opening
ends_with (opens s) n r = next_opening n (kept_on s n r)
ends_with (bad m) n r = bad m

-- a record behind the others
pub opened_more : (s : Document) (k : ℕ) (rs : List (List ℕ)) (r : List ℕ) → opened_onto s k (rs ++ r ∷ []) ≡ ends_with (opened_onto s k rs) (k + length rs) r
opened_more s k [] r =
    let z : k ≡ k + 0 = omega arith in
    elim (kept_on s k r) as (λ o. (elim o as (λ _. Opening) [ None ↦ bad k | Some new ↦ opens new ]) ≡ next_opening k o) [ None ↦ refl | Some new ↦ refl ]
    ∙ ap (λ m. ends_with (opens s) m r) z
opened_more s k (x ∷ rs) r =
    let z : k + 1 + length rs ≡ k + suc (length rs) = omega arith in
    elim (kept_on s k x) as (λ o. elim o as (λ _. Opening) [ None ↦ bad k | Some new ↦ opened_onto new (k + 1) (rs ++ r ∷ []) ] ≡ ends_with (elim o as (λ _. Opening) [ None ↦ bad k | Some new ↦ opened_onto new (k + 1) rs ]) (k + suc (length rs)) r) [
      | None ↦ refl
      | Some new ↦ opened_more new (k + 1) rs r ∙ ap (λ m. ends_with (opened_onto new (k + 1) rs) m r) z
    ]

-- what comes behind a bad record changes nothing
pub stays_bad : (s : Document) (k : ℕ) (rs qs : List (List ℕ)) (m : ℕ) → opened_onto s k rs ≡ bad m → opened_onto s k (rs ++ qs) ≡ bad m
stays_bad s k [] qs m e = absurd (cc)
stays_bad s k (x ∷ rs) qs m e =
    elim (kept_on s k x) as (λ o. elim o as (λ _. Opening) [ None ↦ bad k | Some new ↦ opened_onto new (k + 1) rs ] ≡ bad m → elim o as (λ _. Opening) [ None ↦ bad k | Some new ↦ opened_onto new (k + 1) (rs ++ qs) ] ≡ bad m) [
      | None ↦ λ h. h
      | Some new ↦ λ h. stays_bad new (k + 1) rs qs m h
    ] e

-- ---- where a keeper tells the records, or does not

told_more : (told : Option (List (List ℕ))) (n : ℕ) (records : List (List ℕ)) (r : List ℕ) → IfSome told (λ rs. take n rs ≡ records) → IfSome told (λ rs. slice_get rs n ≡ Some r) → IfSome told (λ rs. take (n + 1) rs ≡ records ++ r ∷ [])
told_more None n records r h g = tt
told_more (Some rs) n records r h g =
    let z : n + 1 ≡ suc n = omega arith in
    let same : get_or rs n r ≡ r = get_or_from_slice_get rs n r r g in
    ap (λ m. take m rs) z ∙ take-suc rs n r (slice_get_within rs n r g) ∙ (λ i. h i ++ same i ∷ [])

told_all : (told : Option (List (List ℕ))) (n : ℕ) (records : List (List ℕ)) → IfSome told (λ rs. take n rs ≡ records) → IfSome told (λ rs. slice_get rs n ≡ None) → IfSome told (λ rs. rs ≡ records)
told_all None n records h g = tt
told_all (Some rs) n records h g = elim (slice_get_cases rs n).1 [
  | inl x ↦
      let e : ◌≡◌ {A = Option (List ℕ)} None (Some x.0) = sym g ∙ x.2 in
      let never : ⊥ = cc e in absurd never
  | inr le ↦ sym (take_all n rs le.0) ∙ h
]

pub leads_first : (told : Option (List (List ℕ))) (s : Document) → Leads told s s 0
leads_first None s = record { records = []; leads = refl; count = refl; told_first = tt }
leads_first (Some rs) s = record { records = []; leads = refl; count = refl; told_first = refl }

-- the records so far, and one more that has that number
one_more : (told : Option (List (List ℕ))) (first s : Document) (n : ℕ) (r : List ℕ) (l : Leads told first s n) → opened_onto first 0 (l.records ++ r ∷ []) ≡ next_opening n (kept_on s n r)
one_more told first s n r l =
    let z : 0 + length l.records ≡ n = omega (arith, l.count) in
    opened_more first 0 l.records r ∙ (λ i. ends_with (l.leads i) (z i) r)

pub leads_more : (told : Option (List (List ℕ))) (first s new : Document) (n : ℕ) → Leads told first s n → Takes told s new n true → Leads told first new (n + 1)
leads_more told first s new n l t =
    let long = length-append l.records (t.0 ∷ []) in
    record {
      records = l.records ++ t.0 ∷ [];
      leads = one_more told first s n t.0 l ∙ ap (next_opening n) t.1;
      count = omega (arith, long, l.count);
      told_first = told_more told n l.records t.0 l.told_first t.2;
    }

pub opens_all : (told : Option (List (List ℕ))) (first s new : Document) (n : ℕ) → Leads told first s n → Takes told s new n false → Opens told first new n
opens_all told first s new n l t = record {
  records = l.records;
  leads = l.leads ∙ ap opens (sym t.0);
  count = l.count;
  told_all = told_all told n l.records l.told_first t.1;
}

told_bad : (told : Option (List (List ℕ))) (first : Document) (n m : ℕ) (records : List (List ℕ)) → IfSome told (λ rs. take m rs ≡ records) → opened_onto first 0 records ≡ bad n → IfSome told (λ rs. opened_onto first 0 rs ≡ bad n)
told_bad None first n m records h e = tt
told_bad (Some rs) first n m records h e =
    ap (opened_onto first 0) (sym (take-append-drop m rs))
    ∙ stays_bad first 0 (take m rs) (drop m rs) n (ap (opened_onto first 0) h ∙ e)

pub first_bad : (told : Option (List (List ℕ))) (first s : Document) (n : ℕ) → Leads told first s n → IsBad told s n → FirstBad told first n
first_bad told first s n l b =
    let long = length-append l.records (b.0 ∷ []) in
    let refused : opened_onto first 0 (l.records ++ b.0 ∷ []) ≡ bad n = one_more told first s n b.0 l ∙ ap (next_opening n) b.1 in
    record {
      records = l.records ++ b.0 ∷ [];
      refused = refused;
      count = omega (arith, long, l.count);
      told_first = told_bad told first n (n + 1) (l.records ++ b.0 ∷ []) (told_more told n l.records b.0 l.told_first b.2) refused;
    }

-- ---- where the keeper tells the same records as at first

module _ (told now : Option (List (List ℕ))) (same : now ≡ told) (first s new : Document) (n : ℕ) (l : Leads told first s n) where
  pub next_leads : Takes now s new n true → Leads told first new (n + 1)
  next_leads t = leads_more told first s new n l (subst (λ o. Takes o s new n true) same t)

  pub last_opens : Takes now s new n false → Opens told first new n
  last_opens t = opens_all told first s new n l (subst (λ o. Takes o s new n false) same t)

  pub bad_at : (m : ℕ) → (m ≡ n) × IsBad now s n → FirstBad told first m
  bad_at m b = subst (FirstBad told first) (sym b.0) (first_bad told first s n l (subst (λ o. IsBad o s n) same b.1))
