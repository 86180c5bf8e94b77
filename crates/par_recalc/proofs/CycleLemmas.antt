-- Where naming leads into a cycle, and where levels stand.
use Rattle.std.proofs.Common.{ℕ, zero, suc, Bool, true, false, cond, ◌&&◌, ◌||◌, ◌+◌, ◌<◌, ◌≤◌, ◌≡◌, ◌⊎◌, ◌↔◌, inl, inr, refl, sym, ap, ◌∙◌, subst, arith, List, [], ◌∷◌, ◌++◌, map, length, get_or, set}
use Rattle.std.specs.Prelude.{not, slice_get, Some, ⊤}
use Rattle.std.specs.List.{AllByRecursion}
use Rattle.std.proofs.lemmas.Bool.{true≢false, false≢true, cases_eq, cases_lt, cases_order, or_left}
use Rattle.std.proofs.lemmas.List.{get_or-set_other, get_or-set_same, length-map, length-set}
use Rattle.doc_model.specs.Rows.{IsAscending}
use Rattle.par_recalc.specs.declared.plan.ColumnFormula.{ColumnFormula}
use Rattle.par_recalc.specs.LevelLaws.{HasNoLevel, IsAmong, IsInLevel, IsPlaceIn, Leads, LeadsIntoCycle, LevelLaw, NamesNone, NamesUpTo}
use Rattle.par_recalc.specs.Levels.{is_below, marked_anew, marks, one_anew, places_of}
use Rattle.par_recalc.specs.Naming.{names}
use Rattle.par_recalc.specs.Rounds.{blank}
use Rattle.par_recalc.proofs.LevelLemmas.{Goes, first_names, goes_none, is_ready, names_first, names_next, next_names, none_goes, shorter}
use Rattle.par_recalc.proofs.NumberLemmas.{blank_false}
use Rattle.par_recalc.proofs.RoundLemmas.{unmarked}

-- ---- a walk past more columns than there are

-- where a column stands
place : (g : ColumnFormula) (fs : List ColumnFormula) → IsAmong g fs → (p : ℕ) × (p < length fs) × (slice_get fs p ≡ Some g)
place g [] i = absurd i
place g (f ∷ fs) (inl same) = (0, omega arith, ap Some (sym same))
place g (f ∷ fs) (inr i) = let later = place g fs i in (suc later.0, (let within = later.1 in omega (arith, within)), later.2)

-- one place more is marked
fewer_set : (bs : List Bool) (p : ℕ) → p < length bs → get_or bs p false ≡ false → unmarked (set bs p true) + 1 ≡ unmarked bs
fewer_set [] p lt off = absurd (omega arith)
fewer_set (true ∷ bs) zero lt off = absurd (true≢false off)
fewer_set (false ∷ bs) zero lt off = refl
fewer_set (true ∷ bs) (suc p) lt off = fewer_set bs p (omega arith) off
fewer_set (false ∷ bs) (suc p) lt off = ap (λ n. n + 1) (fewer_set bs p (omega arith) off)

was_or_is : (bs : List Bool) (p q : ℕ) → get_or (set bs p true) q false ≡ true → (q ≡ p) ⊎ (get_or bs q false ≡ true)
was_or_is bs p q h = elim (cases_eq q p) [
  | inl same ↦ inl same
  | inr other ↦ inr (sym (get_or-set_other bs p q true false other) ∙ h)
]

unmarked_blank : (fs : List ColumnFormula) → unmarked (blank fs) ≡ length fs
unmarked_blank [] = refl
unmarked_blank (f ∷ fs) = let later = unmarked_blank fs in omega (arith, later)

module _ (fs : List ColumnFormula) where
  lead_more : (n : ℕ) (f g h : ColumnFormula) → Leads fs n f g → IsAmong h fs → names g h ≡ true → Leads fs (suc n) f h
  lead_more zero f g h e i named = (h, i, ap (λ k. names k h) e ∙ named, refl)
  lead_more (suc n) f g h l i named = (l.0, l.1, l.2, lead_more n l.0 g h l.3 i named)

  -- naming leads from each column whose place is marked to that one
  abbrev Marked : List Bool → ColumnFormula → Type 0
  Marked bs g = (h : ColumnFormula) (p : ℕ) → slice_get fs p ≡ Some h → get_or bs p false ≡ true → (n : ℕ) × Leads fs n h g

  marked_more : (bs : List Bool) (g h : ColumnFormula) (p : ℕ) → slice_get fs p ≡ Some h → IsAmong h fs → names g h ≡ true → Marked bs g → Marked (set bs p true) h
  marked_more bs g h p at i named before k q there is = elim (was_or_is bs p q is) [
    | inl same ↦ (0, let one : Some k ≡ Some h = sym there ∙ ap (slice_get fs) same ∙ at in let equal : k ≡ h = cc in equal)
    | inr was ↦ let lead = before k q there was in (suc lead.0, lead_more lead.0 k g h lead.1 i named)
  ]

  -- a walk that is longer than there are unmarked places comes to a marked one
  walk : (n : ℕ) (f g : ColumnFormula) (bs : List Bool) → length bs ≡ length fs → unmarked bs < n → Marked bs g → (m : ℕ) × Leads fs m f g → Goes fs n g → LeadsIntoCycle fs f
  walk zero f g bs size few marked lead goes = absurd (omega arith)
  walk (suc n) f g bs size few marked lead goes =
      let p = place goes.0 fs goes.1 in
      by p.0 p.1 p.2 (get_or bs p.0 false) refl (λ cs size few marked lead. walk n f goes.0 cs size few marked lead goes.3)
    where
      by : (p : ℕ) → p < length fs → slice_get fs p ≡ Some goes.0 → (b : Bool) → get_or bs p false ≡ b
          → ((cs : List Bool) → length cs ≡ length fs → unmarked cs < n → Marked cs goes.0 → (m : ℕ) × Leads fs m f goes.0 → LeadsIntoCycle fs f)
          → LeadsIntoCycle fs f
      by p within at true is later =
          let back = marked goes.0 p at is in
          (goes.0, (suc lead.0, lead_more lead.0 f g goes.0 lead.1 goes.1 goes.2), (back.0, lead_more back.0 goes.0 g goes.0 back.1 goes.1 goes.2))
      by p within at false is later =
          let inside : p < length bs = subst (λ m. p < m) (sym size) within in
          let less = fewer_set bs p inside is in
          later (set bs p true) (length-set bs p true ∙ size) (omega (arith, less, few))
          (marked_more bs g goes.0 p at goes.1 goes.2 marked) (suc lead.0, lead_more lead.0 f g goes.0 lead.1 goes.1 goes.2)

  goes_cycle : (f : ColumnFormula) → Goes fs (suc (length fs)) f → LeadsIntoCycle fs f
  goes_cycle f goes =
      let all = unmarked_blank fs in
      walk (suc (length fs)) f f (blank fs) (length-map fs (λ (g : ColumnFormula). false)) (omega (arith, all))
      (λ h p at is. absurd (false≢true (sym (blank_false fs p) ∙ is))) (0, refl) goes

  -- ---- and back

  goes_from : (m n : ℕ) (f g : ColumnFormula) → Leads fs n f g → Goes fs m g → Goes fs m f
  goes_from m zero f g e goes = subst (Goes fs m) (sym e) goes
  goes_from m (suc n) f g l goes = shorter fs m f (l.0, l.1, l.2, goes_from m n l.0 g l.3 goes)

  goes_round : (n : ℕ) (g : ColumnFormula) → Leads fs (suc n) g g → (m : ℕ) → Goes fs m g
  goes_round n g l zero = tt
  goes_round n g l (suc m) = (l.0, l.1, l.2, goes_from m n l.0 g l.3 (goes_round n g l m))

  never : (f : ColumnFormula) → HasNoLevel fs f → (n : ℕ) → is_below fs n f ≡ false
  never f none zero = refl
  never f none (suc n) = by (is_below fs (suc n) f) refl (never f none n)
    where
      by : (b : Bool) → is_below fs (suc n) f ≡ b → is_below fs n f ≡ false → is_below fs (suc n) f ≡ false
      by true is before = absurd (none n (is, before))
      by false is before = is

  no_level : (f : ColumnFormula) → HasNoLevel fs f ↔ LeadsIntoCycle fs f
  no_level f = (
    (λ none. goes_cycle f (none_goes fs (suc (length fs)) f (never f none (suc (length fs))))),
    (λ cycle k level. false≢true
        (sym (goes_none fs (suc k) f (goes_from (suc k) cycle.1.0 f cycle.0 cycle.1.1 (goes_round cycle.2.0 cycle.0 cycle.2.1 (suc k)))) ∙ level.0)),
  )

  -- ---- one level

  grows : (m n : ℕ) (f : ColumnFormula) → m ≤ n → is_below fs m f ≡ true → is_below fs n f ≡ true
  grows m zero f le e = let same : m ≡ 0 = omega arith in subst (λ k. is_below fs k f ≡ true) same e
  grows m (suc n) f le e = elim (cases_lt m (suc n)) [
    | inl lt ↦ or_left (is_below fs n f) (is_ready fs n f) (grows m n f (omega arith) e)
    | inr ge ↦ let same : m ≡ suc n = omega arith in subst (λ k. is_below fs k f ≡ true) same e
  ]

  apart : (j k : ℕ) (f : ColumnFormula) → j < k → IsInLevel fs f j → IsInLevel fs f k → ⊥
  apart j k f lt here there = true≢false (sym (grows (suc j) k f (omega arith) here.0) ∙ there.1)

  one_level : (f : ColumnFormula) (j k : ℕ) → IsInLevel fs f j → IsInLevel fs f k → j ≡ k
  one_level f j k here there = elim (cases_order j k) [
    | inl same ↦ same
    | inr other ↦ elim other [
      | inl lt ↦ absurd (apart j k f lt here there)
      | inr gt ↦ absurd (apart k j f gt there here)
    ]
  ]

  -- ---- places

  module _ (k : ℕ) where
    abbrev Stands : ℕ → List ColumnFormula → ℕ → Type 0
    Stands at gs p = (i : ℕ) × (p ≡ at + i) × ((f : ColumnFormula) × (slice_get gs i ≡ Some f) × IsInLevel fs f k)

    abbrev placed : ℕ → List ColumnFormula → List ℕ
    placed at gs = marked_anew at (map (is_below fs k) gs) (map (is_below fs (suc k)) gs)

    later : (at : ℕ) (g : ColumnFormula) (gs : List ColumnFormula) (p : ℕ) → Stands (at + 1) gs p → Stands at (g ∷ gs) p
    later at g gs p s = (suc s.0, (let e = s.1 in omega (arith, e)), s.2)

    stands : (at : ℕ) (gs : List ColumnFormula) (p : ℕ) → IsPlaceIn p (placed at gs) → Stands at gs p
    stands at [] p h = absurd h
    stands at (g ∷ gs) p h = by (is_below fs k g) (is_below fs (suc k) g) refl refl (stands (at + 1) gs p) h
      where
        by : (b c : Bool) → is_below fs k g ≡ b → is_below fs (suc k) g ≡ c → (IsPlaceIn p (placed (at + 1) gs) → Stands (at + 1) gs p)
            → IsPlaceIn p (one_anew at b c ++ placed (at + 1) gs) → Stands at (g ∷ gs) p
        by false true b c rest (inl same) = (0, (omega (arith, same)), (g, refl, (c, b)))
        by false true b c rest (inr i) = later at g gs p (rest i)
        by true true b c rest i = later at g gs p (rest i)
        by true false b c rest i = later at g gs p (rest i)
        by false false b c rest i = later at g gs p (rest i)

    placed_at : (at : ℕ) (gs : List ColumnFormula) (i : ℕ) (f : ColumnFormula) → slice_get gs i ≡ Some f → IsInLevel fs f k → IsPlaceIn (at + i) (placed at gs)
    placed_at at [] i f there level = absurd (cc)
    placed_at at (g ∷ gs) zero f there level =
        let same : g ≡ f = cc in
        by (is_below fs k g) (is_below fs (suc k) g) (ap (is_below fs k) same ∙ level.1) (ap (is_below fs (suc k)) same ∙ level.0)
      where
        by : (b c : Bool) → b ≡ false → c ≡ true → IsPlaceIn (at + 0) (one_anew at b c ++ placed (at + 1) gs)
        by false true b c = inl (omega arith)
        by true c b d = absurd (true≢false b)
        by false false b c = absurd (false≢true c)
    placed_at at (g ∷ gs) (suc i) f there level =
        let next : at + 1 + i ≡ at + suc i = omega arith in
        subst (λ p. IsPlaceIn p (placed at (g ∷ gs))) next (by (is_below fs k g) (is_below fs (suc k) g) (placed_at (at + 1) gs i f there level))
      where
        by : (b c : Bool) → IsPlaceIn (at + 1 + i) (placed (at + 1) gs) → IsPlaceIn (at + 1 + i) (one_anew at b c ++ placed (at + 1) gs)
        by false true h = inr h
        by true true h = h
        by true false h = h
        by false false h = h

    there : {p : ℕ} → Stands 0 fs p → (f : ColumnFormula) × (slice_get fs p ≡ Some f) × IsInLevel fs f k
    there {p} s =
        let at = s.1 in
        let same : p ≡ s.0 = omega (arith, at) in
        (s.2.0, ap (slice_get fs) same ∙ s.2.1, s.2.2)

    standing : (p : ℕ) → IsPlaceIn p (places_of fs k) ↔ ((f : ColumnFormula) × (slice_get fs p ≡ Some f) × IsInLevel fs f k)
    standing p = (
      (λ h. there (stands 0 fs p h)),
      (λ s. let same : 0 + p ≡ p = omega arith in subst (λ q. IsPlaceIn q (places_of fs k)) same (placed_at 0 fs p s.0 s.1 s.2)),
    )

    above : (m at : ℕ) → m < at → (gs : List ColumnFormula) → AllByRecursion (λ q. m < q) (placed at gs)
    above m at lt [] = tt
    above m at lt (g ∷ gs) = by (is_below fs k g) (is_below fs (suc k) g) (above m (at + 1) (omega (arith, lt)) gs)
      where
        by : (b c : Bool) → AllByRecursion (λ q. m < q) (placed (at + 1) gs) → AllByRecursion (λ q. m < q) (one_anew at b c ++ placed (at + 1) gs)
        by false true rest = (lt, rest)
        by true true rest = rest
        by true false rest = rest
        by false false rest = rest

    rising : (at : ℕ) (gs : List ColumnFormula) → IsAscending (placed at gs)
    rising at [] = tt
    rising at (g ∷ gs) = by (is_below fs k g) (is_below fs (suc k) g) (above at (at + 1) (omega arith) gs) (rising (at + 1) gs)
      where
        by : (b c : Bool) → AllByRecursion (λ q. at < q) (placed (at + 1) gs) → IsAscending (placed (at + 1) gs) → IsAscending (one_anew at b c ++ placed (at + 1) gs)
        by false true all rest = (all, rest)
        by true true all rest = rest
        by true false all rest = rest
        by false false all rest = rest

pub level_law : LevelLaw
level_law = record {
  first = λ fs f. (first_names fs f, names_first fs f);
  next = λ fs f k. (next_names fs f k, names_next fs f k);
  one = one_level;
  none = no_level;
  places = standing;
  ascending = λ fs k. rising fs k 0 fs;
}
