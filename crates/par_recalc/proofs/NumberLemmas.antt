-- Numbers of ids, and rounds by them.
use Rattle.std.proofs.Common.{ℕ, zero, suc, Bool, true, false, cond, ◌||◌, ◌+◌, ◌<◌, ◌≤◌, ◌≡◌, ◌⊎◌, ◌↔◌, inl, inr, refl, sym, ap, ◌∙◌, subst, arith, List, [], ◌∷◌, ◌++◌, map, length, get_or, set, drop, Option, Some, None}
use Rattle.std.specs.Prelude.{not, option_to_list}
use Rattle.std.specs.List.{list_all, list_any}
use Rattle.std.specs.Option.{option_or}
use Rattle.std.specs.Str.{bytes_eq}
use Rattle.std.proofs.lemmas.Bool.{true≢false, false≢true, cases_eq, not-true, not_from_false, or_from, or_left, or_parts, or_right}
use Rattle.std.proofs.lemmas.List.{get_or-set_other, get_or-set_same, length-map, length-set, set_past}
use Rattle.std.proofs.lemmas.Slice.Eq.{bytes_eq-Decides}
use Rattle.par_recalc.specs.declared.plan.ColumnFormula.{ColumnFormula}
use Rattle.par_recalc.specs.LevelLaws.{IsAmong}
use Rattle.par_recalc.specs.Levels.{is_below, marks}
use Rattle.par_recalc.specs.Naming.{named, names}
use Rattle.par_recalc.specs.Numbers.{number_from, number_of, numbers_named, numbers_of, own_number}
use Rattle.par_recalc.specs.Rounds.{are_ready, blank, is_waiting, next_marks, round, with_column, with_columns}
use Rattle.par_recalc.proofs.LevelLemmas.{is_ready, of_ready, ready_from}

none≢some : (n : ℕ) → None ≡ Some n → ⊥
none≢some n h = absurd (cc)

-- ---- numbers while they are given

pub or_none : (o : Option ℕ) → option_or o None ≡ o
or_none None = refl
or_none (Some n) = refl

or_same : (o p q : Option ℕ) → option_or (option_or o p) q ≡ option_or o (option_or p q)
or_same None p q = refl
or_same (Some n) p q = refl

or_cond : (b : Bool) (n : ℕ) (q : Option ℕ) → option_or (cond b (Some n) None) q ≡ cond b (Some n) q
or_cond true n q = refl
or_cond false n q = refl

-- an id that had no number, with one
pub number_put : (id q : List ℕ) (n : ℕ) (before : List ℕ → Option ℕ) → before id ≡ None
    → cond (bytes_eq id q) (Some n) (before q) ≡ option_or (before q) (cond (bytes_eq id q) (Some n) None)
number_put id q n before none = by (bytes_eq id q) refl
  where
    by : (b : Bool) → bytes_eq id q ≡ b → cond b (Some n) (before q) ≡ option_or (before q) (cond b (Some n) None)
    by true is = sym (ap (λ o. option_or o (Some n)) (ap before (sym ((bytes_eq-Decides id q).0 is)) ∙ none))
    by false is = sym (or_none (before q))

-- an id that has a number keeps it
pub number_kept : (id q : List ℕ) (n m : ℕ) (before : List ℕ → Option ℕ) → before id ≡ Some m
    → before q ≡ option_or (before q) (cond (bytes_eq id q) (Some n) None)
number_kept id q n m before some = by (bytes_eq id q) refl
  where
    by : (b : Bool) → bytes_eq id q ≡ b → before q ≡ option_or (before q) (cond b (Some n) None)
    by true is =
        let there : before q ≡ Some m = ap before (sym ((bytes_eq-Decides id q).0 is)) ∙ some in
        there ∙ sym (ap (λ o. option_or o (Some n)) there)
    by false is = sym (or_none (before q))

number_suc : (fs : List ColumnFormula) (i k : ℕ) (f : ColumnFormula) (q : List ℕ) → i < length fs → f ≡ get_or fs i f
    → number_from k (drop i fs) q ≡ cond (bytes_eq f.column q) (Some k) (number_from (k + 1) (drop (suc i) fs) q)
number_suc [] i k f q lt at = absurd (omega arith)
number_suc (g ∷ gs) zero k f q lt at = ap (λ h. cond (bytes_eq h.column q) (Some k) (number_from (k + 1) gs q)) (sym at)
number_suc (g ∷ gs) (suc i) k f q lt at = number_suc gs i k f q (omega arith) at

-- the next column, given the number of its place
pub number_more : (fs : List ColumnFormula) (i : ℕ) (f : ColumnFormula) (q : List ℕ) (o p : Option ℕ) → i < length fs → f ≡ get_or fs i f
    → p ≡ option_or o (cond (bytes_eq f.column q) (Some i) None) → option_or o (number_from i (drop i fs) q) ≡ number_of fs q
    → option_or p (number_from (i + 1) (drop (i + 1) fs) q) ≡ number_of fs q
number_more fs i f q o p lt at put before =
    let one : suc i ≡ i + 1 = omega arith in
    let rest = number_from (i + 1) (drop (i + 1) fs) q in
    let left = subst (λ n. number_from i (drop i fs) q ≡ cond (bytes_eq f.column q) (Some i) (number_from (i + 1) (drop n fs) q)) one (number_suc fs i i f q lt at) in
    ap (λ a. option_or a rest) put ∙ or_same o (cond (bytes_eq f.column q) (Some i) None) rest
    ∙ ap (option_or o) (or_cond (bytes_eq f.column q) i rest ∙ sym left) ∙ before

drop_end : (fs : List ColumnFormula) (i : ℕ) → length fs ≤ i → drop i fs ≡ []
drop_end [] zero le = refl
drop_end [] (suc i) le = refl
drop_end (f ∷ fs) zero le = absurd (omega arith)
drop_end (f ∷ fs) (suc i) le = drop_end fs i (omega arith)

-- when each column has been come to
pub number_end : (fs : List ColumnFormula) (i : ℕ) (q : List ℕ) (o : Option ℕ) → length fs ≤ i → option_or o (number_from i (drop i fs) q) ≡ number_of fs q → o ≡ number_of fs q
number_end fs i q o le h = sym (or_none o) ∙ ap (λ gs. option_or o (number_from i gs q)) (sym (drop_end fs i le)) ∙ h

-- ---- what numbers mean

bounds : (fs : List ColumnFormula) (k : ℕ) (q : List ℕ) (p : ℕ) → number_from k fs q ≡ Some p → (k ≤ p) × (p < k + length fs)
bounds [] k q p h = absurd (none≢some p h)
bounds (f ∷ fs) k q p h = by (bytes_eq f.column q) (bounds fs (k + 1) q p) h
  where
    by : (b : Bool) → (number_from (k + 1) fs q ≡ Some p → (k + 1 ≤ p) × (p < k + 1 + length fs))
        → cond b (Some k) (number_from (k + 1) fs q) ≡ Some p → (k ≤ p) × (p < k + suc (length fs))
    by true later e = let same : k ≡ p = cc in (omega arith, omega arith)
    by false later e = let r = later e in (omega (arith, r.0), omega (arith, r.1))

-- no two ids have one number
injective : (fs : List ColumnFormula) (k : ℕ) (m n : List ℕ) (p : ℕ) → number_from k fs m ≡ Some p → number_from k fs n ≡ Some p → m ≡ n
injective [] k m n p h i = absurd (none≢some p h)
injective (f ∷ fs) k m n p h i = by (bytes_eq f.column m) (bytes_eq f.column n) refl refl (injective fs (k + 1) m n p) h i
  where
    by : (a b : Bool) → bytes_eq f.column m ≡ a → bytes_eq f.column n ≡ b
        → (number_from (k + 1) fs m ≡ Some p → number_from (k + 1) fs n ≡ Some p → m ≡ n)
        → cond a (Some k) (number_from (k + 1) fs m) ≡ Some p → cond b (Some k) (number_from (k + 1) fs n) ≡ Some p → m ≡ n
    by true true e d later h i = sym ((bytes_eq-Decides f.column m).0 e) ∙ (bytes_eq-Decides f.column n).0 d
    by true false e d later h i = let same : k ≡ p = cc in let low = (bounds fs (k + 1) n p i).0 in absurd (omega (arith, low))
    by false true e d later h i = let same : k ≡ p = cc in let low = (bounds fs (k + 1) m p h).0 in absurd (omega (arith, low))
    by false false e d later h i = later h i

-- the id of a column has one
found : (fs : List ColumnFormula) (k : ℕ) (g : ColumnFormula) → IsAmong g fs → (p : ℕ) × (number_from k fs g.column ≡ Some p)
found [] k g i = absurd i
found (f ∷ fs) k g (inl same) = (k, ap (λ b. cond b (Some k) (number_from (k + 1) fs g.column)) ((bytes_eq-Decides f.column g.column).1 (ap (λ h. h.column) (sym same))))
found (f ∷ fs) k g (inr i) = by (bytes_eq f.column g.column) (found fs (k + 1) g i)
  where
    by : (b : Bool) → (p : ℕ) × (number_from (k + 1) fs g.column ≡ Some p) → (p : ℕ) × (cond b (Some k) (number_from (k + 1) fs g.column) ≡ Some p)
    by true later = (k, refl)
    by false later = later

-- one of the ids
abbrev In : List ℕ → List (List ℕ) → Type 0
In q [] = ⊥
In q (n ∷ ns) = (n ≡ q) ⊎ In q ns

any_in : (q : List ℕ) (ns : List (List ℕ)) → list_any (λ n. bytes_eq n q) ns ≡ true → In q ns
any_in q [] h = absurd (false≢true h)
any_in q (n ∷ ns) h = by (bytes_eq n q) refl (any_in q ns) h
  where
    by : (b : Bool) → bytes_eq n q ≡ b → (list_any (λ n. bytes_eq n q) ns ≡ true → In q ns) → (b || list_any (λ n. bytes_eq n q) ns) ≡ true → In q (n ∷ ns)
    by true is later h = inl ((bytes_eq-Decides n q).0 is)
    by false is later h = inr (later h)

in_any : (q : List ℕ) (ns : List (List ℕ)) → In q ns → list_any (λ n. bytes_eq n q) ns ≡ true
in_any q [] i = absurd i
in_any q (n ∷ ns) (inl same) = or_left (bytes_eq n q) (list_any (λ n. bytes_eq n q) ns) ((bytes_eq-Decides n q).1 same)
in_any q (n ∷ ns) (inr i) = or_right (bytes_eq n q) (list_any (λ n. bytes_eq n q) ns) (in_any q ns i)

module _ (w : ℕ → Bool) where
  split : (o : Option ℕ) (ns : List ℕ) → not (list_any w (option_to_list o ++ ns)) ≡ true
      → ((p : ℕ) → o ≡ Some p → w p ≡ false) × (not (list_any w ns) ≡ true)
  split None ns h = (λ p e. absurd (none≢some p e), h)
  split (Some n) ns h =
      let both = or_parts (w n) (list_any w ns) (not-true (w n || list_any w ns) h) in
      (λ p e. let same : n ≡ p = cc in subst (λ m. w m ≡ false) same both.0, not_from_false (list_any w ns) both.1)

  join : (o : Option ℕ) (ns : List ℕ) → ((p : ℕ) → o ≡ Some p → w p ≡ false) → not (list_any w ns) ≡ true → not (list_any w (option_to_list o ++ ns)) ≡ true
  join None ns here rest = rest
  join (Some n) ns here rest = not_from_false (w n || list_any w ns) (or_from (w n) (list_any w ns) (here n refl) (not-true (list_any w ns) rest))

  module _ (fs : List ColumnFormula) where
    of_numbers : (ids : List (List ℕ)) → not (list_any w (numbers_of fs ids)) ≡ true → (q : List ℕ) → In q ids → (p : ℕ) → number_of fs q ≡ Some p → w p ≡ false
    of_numbers [] h q i p at = absurd i
    of_numbers (id ∷ ids) h q (inl same) p at = (split (number_of fs id) (numbers_of fs ids) h).0 p (ap (number_of fs) same ∙ at)
    of_numbers (id ∷ ids) h q (inr i) p at = of_numbers ids (split (number_of fs id) (numbers_of fs ids) h).1 q i p at

    numbers_from : (ids : List (List ℕ)) → ((q : List ℕ) → In q ids → (p : ℕ) → number_of fs q ≡ Some p → w p ≡ false) → not (list_any w (numbers_of fs ids)) ≡ true
    numbers_from [] h = refl
    numbers_from (id ∷ ids) h = join (number_of fs id) (numbers_of fs ids) (h id (inl refl)) (numbers_from ids (λ q i. h q (inr i)))

-- ---- columns that wait

length_with : (waiting : List Bool) (o : Option ℕ) (b : Bool) → length (with_column waiting o b) ≡ length waiting
length_with waiting o true = refl
length_with waiting None false = refl
length_with waiting (Some n) false = length-set waiting n true

module _ (p : ℕ) where
  before_one : (waiting : List Bool) (o : Option ℕ) (b : Bool) → p < length waiting → is_waiting (with_column waiting o b) p ≡ false
      → (is_waiting waiting p ≡ false) × (o ≡ Some p → b ≡ true)
  before_one waiting o true lt h = (h, λ e. refl)
  before_one waiting None false lt h = (h, λ e. absurd (none≢some p e))
  before_one waiting (Some n) false lt h = elim (cases_eq n p) [
    | inl same ↦ absurd (true≢false (sym (get_or-set_same waiting p true false lt) ∙ ap (λ m. get_or (set waiting m true) p false) (sym same) ∙ h))
    | inr other ↦ (sym (get_or-set_other waiting n p true false (λ e. other (sym e))) ∙ h, λ e. absurd (other (let same : n ≡ p = cc in same)))
  ]

  after_one : (waiting : List Bool) (o : Option ℕ) (b : Bool) → is_waiting waiting p ≡ false → (o ≡ Some p → b ≡ true) → is_waiting (with_column waiting o b) p ≡ false
  after_one waiting o true h marked = h
  after_one waiting None false h marked = h
  after_one waiting (Some n) false h marked = elim (cases_eq n p) [
    | inl same ↦ absurd (false≢true (marked (ap Some same)))
    | inr other ↦ get_or-set_other waiting n p true false (λ e. other (sym e)) ∙ h
  ]

  module _ (own : ColumnFormula → Option ℕ) (below : ColumnFormula → Bool) where
    settled : (gs : List ColumnFormula) (waiting : List Bool) → p < length waiting → is_waiting (with_columns waiting (map own gs) (map below gs)) p ≡ false
        → (is_waiting waiting p ≡ false) × ((g : ColumnFormula) → IsAmong g gs → own g ≡ Some p → below g ≡ true)
    settled [] waiting lt h = (h, λ g i e. absurd i)
    settled (f ∷ gs) waiting lt h =
        let later = settled gs (with_column waiting (own f) (below f)) (subst (λ n. p < n) (sym (length_with waiting (own f) (below f))) lt) h in
        let here = before_one waiting (own f) (below f) lt later.0 in
        (here.0, each here.1 later.1)
      where
        each : (own f ≡ Some p → below f ≡ true) → ((g : ColumnFormula) → IsAmong g gs → own g ≡ Some p → below g ≡ true)
            → (g : ColumnFormula) → IsAmong g (f ∷ gs) → own g ≡ Some p → below g ≡ true
        each here later g (inl same) e = ap below same ∙ here (ap own (sym same) ∙ e)
        each here later g (inr i) e = later g i e

    unsettled : (gs : List ColumnFormula) (waiting : List Bool) → is_waiting waiting p ≡ false → ((g : ColumnFormula) → IsAmong g gs → own g ≡ Some p → below g ≡ true)
        → is_waiting (with_columns waiting (map own gs) (map below gs)) p ≡ false
    unsettled [] waiting h marked = h
    unsettled (f ∷ gs) waiting h marked =
        unsettled gs (with_column waiting (own f) (below f)) (after_one waiting (own f) (below f) h (marked f (inl refl))) (λ g i. marked g (inr i))

-- past its end a list stays as it is
pub same_past : (bs : List Bool) (i : ℕ) (b : Bool) → length bs ≤ i → bs ≡ set bs i b
same_past bs i b le = sym (set_past bs i b le)

pub blank_false : (fs : List ColumnFormula) (p : ℕ) → get_or (blank fs) p false ≡ false
blank_false [] p = refl
blank_false (f ∷ fs) zero = refl
blank_false (f ∷ fs) (suc p) = blank_false fs p

-- ---- one round

same_from : (a b : Bool) → ((a ≡ true) ↔ (b ≡ true)) → a ≡ b
same_from true b ways = sym (ways.0 refl)
same_from false true ways = ways.1 refl
same_from false false ways = refl

module _ (fs : List ColumnFormula) (k : ℕ) where
  abbrev waiting : List Bool
  waiting = with_columns (blank fs) (map (own_number fs) fs) (marks fs k)

  ready_there : (f : ColumnFormula) → are_ready waiting (numbers_named fs f) ≡ true → is_ready fs k f ≡ true
  ready_there f h = ready_from fs k f each
    where
      each : (g : ColumnFormula) → IsAmong g fs → names f g ≡ true → is_below fs k g ≡ true
      each g i n =
          let p = found fs 0 g i in
          let high = (bounds fs 0 g.column p.0 p.1).1 in
          let within : p.0 < length fs = omega (arith, high) in
          let off = of_numbers (is_waiting waiting) fs (named f.formula) h g.column (any_in g.column (named f.formula) n) p.0 p.1 in
          (settled p.0 (own_number fs) (is_below fs k) fs (blank fs) (subst (λ m. p.0 < m) (sym (length-map fs (λ (f : ColumnFormula). false))) within) off).1 g i p.1

  ready_back : (f : ColumnFormula) → is_ready fs k f ≡ true → are_ready waiting (numbers_named fs f) ≡ true
  ready_back f h = numbers_from (is_waiting waiting) fs (named f.formula) each
    where
      each : (q : List ℕ) → In q (named f.formula) → (p : ℕ) → number_of fs q ≡ Some p → is_waiting waiting p ≡ false
      each q i p at = unsettled p (own_number fs) (is_below fs k) fs (blank fs) (blank_false fs p)
          (λ g j own. of_ready fs k f g h j (in_any g.column (named f.formula) (subst (λ n. In n (named f.formula)) (injective fs 0 q g.column p at own) i)))

  ready_same : (f : ColumnFormula) → are_ready waiting (numbers_named fs f) ≡ is_ready fs k f
  ready_same f = same_from (are_ready waiting (numbers_named fs f)) (is_ready fs k f) (ready_there f, ready_back f)

  marks_of : (gs : List ColumnFormula) → next_marks waiting (map (numbers_named fs) gs) (map (is_below fs k) gs) ≡ map (is_below fs (suc k)) gs
  marks_of [] = refl
  marks_of (g ∷ gs) =
      ap (λ b. (is_below fs k g || b) ∷ next_marks waiting (map (numbers_named fs) gs) (map (is_below fs k) gs)) (ready_same g)
      ∙ ap (λ l. is_below fs (suc k) g ∷ l) (marks_of gs)

  -- one round marks the columns of one level more
  pub marks_next : round fs (map (own_number fs) fs) (map (numbers_named fs) fs) (marks fs k) ≡ marks fs (suc k)
  marks_next = marks_of fs
