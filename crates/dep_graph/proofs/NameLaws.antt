-- Numbers of names, and of what is read, as more names are given numbers.
use Rattle.std.proofs.Common.{ℕ, zero, suc, Bool, true, false, cond, List, [], ◌∷◌, ◌++◌, ◌+◌, map, take, get_or, length, Option, Some, None, slice_get, ◌≡◌, ◌<◌, ◌≤◌, ◌⊎◌, inl, inr, refl, sym, ap, ◌∙◌, subst, arith}
use Rattle.std.specs.Option.{option_map, option_or}
use Rattle.std.specs.Str.{bytes_eq}
use Rattle.std.proofs.lemmas.Slice.Eq.{bytes_eq-Decides}
use Rattle.cell_types.specs.declared.cell.CellId.{CellId}
use Rattle.cell_types.specs.declared.cell.Read.TheVariants.{Cell, Key, Rows}
use Rattle.formula_eval.specs.declared.note.Note.{Note}
use Rattle.dep_graph.specs.declared.numbers.ReadNumber.{ReadNumber}
use Rattle.dep_graph.specs.declared.numbers.ReadNumber.TheVariants as read
use Rattle.dep_graph.specs.declared.numbers.CellNumber.{CellNumber}
use Rattle.dep_graph.specs.declared.numbers.ColumnNumber.{ColumnNumber}
use Rattle.dep_graph.specs.Names.{AreNumbered, IsGrown, NumberLaw, number_in}
use Rattle.dep_graph.specs.Sources.{AreNumbers, Source, all_source, cell_in, column_in, column_of, part_source, read_source, source_in, sources, sources_of, value_source}

-- ---- names

number_added : (names : List (List ℕ)) (name q : List ℕ) → number_in (names ++ name ∷ []) q ≡ option_or (number_in names q) (cond (bytes_eq name q) (Some (length names)) None)
number_added [] name q = refl
number_added (n ∷ names) name q = by (bytes_eq n q) (ap (option_map suc) (number_added names name q) ∙ later (number_in names q) (bytes_eq name q))
  where
    later : (o : Option ℕ) (b : Bool) → option_map suc (option_or o (cond b (Some (length names)) None)) ≡ option_or (option_map suc o) (cond b (Some (suc (length names))) None)
    later None true = refl
    later None false = refl
    later (Some m) b = refl

    by : (a : Bool) → option_map suc (number_in (names ++ name ∷ []) q) ≡ option_or (option_map suc (number_in names q)) (cond (bytes_eq name q) (Some (suc (length names))) None)
        → cond a (Some 0) (option_map suc (number_in (names ++ name ∷ []) q)) ≡ option_or (cond a (Some 0) (option_map suc (number_in names q))) (cond (bytes_eq name q) (Some (suc (length names))) None)
    by true h = refl
    by false h = h

-- a name that had no number, with one
pub added_number : (names : List (List ℕ)) (name : List ℕ) → number_in names name ≡ None → (q : List ℕ) → number_in (names ++ name ∷ []) q ≡ cond (bytes_eq name q) (Some (length names)) (number_in names q)
added_number names name none q = number_added names name q ∙ by (bytes_eq name q) refl
  where
    or_none : (o : Option ℕ) → option_or o None ≡ o
    or_none None = refl
    or_none (Some m) = refl

    by : (b : Bool) → bytes_eq name q ≡ b → option_or (number_in names q) (cond b (Some (length names)) None) ≡ cond b (Some (length names)) (number_in names q)
    by true is = ap (λ o. option_or o (Some (length names))) (ap (number_in names) (sym ((bytes_eq-Decides name q).0 is)) ∙ none)
    by false is = or_none (number_in names q)

none≢some : (n : ℕ) → None ≡ Some n → ⊥
none≢some n h = absurd (cc)

pub number_there : NumberLaw
number_there [] name n h = absurd (none≢some n h)
number_there (m ∷ names) name n h = by (number_there names name) (bytes_eq m name) refl (number_in names name) refl n h
  where
    by : ((k : ℕ) → number_in names name ≡ Some k → slice_get names k ≡ Some name) → (b : Bool) → bytes_eq m name ≡ b → (o : Option ℕ) → number_in names name ≡ o
        → (n : ℕ) → cond b (Some 0) (option_map suc o) ≡ Some n → slice_get (m ∷ names) n ≡ Some name
    by later true is o at n h = subst (λ k. slice_get (m ∷ names) k ≡ Some name) (let same : 0 ≡ n = cc in same) (ap (λ a. Some a) ((bytes_eq-Decides m name).0 is))
    by later false is None at n h = absurd (none≢some n h)
    by later false is (Some k) at n h = subst (λ j. slice_get (m ∷ names) j ≡ Some name) (let same : suc k ≡ n = cc in same) (later k at)

length_added : (names : List (List ℕ)) (name : List ℕ) → length (names ++ name ∷ []) ≡ length names + 1
length_added [] name = refl
length_added (n ∷ names) name = let later = length_added names name in omega arith

pub grown_added : (names : List (List ℕ)) (name : List ℕ) → number_in names name ≡ None → IsGrown names (names ++ name ∷ [])
grown_added names name none = record {
  stays = λ q n h. added_number names name none q ∙ kept q n h (bytes_eq name q) refl;
  follows = λ q n was is. new q n was (bytes_eq name q) (sym (added_number names name none q) ∙ is);
  longer = let size = length_added names name in omega arith;
}
  where
    kept : (q : List ℕ) (n : ℕ) → number_in names q ≡ Some n → (b : Bool) → bytes_eq name q ≡ b → cond b (Some (length names)) (number_in names q) ≡ Some n
    kept q n h true is = absurd (none≢some n (sym none ∙ ap (number_in names) ((bytes_eq-Decides name q).0 is) ∙ h))
    kept q n h false is = h

    new : (q : List ℕ) (n : ℕ) → number_in names q ≡ None → (b : Bool) → cond b (Some (length names)) (number_in names q) ≡ Some n → length names ≤ n
    new q n was true is = let same : length names ≡ n = cc in omega arith
    new q n was false is = absurd (none≢some n (sym was ∙ is))

-- what stands in a list with one more, last
there_or_last : (names : List (List ℕ)) (name : List ℕ) (n : ℕ) (q : List ℕ) → slice_get (names ++ name ∷ []) n ≡ Some q → (slice_get names n ≡ Some q) ⊎ ((n ≡ length names) × (name ≡ q))
there_or_last [] name zero q h = let same : name ≡ q = cc in inr (refl, same)
there_or_last [] name (suc n) q h = absurd (cc)
there_or_last (m ∷ names) name zero q h = inl h
there_or_last (m ∷ names) name (suc n) q h = elim (there_or_last names name n q h) [
  | inl there ↦ inl there
  | inr last ↦ inr (ap suc last.0, last.1)
]

pub numbered_added : (names : List (List ℕ)) (name : List ℕ) → number_in names name ≡ None → AreNumbered names → AreNumbered (names ++ name ∷ [])
numbered_added names name none numbered n q h = elim (there_or_last names name n q h) [
  | inl there ↦ (grown_added names name none).stays q n (numbered n q there)
  | inr last ↦ added_number names name none q ∙ ap (λ b. cond b (Some (length names)) (number_in names q)) ((bytes_eq-Decides name q).1 last.1) ∙ ap (λ k. Some k) (sym last.0)
]

pub grown_same : (names : List (List ℕ)) → IsGrown names names
grown_same names = record { stays = λ q n h. h; follows = λ q n was is. absurd (none≢some n (sym was ∙ is)); longer = omega arith }

pub grown_twice : (old now new : List (List ℕ)) → IsGrown old now → IsGrown now new → IsGrown old new
grown_twice old now new f g = record {
  stays = λ q n h. g.stays q n (f.stays q n h);
  follows = λ q n was is. by q n was is (number_in now q) refl;
  longer = let a = f.longer in let b = g.longer in omega arith;
}
  where
    by : (q : List ℕ) (n : ℕ) → number_in old q ≡ None → number_in new q ≡ Some n → (o : Option ℕ) → number_in now q ≡ o → length old ≤ n
    by q n was is None at = let a = f.longer in let b = g.follows q n at is in omega arith
    by q n was is (Some m) at =
        let still : Some m ≡ Some n = sym (g.stays q m at) ∙ is in
        let same : m ≡ n = cc in
        let a = f.follows q m was at in omega arith

-- ---- what is read

module _ (old new : List (List ℕ)) (grown : IsGrown old new) where
  pub column_stays : (t c : List ℕ) (k : ColumnNumber) → column_in old t c ≡ Some k → column_in new t c ≡ Some k
  column_stays t c k h = by (number_in old t) (number_in old c) refl refl h
    where
      by : (o p : Option ℕ) → number_in old t ≡ o → number_in old c ≡ p → column_of o p ≡ Some k → column_in new t c ≡ Some k
      by None p a b h = absurd (cc)
      by (Some m) None a b h = absurd (cc)
      by (Some m) (Some n) a b h = ap (λ o. column_of o (number_in new c)) (grown.stays t m a) ∙ ap (column_of (Some m)) (grown.stays c n b) ∙ h

  mapped_stays : {A B : Type 0} (f : A → B) (o p : Option A) (x : B) → ((a : A) → o ≡ Some a → p ≡ Some a) → option_map f o ≡ Some x → option_map f p ≡ Some x
  mapped_stays f None p x stays h = absurd (cc)
  mapped_stays f (Some a) p x stays h = ap (option_map f) (stays a refl) ∙ h

  pub cell_stays : (c : CellId) (k : CellNumber) → cell_in old c ≡ Some k → cell_in new c ≡ Some k
  cell_stays c k = mapped_stays (λ j. record { column = j; row = c.row }) (column_in old c.table c.column) (column_in new c.table c.column) k (column_stays c.table c.column)

  source_stays : (s : Source) (q : ReadNumber) → source_in old s ≡ Some q → source_in new s ≡ Some q
  source_stays (read_source (Cell c)) q = mapped_stays read.Cell (cell_in old c) (cell_in new c) q (cell_stays c)
  source_stays (read_source (Key t c)) q = mapped_stays read.Key (column_in old t c) (column_in new t c) q (column_stays t c)
  source_stays (read_source (Rows t)) q = mapped_stays read.Rows (number_in old t) (number_in new t) q (grown.stays t)
  source_stays (all_source t) q = mapped_stays read.All (number_in old t) (number_in new t) q (grown.stays t)
  source_stays (value_source t c b) q = mapped_stays (λ k. read.Value (record { column = k; bucket = b })) (column_in old t c) (column_in new t c) q (column_stays t c)
  source_stays (part_source t c b) q = mapped_stays (λ k. read.Part (record { column = k; bucket = b })) (column_in old t c) (column_in new t c) q (column_stays t c)

  pub numbers_stay : (ss : List Source) (reads : List ReadNumber) → AreNumbers old ss reads → AreNumbers new ss reads
  numbers_stay [] [] h = tt
  numbers_stay [] (q ∷ reads) h = absurd h
  numbers_stay (s ∷ ss) [] h = absurd h
  numbers_stay (s ∷ ss) (q ∷ reads) h = (source_stays s q h.0, numbers_stay ss reads h.1)

pub numbers_more : (names : List (List ℕ)) (ss : List Source) (reads : List ReadNumber) (s : Source) (q : ReadNumber) → AreNumbers names ss reads → source_in names s ≡ Some q → AreNumbers names (ss ++ s ∷ []) (reads ++ q ∷ [])
numbers_more names [] [] s q h is = (is, tt)
numbers_more names [] (p ∷ reads) s q h is = absurd h
numbers_more names (r ∷ ss) [] s q h is = absurd h
numbers_more names (r ∷ ss) (p ∷ reads) s q h is = (h.0, numbers_more names ss reads s q h.1 is)

-- what is read after one read more
pub numbers_pushed : (old new : List (List ℕ)) → IsGrown old new → (ss : List Source) (reads now : List ReadNumber) (s : Source) (q : ReadNumber) → AreNumbers old ss reads → source_in new s ≡ Some q → now ≡ reads ++ q ∷ [] → AreNumbers new (ss ++ s ∷ []) now
numbers_pushed old new grown ss reads now s q h is e = subst (AreNumbers new (ss ++ s ∷ [])) (sym e) (numbers_more new ss reads s q (numbers_stay old new grown ss reads h) is)

pub append_assoc : {A : Type 0} (xs ys zs : List A) → (xs ++ ys) ++ zs ≡ xs ++ (ys ++ zs)
append_assoc [] ys zs = refl
append_assoc (x ∷ xs) ys zs = ap (λ r. x ∷ r) (append_assoc xs ys zs)

pub append_none : {A : Type 0} (xs : List A) → xs ++ [] ≡ xs
append_none [] = refl
append_none (x ∷ xs) = ap (λ r. x ∷ r) (append_none xs)

map_more : {A B : Type 0} (f : A → B) (xs : List A) (i : ℕ) (x : A) → i < length xs → x ≡ get_or xs i x → map f (take i xs) ++ f x ∷ [] ≡ map f (take (suc i) xs)
map_more f [] i x l e = absurd (omega arith)
map_more f (y ∷ xs) zero x l e = ap (λ z. f z ∷ []) e
map_more f (y ∷ xs) (suc i) x l e = ap (λ r. f y ∷ r) (map_more f xs i x (omega arith) e)

-- the first things of a list and the next one, each mapped
pub mapped_more : {A B : Type 0} (f : A → B) (xs : List A) (i : ℕ) (x : A) (done : List B) → i < length xs → x ≡ get_or xs i x → (done ++ map f (take i xs)) ++ f x ∷ [] ≡ done ++ map f (take (i + 1) xs)
mapped_more f xs i x done l e =
    let next : suc i ≡ i + 1 = omega arith in
    append_assoc done (map f (take i xs)) (f x ∷ []) ∙ ap (λ r. done ++ r) (map_more f xs i x l e ∙ ap (λ n. map f (take n xs)) next)

-- what the first notes read, and the next one
pub sources_more : (notes : List Note) (i : ℕ) (x : Note) → i < length notes → x ≡ get_or notes i x → sources (take i notes) ++ sources_of x ≡ sources (take (i + 1) notes)
sources_more notes i x l e =
    let next : suc i ≡ i + 1 = omega arith in
    more notes i l e ∙ ap (λ n. sources (take n notes)) next
  where
    more : (notes : List Note) (i : ℕ) → i < length notes → x ≡ get_or notes i x → sources (take i notes) ++ sources_of x ≡ sources (take (suc i) notes)
    more [] i l e = absurd (omega arith)
    more (y ∷ notes) zero l e = ap sources_of e ∙ sym (append_none (sources_of y))
    more (y ∷ notes) (suc i) l e = append_assoc (sources_of y) (sources (take i notes)) (sources_of x) ∙ ap (λ r. sources_of y ++ r) (more notes i (omega arith) e)
