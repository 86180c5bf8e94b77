-- Which entries of a history are of the session of one connection.
use Rattle.std.proofs.Common.{◌≡◌, ℕ, suc, ◌^◌, ◌<◌, ◌≤◌, eqb, true, false, cond, List, [], ◌∷◌, ◌++◌, length, map, Option, Some, None, slice_get, refl, sym, ap, ◌∙◌, arith}
use Rattle.std.specs.List.{AllByRecursion}
use Rattle.std.specs.Str.{bytes_eq}
use Rattle.std.proofs.lemmas.Bool.{eq-eqb, false_from_ne_true}
use Rattle.std.proofs.lemmas.Slice.Eq.{bytes_eq-Decides}
use Rattle.doc_model.specs.declared.entry.Entry.{Entry}
use Rattle.session_gate.specs.declared.known.Made.{Made}
use Rattle.session_gate.specs.History.{brought, calls_by, entries_of, is_by}
use Rattle.session_gate.specs.Rule.{IsBelow}
use Rattle.grist_serve.specs.Out.{AreOthers, AreOwn}
use Rattle.grist_lanes.specs.SessionNames.{session_name}
use Rattle.grist_lanes.specs.Sessions.{IsOfLane, IsOfNoLane, of_session}
use Rattle.grist_lanes.proofs.NameLemmas.{names_apart}

-- an entry of a pass is of the lane of that pass, and one that the core brought of no lane
abbrev pub IsPlaced : Option ℕ → Entry → Type 0
IsPlaced None e = IsOfNoLane e
IsPlaced (Some m) e = (m < 64) × IsOfLane (suc m) e

abbrev pub IsPlacedIn : Made Entry → Type 0
IsPlacedIn x = IsPlaced x.by x.entry

-- of the entries of the pass n in a history
abbrev pub EachBy : ℕ → (Entry → Type 0) → List (Made Entry) → Type 0
EachBy n P [] = Unit {0}
EachBy n P (x ∷ xs) = (is_by n x.by ≡ true → P x.entry) × EachBy n P xs

pub each_by : (n : ℕ) (P : Entry → Type 0) (xs : List (Made Entry)) → AllByRecursion P (calls_by n xs) → EachBy n P xs
each_by n P [] all = tt
each_by n P (x ∷ xs) all = elim (is_by n x.by) as (λ b. AllByRecursion P (cond b (x.entry ∷ calls_by n xs) (calls_by n xs)) → (b ≡ true → P x.entry) × EachBy n P xs) [
  | true ↦ λ a. ((λ e. a.0), each_by n P xs a.1)
  | false ↦ λ a. ((λ e. let never : ⊥ = cc in absurd never), each_by n P xs a)
] all

-- an entry of another lane, or of none, is not of this session
other : (n connection : ℕ) → n < 64 → connection < 2 ^ 64 → (by : Option ℕ) (e : Entry) → IsPlaced by e → is_by n by ≡ false → bytes_eq e.session (session_name (suc n) connection) ≡ false
other n connection low few None e placed apart = placed (suc n) connection (omega (arith, low)) few
other n connection low few (Some m) e placed apart = false_from_ne_true _ (λ same.
    let is : e.session ≡ session_name (suc n) connection = (bytes_eq-Decides e.session (session_name (suc n) connection)).0 same in
    let lane : suc m ≡ suc n = (names_apart (suc m) placed.1.connection (suc n) connection (omega (arith, placed.0)) placed.1.few (omega (arith, low)) few (sym placed.1.session ∙ is)).0 in
    let yes : eqb n m ≡ true = eq-eqb n m (omega (arith, lane)) in
    let never : false ≡ true = sym apart ∙ yes in
    let none : ⊥ = cc in none)

module _ (n connection : ℕ) (low : n < 64) (few : connection < 2 ^ 64) where
  own_one : (x : Made Entry) → IsPlacedIn x → (is_by n x.by ≡ true → x.entry.session ≡ session_name (suc n) connection) → bytes_eq x.entry.session (session_name (suc n) connection) ≡ is_by n x.by
  own_one x placed own = elim (is_by n x.by) as (λ b. is_by n x.by ≡ b → (b ≡ true → x.entry.session ≡ session_name (suc n) connection) → bytes_eq x.entry.session (session_name (suc n) connection) ≡ b) [
    | true ↦ λ is h. (bytes_eq-Decides x.entry.session (session_name (suc n) connection)).1 (h refl)
    | false ↦ λ is h. other n connection low few x.by x.entry placed is
  ] refl own

  other_one : (x : Made Entry) → IsPlacedIn x → (is_by n x.by ≡ true → bytes_eq x.entry.session (session_name (suc n) connection) ≡ false) → bytes_eq x.entry.session (session_name (suc n) connection) ≡ false
  other_one x placed apart = elim (is_by n x.by) as (λ b. is_by n x.by ≡ b → (b ≡ true → bytes_eq x.entry.session (session_name (suc n) connection) ≡ false) → bytes_eq x.entry.session (session_name (suc n) connection) ≡ false) [
    | true ↦ λ is h. h refl
    | false ↦ λ is h. other n connection low few x.by x.entry placed is
  ] refl apart

  pub are_own : (xs : List (Made Entry)) → AllByRecursion IsPlacedIn xs → EachBy n (λ e. e.session ≡ session_name (suc n) connection) xs → AreOwn n (session_name (suc n) connection) xs
  are_own [] placed own = tt
  are_own (x ∷ xs) placed own = (own_one x placed.0 own.0, are_own xs placed.1 own.1)

  pub are_others : (xs : List (Made Entry)) → AllByRecursion IsPlacedIn xs → EachBy n (λ e. bytes_eq e.session (session_name (suc n) connection) ≡ false) xs → AreOthers (session_name (suc n) connection) xs
  are_others [] placed apart = tt
  are_others (x ∷ xs) placed apart = (other_one x placed.0 apart.0, are_others xs placed.1 apart.1)

-- ---- the entries of a session

module _ (name : List ℕ) where
  pub session_none : (xs : List (Made Entry)) → AreOthers name xs → of_session name (entries_of xs) ≡ []
  session_none [] a = refl
  session_none (x ∷ xs) a = ap (λ b. cond b (x.entry ∷ of_session name (entries_of xs)) (of_session name (entries_of xs))) a.0 ∙ session_none xs a.1

  pub session_own : (n : ℕ) (xs : List (Made Entry)) → AreOwn n name xs → of_session name (entries_of xs) ≡ calls_by n xs
  session_own n [] a = refl
  session_own n (x ∷ xs) a =
      ap (λ b. cond b (x.entry ∷ of_session name (entries_of xs)) (of_session name (entries_of xs))) a.0
      ∙ ap (λ es. cond (is_by n x.by) (x.entry ∷ es) es) (session_own n xs a.1)

  pub session-append : (xs ys : List Entry) → of_session name (xs ++ ys) ≡ of_session name xs ++ of_session name ys
  session-append [] ys = refl
  session-append (x ∷ xs) ys = elim (bytes_eq x.session name) as (λ b. cond b (x ∷ of_session name (xs ++ ys)) (of_session name (xs ++ ys)) ≡ cond b (x ∷ of_session name xs) (of_session name xs) ++ of_session name ys) [
    | true ↦ ap (λ es. x ∷ es) (session-append xs ys)
    | false ↦ session-append xs ys
  ]

-- ---- every entry has its place

pub placed_brought : (es : List Entry) → AllByRecursion IsOfNoLane es → AllByRecursion IsPlacedIn (map brought es)
placed_brought [] all = tt
placed_brought (e ∷ es) all = (all.0, placed_brought es all.1)

pub placed_made : (xs : List (Made Entry)) → AllByRecursion (λ x. IsBelow 64 x.by) xs → ((m : ℕ) → m < 64 → EachBy m (IsOfLane (suc m)) xs) → AllByRecursion IsPlacedIn xs
placed_made [] below each = tt
placed_made (x ∷ xs) below each = (one x.by x.entry below.0 (λ m low. (each m low).0), placed_made xs below.1 (λ m low. (each m low).1)) where
  one : (by : Option ℕ) (e : Entry) → IsBelow 64 by → ((m : ℕ) → m < 64 → is_by m by ≡ true → IsOfLane (suc m) e) → IsPlaced by e
  one None e low each = absurd low
  one (Some m) e low each = (low, each m low (eq-eqb m m refl))

pub behind : {A : Type 0} (P : A → Type 0) (xs ys : List A) → ((i : ℕ) (y : A) → slice_get (xs ++ ys) i ≡ Some y → length xs ≤ i → P y) → AllByRecursion P ys
behind P [] [] h = tt
behind P [] (y ∷ ys) h = (h 0 y refl (omega arith), behind P [] ys (λ i z e le. h (suc i) z e (omega arith)))
behind P (x ∷ xs) ys h = behind P xs ys (λ i y e le. h (suc i) y e (omega (arith, le)))
