-- The columns that refer to a table: where they are put, and what is true of each.
use Rattle.std.proofs.Common.{ℕ, suc, zero, Bool, true, false, cond, ◌+◌, ◌<◌, ◌≤◌, List, [], ◌∷◌, ◌++◌, map, filter, drop, get_or, insert, length, slice_get, ◌≡◌, refl, sym, ap, ◌∙◌, Option, Some, None, arith}
use Rattle.std.specs.List.{AllByRecursion}
use Rattle.doc_model.specs.declared.column.ColDef.{ColDef}
use Rattle.doc_model.specs.ByIds.{find_id}
use Rattle.doc_model.specs.Column.{column_id}
use Rattle.doc_model.specs.Document.{Document, Table, table_id}
use Rattle.doc_model.specs.DocumentLaws.{IsWhole}
use Rattle.doc_model.specs.Grid.{Grid}
use Rattle.doc_model.specs.Schema.{no_grid}
use Rattle.doc_model.specs.Sound.{IsSoundGrid}
use Rattle.doc_model.proofs.ByIdsLaws.{each_found, found_all}
use Rattle.doc_model.proofs.Choices.{each_mapped, each_passed, each_weaker}
use Rattle.doc_readers.specs.Parts.{grid_at}
use Rattle.user_actions.proofs.LoopLemmas.{next_left}
use Rattle.user_actions.specs.declared.referrers.Referrer.{Referrer}
use Rattle.user_actions.specs.References.{is_left_out, is_referrer, put_referrer, put_referrers, referrer, referrers, referrers_among, referrers_in, referrers_of, renamed_id, stands_before}

-- ---- the index of a column

abbrev pub referrer_index : Referrer → List Referrer → ℕ
referrer_index x [] = 0
referrer_index x (y ∷ ys) = cond (stands_before x y) 0 (referrer_index x ys + 1)

pub index_within : (x : Referrer) (ys : List Referrer) → referrer_index x ys ≤ length ys
index_within x [] = omega arith
index_within x (y ∷ ys) =
    let later : referrer_index x ys ≤ length ys = index_within x ys in
    elim (stands_before x y) as (λ b. cond b 0 (referrer_index x ys + 1) ≤ length (y ∷ ys)) [ true ↦ omega arith | false ↦ omega arith ]

next : (n : ℕ) → suc n ≡ n + 1
next n = omega arith

pub insert_there : (x : Referrer) (ys : List Referrer) → insert ys (referrer_index x ys) x ≡ put_referrer x ys
insert_there x [] = refl
insert_there x (y ∷ ys) =
    elim (stands_before x y) as (λ b. insert (y ∷ ys) (cond b 0 (referrer_index x ys + 1)) x ≡ cond b (x ∷ y ∷ ys) (y ∷ put_referrer x ys)) [
      | true ↦ refl
      | false ↦ ap (λ n. insert (y ∷ ys) n x) (sym (next (referrer_index x ys))) ∙ ap (λ l. y ∷ l) (insert_there x ys)
    ]

pub insert_at : (x : Referrer) (ys : List Referrer) (index : ℕ) → index ≡ referrer_index x ys → insert ys index x ≡ put_referrer x ys
insert_at x ys index is = ap (λ n. insert ys n x) is ∙ insert_there x ys

pub within_at : (x : Referrer) (ys : List Referrer) (index : ℕ) → index ≡ referrer_index x ys → index ≤ length ys
within_at x ys index is = let le : referrer_index x ys ≤ length ys = index_within x ys in omega (arith, is, le)

module _ (x : Referrer) (ys : List Referrer) (i : ℕ) (so : referrer_index x ys ≡ i + referrer_index x (drop i ys)) where
  -- the one at the index is the first
  pub index_here : (y : Referrer) → i < length ys → y ≡ get_or ys i y → stands_before x y ≡ true → insert ys i x ≡ put_referrer x ys
  index_here y lt is before =
      let here : drop i ys ≡ y ∷ drop (i + 1) ys = next_left ys i y lt ∙ ap (λ z. z ∷ drop (i + 1) ys) (sym is) in
      let none : referrer_index x (drop i ys) ≡ 0 = ap (referrer_index x) here ∙ ap (λ b. cond b 0 (referrer_index x (drop (i + 1) ys) + 1)) before in
      insert_at x ys i (omega (arith, so, none))

  -- or it is passed
  pub index_passed : (y : Referrer) → i < length ys → y ≡ get_or ys i y → stands_before x y ≡ false → referrer_index x ys ≡ (i + 1) + referrer_index x (drop (i + 1) ys)
  index_passed y lt is after =
      let here : drop i ys ≡ y ∷ drop (i + 1) ys = next_left ys i y lt ∙ ap (λ z. z ∷ drop (i + 1) ys) (sym is) in
      let more : referrer_index x (drop i ys) ≡ referrer_index x (drop (i + 1) ys) + 1 = ap (referrer_index x) here ∙ ap (λ b. cond b 0 (referrer_index x (drop (i + 1) ys) + 1)) after in
      omega (arith, so, more)

  -- or none is the first
  pub index_last : length ys ≤ i → insert ys (length ys) x ≡ put_referrer x ys
  index_last past =
      let within : referrer_index x ys ≤ length ys = index_within x ys in
      insert_at x ys (length ys) (omega (arith, so, past, within))

-- ---- one after another

pub put_append : (xs ys zs : List Referrer) → put_referrers (xs ++ ys) zs ≡ put_referrers ys (put_referrers xs zs)
put_append [] ys zs = refl
put_append (x ∷ xs) ys zs = put_append xs ys (put_referrer x zs)

pub left_at : (cs : List ColDef) (i : ℕ) (d : ColDef) → slice_get cs i ≡ Some d → drop i cs ≡ d ∷ drop (i + 1) cs
left_at [] zero d h = absurd (cc)
left_at [] (suc i) d h = absurd (cc)
left_at (c ∷ cs) zero d h = let same : c ≡ d = cc in ap (λ x. x ∷ cs) same
left_at (c ∷ cs) (suc i) d h = let e : suc (i + 1) ≡ suc i + 1 = omega arith in left_at cs i d h ∙ ap (λ n. d ∷ drop n (c ∷ cs)) e

pub left_past : (cs : List ColDef) (i : ℕ) → slice_get cs i ≡ None → drop i cs ≡ []
left_past [] zero h = refl
left_past [] (suc i) h = refl
left_past (c ∷ cs) zero h = absurd (cc)
left_past (c ∷ cs) (suc i) h = left_past cs i h

module _ (id : List ℕ) (test : ColDef → Bool) (cs : List ColDef) (i : ℕ) (d : ColDef) (at : slice_get cs i ≡ Some d) (found all : List Referrer) (so : put_referrers (referrers_among id test (drop i cs)) found ≡ all) where
  walk : put_referrers (map (referrer id) (cond (test d) (d ∷ filter test (drop (i + 1) cs)) (filter test (drop (i + 1) cs)))) found ≡ all
  walk = sym (ap (λ l. put_referrers (referrers_among id test l) found) (left_at cs i d at)) ∙ so

  pub column_taken : (found' : List Referrer) → test d ≡ true → found' ≡ put_referrer (referrer id d) found → put_referrers (referrers_among id test (drop (i + 1) cs)) found' ≡ all
  column_taken found' passes put =
      ap (put_referrers (referrers_among id test (drop (i + 1) cs))) put
      ∙ sym (ap (λ b. put_referrers (map (referrer id) (cond b (d ∷ filter test (drop (i + 1) cs)) (filter test (drop (i + 1) cs)))) found) passes) ∙ walk

  pub column_left : (found' : List Referrer) → test d ≡ false → found' ≡ found → put_referrers (referrers_among id test (drop (i + 1) cs)) found' ≡ all
  column_left found' fails same =
      ap (put_referrers (referrers_among id test (drop (i + 1) cs))) same
      ∙ sym (ap (λ b. put_referrers (map (referrer id) (cond b (d ∷ filter test (drop (i + 1) cs)) (filter test (drop (i + 1) cs)))) found) fails) ∙ walk

pub columns_done : (id : List ℕ) (test : ColDef → Bool) (cs : List ColDef) (i : ℕ) (found all : List Referrer) → slice_get cs i ≡ None → put_referrers (referrers_among id test (drop i cs)) found ≡ all → found ≡ all
columns_done id test cs i found all past so = sym (ap (λ l. put_referrers (referrers_among id test l) found) (left_past cs i past)) ∙ so

pub table_more : (s : Document) (old new : List ℕ) (retypes : Bool) (ids : List (List ℕ)) (i : ℕ) (id : List ℕ) → i < length ids → id ≡ get_or ids i id → (found found' all : List Referrer) → found' ≡ put_referrers (referrers_in s old new retypes id) found
    → put_referrers (referrers_of s old new retypes (drop i ids)) found ≡ all → put_referrers (referrers_of s old new retypes (drop (i + 1) ids)) found' ≡ all
table_more s old new retypes ids i id lt is found found' all put so =
    let here : drop i ids ≡ id ∷ drop (i + 1) ids = next_left ids i id lt ∙ ap (λ z. z ∷ drop (i + 1) ids) (sym is) in
    ap (put_referrers (referrers_of s old new retypes (drop (i + 1) ids))) put
    ∙ sym (put_append (referrers_in s old new retypes id) (referrers_of s old new retypes (drop (i + 1) ids)) found)
    ∙ sym (ap (λ l. put_referrers (referrers_of s old new retypes l) found) here) ∙ so

-- ---- what is true of each

pub each_append : {X : Type 0} (P : X → Type 0) (xs ys : List X) → AllByRecursion P xs → AllByRecursion P ys → AllByRecursion P (xs ++ ys)
each_append P [] ys h k = k
each_append P (x ∷ xs) ys h k = (h.0, each_append P xs ys h.1 k)

pub each_put : (P : Referrer → Type 0) (x : Referrer) (ys : List Referrer) → P x → AllByRecursion P ys → AllByRecursion P (put_referrer x ys)
each_put P x [] p h = (p, tt)
each_put P x (y ∷ ys) p h = elim (stands_before x y) as (λ b. AllByRecursion P (cond b (x ∷ y ∷ ys) (y ∷ put_referrer x ys))) [ true ↦ (p, h) | false ↦ (h.0, each_put P x ys p h.1) ]

pub each_put_all : (P : Referrer → Type 0) (xs ys : List Referrer) → AllByRecursion P xs → AllByRecursion P ys → AllByRecursion P (put_referrers xs ys)
each_put_all P [] ys h k = k
each_put_all P (x ∷ xs) ys h k = each_put_all P xs (put_referrer x ys) h.1 (each_put P x ys h.0 k)

-- a column that refers to a table
pub record IsReferrer (s : Document) (old new : List ℕ) (retypes : Bool) (k : Referrer) : Type 0 where
  pub id : List ℕ
  pub named : k.table ≡ renamed_id old new id
  pub inside : is_left_out retypes id ≡ false
  pub test : is_referrer old retypes k.column ≡ true
  pub table : Table
  pub there : find_id table_id id s ≡ Some table
  pub found : find_id column_id k.column.id table.grid.columns ≡ Some k.column

module _ (s : Document) (whole : IsWhole s) (old new : List ℕ) (retypes : Bool) where
  among : (id : List ℕ) (t : Table) → is_left_out retypes id ≡ false → find_id table_id id s ≡ Some t → AllByRecursion (IsReferrer s old new retypes) (referrers_among (renamed_id old new id) (is_referrer old retypes) t.grid.columns)
  among id t inside there =
      let sound : IsSoundGrid t.grid = found_all table_id (λ t. IsSoundGrid t.grid) id s t whole.sound.grids there in
      let each : AllByRecursion (λ d. find_id column_id d.id t.grid.columns ≡ Some d) t.grid.columns = each_found column_id (λ d. find_id column_id d.id t.grid.columns ≡ Some d) t.grid.columns sound.is_grid.distinct (λ d h. h) in
      each_mapped (IsReferrer s old new retypes) (referrer (renamed_id old new id)) (filter (is_referrer old retypes) t.grid.columns)
      (each_weaker (λ d. (find_id column_id d.id t.grid.columns ≡ Some d) × (is_referrer old retypes d ≡ true)) (λ d. IsReferrer s old new retypes (referrer (renamed_id old new id) d))
      (λ d h. record { id = id; named = refl; inside = inside; test = h.1; table = t; there = there; found = h.0 })
      (filter (is_referrer old retypes) t.grid.columns) (each_passed (λ d. find_id column_id d.id t.grid.columns ≡ Some d) (is_referrer old retypes) t.grid.columns each))

  inside_one : (id : List ℕ) → is_left_out retypes id ≡ false → AllByRecursion (IsReferrer s old new retypes) (referrers_among (renamed_id old new id) (is_referrer old retypes) (grid_at s id).columns)
  inside_one id inside =
      elim (find_id table_id id s) as (λ (o : Option Table). find_id table_id id s ≡ o → AllByRecursion (IsReferrer s old new retypes) (referrers_among (renamed_id old new id) (is_referrer old retypes) (elim o as (λ _. Grid ColDef) [ None ↦ no_grid | Some t ↦ t.grid ]).columns)) [
        | None ↦ λ _. tt
        | Some t ↦ λ there. among id t inside there
      ] refl

  in_one : (id : List ℕ) → AllByRecursion (IsReferrer s old new retypes) (referrers_in s old new retypes id)
  in_one id =
      elim (is_left_out retypes id) as (λ b. is_left_out retypes id ≡ b → AllByRecursion (IsReferrer s old new retypes) (cond b [] (referrers_among (renamed_id old new id) (is_referrer old retypes) (grid_at s id).columns))) [
        | true ↦ λ _. tt
        | false ↦ λ inside. inside_one id inside
      ] refl

  in_all : (ids : List (List ℕ)) → AllByRecursion (IsReferrer s old new retypes) (referrers_of s old new retypes ids)
  in_all [] = tt
  in_all (id ∷ ids) = each_append (IsReferrer s old new retypes) (referrers_in s old new retypes id) (referrers_of s old new retypes ids) (in_one id) (in_all ids)

  pub each_referrer : AllByRecursion (IsReferrer s old new retypes) (referrers s old new retypes)
  each_referrer = each_put_all (IsReferrer s old new retypes) (referrers_of s old new retypes (map table_id s)) [] (in_all (map table_id s)) tt
