-- No two of the columns that refer to a table are one.
use Rattle.std.proofs.Common.{ℕ, Bool, true, false, cond, ◌&&◌, List, [], ◌∷◌, ◌++◌, map, filter, ◌≡◌, refl, ap, ◌∙◌, Option, Some, None}
use Rattle.std.specs.Bool.{⊤}
use Rattle.std.specs.List.{AllByRecursion}
use Rattle.std.specs.Str.{bytes_eq}
use Rattle.doc_model.specs.declared.column.ColDef.{ColDef}
use Rattle.doc_model.specs.ByIds.{AreDistinct, find_id}
use Rattle.doc_model.specs.Column.{column_id}
use Rattle.doc_model.specs.Document.{Document, Table, table_id}
use Rattle.doc_model.specs.DocumentLaws.{IsWhole}
use Rattle.doc_model.specs.Grid.{Grid}
use Rattle.doc_model.specs.Schema.{no_grid}
use Rattle.doc_model.specs.Sound.{IsSoundGrid}
use Rattle.doc_model.proofs.ByIdsLaws.{found_all}
use Rattle.doc_model.proofs.ByRowLaws.{AreDistinct-filter}
use Rattle.doc_model.proofs.Choices.{each_both, each_mapped, each_weaker}
use Rattle.doc_readers.specs.Parts.{grid_at}
use Rattle.user_actions.specs.declared.referrers.Referrer.{Referrer}
use Rattle.user_actions.specs.References.{is_left_out, is_referrer, put_referrer, put_referrers, referrer, referrers, referrers_among, referrers_in, referrers_of, renamed_id, stands_before}
use Rattle.user_actions.proofs.ClearedLemmas.{same_id}
use Rattle.user_actions.proofs.ReferrerLemmas.{each_append, each_put}
use Rattle.user_actions.proofs.SchemaStepLemmas.{bytes_symm}

abbrev pub same_key : Referrer → Referrer → Bool
same_key a b = bytes_eq a.table b.table && bytes_eq a.column.id b.column.id

abbrev pub AreApart : List Referrer → Type 0
AreApart [] = ⊤
AreApart (x ∷ xs) = AllByRecursion (λ y. same_key x y ≡ false) xs × AreApart xs

key_symm : (x y : Referrer) → same_key x y ≡ same_key y x
key_symm x y = ap (λ b. b && bytes_eq x.column.id y.column.id) (bytes_symm x.table y.table) ∙ ap (λ b. bytes_eq y.table x.table && b) (bytes_symm x.column.id y.column.id)

apart_put : (x : Referrer) (ys : List Referrer) → AllByRecursion (λ y. same_key x y ≡ false) ys → AreApart ys → AreApart (put_referrer x ys)
apart_put x [] h a = (tt, tt)
apart_put x (y ∷ ys) h a =
    elim (stands_before x y) as (λ b. AreApart (cond b (x ∷ y ∷ ys) (y ∷ put_referrer x ys))) [
      | true ↦ (h, a)
      | false ↦ (each_put (λ z. same_key y z ≡ false) x ys (key_symm y x ∙ h.0) a.0, apart_put x ys h.1 a.1)
    ]

apart_put_all : (xs ys : List Referrer) → AreApart xs → AreApart ys → AllByRecursion (λ x. AllByRecursion (λ y. same_key x y ≡ false) ys) xs → AreApart (put_referrers xs ys)
apart_put_all [] ys a b c = b
apart_put_all (x ∷ xs) ys a b c =
    apart_put_all xs (put_referrer x ys) a.1 (apart_put x ys c.0 b)
    (each_weaker (λ z. (same_key x z ≡ false) × AllByRecursion (λ y. same_key z y ≡ false) ys) (λ z. AllByRecursion (λ y. same_key z y ≡ false) (put_referrer x ys))
    (λ z h. each_put (λ y. same_key z y ≡ false) x ys (key_symm z x ∙ h.0) h.1) xs
    (each_both (λ z. same_key x z ≡ false) (λ z. AllByRecursion (λ y. same_key z y ≡ false) ys) xs a.0 c.1))

apart_append : (xs ys : List Referrer) → AreApart xs → AreApart ys → AllByRecursion (λ x. AllByRecursion (λ y. same_key x y ≡ false) ys) xs → AreApart (xs ++ ys)
apart_append [] ys a b c = b
apart_append (x ∷ xs) ys a b c = (each_append (λ y. same_key x y ≡ false) xs ys a.0 c.0, apart_append xs ys a.1 b c.1)

pub and_false : (b : Bool) → (b && false) ≡ false
and_false true = refl
and_false false = refl

map_apart : (n : List ℕ) (cs : List ColDef) → AreDistinct column_id cs → AreApart (map (referrer n) cs)
map_apart n [] h = tt
map_apart n (c ∷ cs) h = (
  each_mapped (λ y. same_key (referrer n c) y ≡ false) (referrer n) cs
      (each_weaker (λ d. bytes_eq c.id d.id ≡ false) (λ d. same_key (referrer n c) (referrer n d) ≡ false) (λ d e. ap (λ b. bytes_eq n n && b) e ∙ and_false (bytes_eq n n)) cs h.0),
  map_apart n cs h.1,
)

module _ (s : Document) (whole : IsWhole s) (old : List ℕ) (retypes : Bool) where
  columns_distinct : (id : List ℕ) → AreDistinct column_id (grid_at s id).columns
  columns_distinct id =
      elim (find_id table_id id s) as (λ (o : Option Table). find_id table_id id s ≡ o → AreDistinct column_id (elim o as (λ _. Grid ColDef) [ None ↦ no_grid | Some t ↦ t.grid ]).columns) [
        | None ↦ λ _. tt
        | Some t ↦ λ there. let sound : IsSoundGrid t.grid = found_all table_id (λ t. IsSoundGrid t.grid) id s t whole.sound.grids there in sound.is_grid.distinct
      ] refl

  in_apart : (id : List ℕ) → AreApart (referrers_in s old old retypes id)
  in_apart id =
      elim (is_left_out retypes id) as (λ b. AreApart (cond b [] (referrers_among (renamed_id old old id) (is_referrer old retypes) (grid_at s id).columns))) [
        | true ↦ tt
        | false ↦ map_apart (renamed_id old old id) (filter (is_referrer old retypes) (grid_at s id).columns) (AreDistinct-filter column_id (is_referrer old retypes) (grid_at s id).columns (columns_distinct id))
      ]

  all_named : (n : List ℕ) (cs : List ColDef) → AllByRecursion (λ k. k.table ≡ n) (map (referrer n) cs)
  all_named n [] = tt
  all_named n (c ∷ cs) = (refl, all_named n cs)

  in_named : (id : List ℕ) → AllByRecursion (λ k. k.table ≡ id) (referrers_in s old old retypes id)
  in_named id =
      elim (is_left_out retypes id) as (λ b. AllByRecursion (λ k. k.table ≡ id) (cond b [] (referrers_among (renamed_id old old id) (is_referrer old retypes) (grid_at s id).columns))) [
        | true ↦ tt
        | false ↦ each_weaker (λ (k : Referrer). k.table ≡ renamed_id old old id) (λ (k : Referrer). k.table ≡ id) (λ k e. e ∙ same_id old id) (map (referrer (renamed_id old old id)) (filter (is_referrer old retypes) (grid_at s id).columns))
            (all_named (renamed_id old old id) (filter (is_referrer old retypes) (grid_at s id).columns))
      ]

  of_apart_from : (id : List ℕ) (ids : List (List ℕ)) → AllByRecursion (λ j. bytes_eq id j ≡ false) ids → AllByRecursion (λ k. bytes_eq id k.table ≡ false) (referrers_of s old old retypes ids)
  of_apart_from id [] h = tt
  of_apart_from id (j ∷ ids) h =
      each_append (λ (k : Referrer). bytes_eq id k.table ≡ false) (referrers_in s old old retypes j) (referrers_of s old old retypes ids)
      (each_weaker (λ (k : Referrer). k.table ≡ j) (λ (k : Referrer). bytes_eq id k.table ≡ false) (λ k e. ap (bytes_eq id) e ∙ h.0) (referrers_in s old old retypes j) (in_named j))
      (of_apart_from id ids h.1)

  of_apart : (ids : List (List ℕ)) → AreDistinct (λ n. n) ids → AreApart (referrers_of s old old retypes ids)
  of_apart [] h = tt
  of_apart (id ∷ ids) h =
      apart_append (referrers_in s old old retypes id) (referrers_of s old old retypes ids) (in_apart id) (of_apart ids h.1)
      (each_weaker (λ (k : Referrer). k.table ≡ id) (λ (k : Referrer). AllByRecursion (λ y. same_key k y ≡ false) (referrers_of s old old retypes ids))
      (λ k named. each_weaker (λ (y : Referrer). bytes_eq id y.table ≡ false) (λ (y : Referrer). same_key k y ≡ false) (λ y e. ap (λ n. bytes_eq n y.table && bytes_eq k.column.id y.column.id) named ∙ ap (λ b. b && bytes_eq k.column.id y.column.id) e)
      (referrers_of s old old retypes ids) (of_apart_from id ids h.0))
      (referrers_in s old old retypes id) (in_named id))

  ids_distinct : (ts : Document) → AreDistinct table_id ts → AreDistinct (λ n. n) (map table_id ts)
  ids_distinct [] h = tt
  ids_distinct (t ∷ ts) h = (each_mapped (λ n. bytes_eq t.id n ≡ false) table_id ts h.0, ids_distinct ts h.1)

  none_crossed : (xs : List Referrer) → AllByRecursion (λ x. AllByRecursion (λ y. same_key x y ≡ false) []) xs
  none_crossed [] = tt
  none_crossed (x ∷ xs) = (tt, none_crossed xs)

  pub apart_referrers : AreApart (referrers s old old retypes)
  apart_referrers =
      apart_put_all (referrers_of s old old retypes (map table_id s)) [] (of_apart (map table_id s) (ids_distinct s whole.sound.distinct)) tt
      (none_crossed (referrers_of s old old retypes (map table_id s)))
