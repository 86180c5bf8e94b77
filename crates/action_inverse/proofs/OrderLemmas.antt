-- Lists put in the order of their ids, and mapped.
use Rattle.std.proofs.Common.{ℕ, Bool, true, false, cond, not, List, [], ◌∷◌, ◌++◌, map, filter, length, take, ◌≤◌, ◌≡◌, refl, sym, ap, ◌∙◌}
use Rattle.std.proofs.lemmas.List.{take_all}
use Rattle.std.specs.Str.{bytes_eq}
use Rattle.doc_model.specs.declared.column.CellColumn.{CellColumn}
use Rattle.doc_model.specs.declared.column.ColDef.{ColDef}
use Rattle.doc_model.specs.ByIds.{precedes, put_by_id, by_id}
use Rattle.doc_model.specs.Column.{column_id}
use Rattle.doc_model.specs.Grid.{Grid}
use Rattle.doc_model.specs.Inverse.{data_columns, old_columns}
use Rattle.doc_model.specs.Records.{column_of, given_id}

module _ {X : Type 0} (id : X → List ℕ) where
  -- the things of the first list put into the second, from the last on
  abbrev pub put_all : List X → List X → List X
  put_all [] sorted = sorted
  put_all (x ∷ xs) sorted = put_by_id id x (put_all xs sorted)

  pub put_all-none : (xs : List X) → put_all xs [] ≡ by_id id xs
  put_all-none [] = refl
  put_all-none (x ∷ xs) = ap (put_by_id id x) (put_all-none xs)

  pub put_all-last : (xs : List X) (x : X) (sorted : List X) → put_all (xs ++ x ∷ []) sorted ≡ put_all xs (put_by_id id x sorted)
  put_all-last [] x sorted = refl
  put_all-last (y ∷ xs) x sorted = ap (put_by_id id y) (put_all-last xs x sorted)

module _ {X Y : Type 0} (id : X → List ℕ) (name : Y → List ℕ) (f : X → Y) (keeps : (x : X) → name (f x) ≡ id x) where
  map-put_by_id : (x : X) (xs : List X) → map f (put_by_id id x xs) ≡ put_by_id name (f x) (map f xs)
  map-put_by_id x [] = refl
  map-put_by_id x (y ∷ xs) =
      mapped (precedes (id x) (id y)) (bytes_eq (id x) (id y)) (map-put_by_id x xs)
      ∙ ap (λ b. cond b (f x ∷ f y ∷ map f xs) (cond (bytes_eq (id x) (id y)) (f x ∷ map f xs) (f y ∷ put_by_id name (f x) (map f xs)))) before
      ∙ ap (λ b. cond (precedes (name (f x)) (name (f y))) (f x ∷ f y ∷ map f xs) (cond b (f x ∷ map f xs) (f y ∷ put_by_id name (f x) (map f xs)))) same
    where
      mapped : (b e : Bool) → map f (put_by_id id x xs) ≡ put_by_id name (f x) (map f xs) → map f (cond b (x ∷ y ∷ xs) (cond e (x ∷ xs) (y ∷ put_by_id id x xs)))
          ≡ cond b (f x ∷ f y ∷ map f xs) (cond e (f x ∷ map f xs) (f y ∷ put_by_id name (f x) (map f xs)))
      mapped true e h = refl
      mapped false true h = refl
      mapped false false h = ap (λ l. f y ∷ l) h

      before : precedes (id x) (id y) ≡ precedes (name (f x)) (name (f y))
      before = ap (λ a. precedes a (id y)) (sym (keeps x)) ∙ ap (precedes (name (f x))) (sym (keeps y))

      same : bytes_eq (id x) (id y) ≡ bytes_eq (name (f x)) (name (f y))
      same = ap (λ a. bytes_eq a (id y)) (sym (keeps x)) ∙ ap (bytes_eq (name (f x))) (sym (keeps y))

  pub map-by_id : (xs : List X) → map f (by_id id xs) ≡ by_id name (map f xs)
  map-by_id [] = refl
  map-by_id (x ∷ xs) = map-put_by_id x (by_id id xs) ∙ ap (put_by_id name (f x)) (map-by_id xs)

-- the old cells of given columns, put in order
pub old_sorted : (g : Grid ColDef) (rows : List ℕ) (ks vs ws : List CellColumn)
    → vs ≡ map (λ (k : CellColumn). column_of column_id g rows k.id) ks → ws ≡ by_id given_id vs → ws ≡ old_columns g rows ks
old_sorted g rows ks vs ws made sorted =
    sorted ∙ ap (by_id given_id) made ∙ sym (map-by_id given_id given_id (λ (k : CellColumn). column_of column_id g rows k.id) (λ k. refl) ks)

-- the cells of data columns, put in order
pub data_sorted : (g : Grid ColDef) (rows : List ℕ) (cs : List ColDef) (vs ws : List CellColumn) (n : ℕ) → length cs ≤ n → cs ≡ g.columns
    → vs ≡ map (λ (d : ColDef). column_of column_id g rows d.id) (filter (λ (d : ColDef). not d.info.is_formula) (take n cs))
    → ws ≡ by_id given_id vs → ws ≡ data_columns g rows
data_sorted g rows cs vs ws n all same made sorted =
    sorted
    ∙ ap (by_id given_id) (made ∙ ap (λ ds. map (λ (d : ColDef). column_of column_id g rows d.id) (filter (λ (d : ColDef). not d.info.is_formula) ds)) (take_all n cs all))
    ∙ sym (map-by_id column_id given_id (λ (d : ColDef). column_of column_id g rows d.id) (λ d. refl) (filter (λ (d : ColDef). not d.info.is_formula) cs))
    ∙ ap (λ ds. map (λ (d : ColDef). column_of column_id g rows d.id) (by_id column_id (filter (λ (d : ColDef). not d.info.is_formula) ds))) same
