-- What stands in a row of a list of things that have rows, and in a grid that is made of them.
use Rattle.std.proofs.Common.{ℕ, true, false, cond, not, ◌||◌, List, [], ◌∷◌, ◌++◌, map, ◌≡◌, refl, sym, ap, ◌∙◌, Option, Some, None, option_map, eqb, ltb, is_some, find}
use Rattle.std.proofs.lemmas.Bool.{true≢false}
use Rattle.std.proofs.lemmas.Slice.Eq.{bytes_eq-Decides}
use Rattle.std.specs.List.{AllByRecursion}
use Rattle.std.specs.Str.{bytes_eq}
use Rattle.cell_types.specs.declared.value.CellValue.{CellValue}
use Rattle.cell_types.specs.declared.value.CellValue.TheVariants.{Null}
use Rattle.doc_model.specs.ByIds.{find_id, with_id, without_id, AreDistinct}
use Rattle.doc_model.specs.Document.{put_by_row}
use Rattle.doc_model.specs.Grid.{Grid, beside}
use Rattle.doc_model.specs.Records.{or_else}
use Rattle.doc_model.specs.Rows.{has}
use Rattle.doc_model.specs.SameRows.{SameRow}
use Rattle.doc_model.proofs.Choices.{cond_false}
use Rattle.doc_model.proofs.ByIdsLaws.{each_found}

module _ {X : Type 0} (row : X → ℕ) where
  -- the first with that row
  abbrev pub first_at : ℕ → List X → Option X
  first_at r xs = find (λ x. eqb (row x) r) xs

  pub has-first : (xs : List X) (r : ℕ) → has (map row xs) r ≡ is_some (first_at r xs)
  has-first [] r = refl
  has-first (x ∷ xs) r = elim (eqb (row x) r) as (λ b. (b || has (map row xs) r) ≡ is_some (cond b (Some x) (first_at r xs))) [ true ↦ refl | false ↦ has-first xs r ]

  pub first-none : (xs : List X) (r : ℕ) → has (map row xs) r ≡ false → first_at r xs ≡ None
  first-none xs r none = by (first_at r xs) (sym (has-first xs r) ∙ none)
    where
      by : (o : Option X) → is_some o ≡ false → o ≡ None
      by None e = refl
      by (Some x) e = absurd (true≢false e)

  pub first-append : (xs ys : List X) (r : ℕ) → first_at r (xs ++ ys) ≡ or_else (first_at r xs) (first_at r ys)
  first-append [] ys r = refl
  first-append (x ∷ xs) ys r = elim (eqb (row x) r) as (λ b. cond b (Some x) (first_at r (xs ++ ys)) ≡ or_else (cond b (Some x) (first_at r xs)) (first_at r ys)) [ true ↦ refl | false ↦ first-append xs ys r ]

  -- something of another row put among them
  pub first-put_by_row : (y : X) (xs : List X) (r : ℕ) → eqb (row y) r ≡ false → first_at r (put_by_row row y xs) ≡ first_at r xs
  first-put_by_row y [] r apart = cond_false (eqb (row y) r) (Some y) None apart
  first-put_by_row y (x ∷ xs) r apart =
      elim (ltb (row y) (row x)) as (λ b. first_at r (cond b (y ∷ x ∷ xs) (x ∷ put_by_row row y xs)) ≡ first_at r (x ∷ xs)) [
        | true ↦ cond_false (eqb (row y) r) (Some y) (first_at r (x ∷ xs)) apart
        | false ↦ ap (λ o. cond (eqb (row x) r) (Some x) o) (first-put_by_row y xs r apart)
      ]

  module _ (id : X → List ℕ) (c : List ℕ) (r : ℕ) where
    -- those of an id have other rows
    abbrev pub AreElsewhere : List X → Type 0
    AreElsewhere xs = AllByRecursion (λ x. bytes_eq (id x) c ≡ true → eqb (row x) r ≡ false) xs

    pub first-without_id : (xs : List X) → AreElsewhere xs → first_at r (without_id id c xs) ≡ first_at r xs
    first-without_id [] h = refl
    first-without_id (x ∷ xs) h =
        elim (bytes_eq (id x) c) as (λ b. (b ≡ true → eqb (row x) r ≡ false) → first_at r (cond (not b) (x ∷ without_id id c xs) (without_id id c xs)) ≡ first_at r (x ∷ xs)) [
          | true ↦ λ away. first-without_id xs h.1 ∙ sym (cond_false (eqb (row x) r) (Some x) (first_at r xs) (away refl))
          | false ↦ λ _. ap (λ o. cond (eqb (row x) r) (Some x) o) (first-without_id xs h.1)
        ] h.0

    pub first-with_id : (f : X → X) → ((x : X) → row (f x) ≡ row x) → (xs : List X) → AreElsewhere xs → first_at r (with_id id c f xs) ≡ first_at r xs
    first-with_id f keeps [] h = refl
    first-with_id f keeps (x ∷ xs) h =
        elim (bytes_eq (id x) c) as (λ b. (b ≡ true → eqb (row x) r ≡ false) → cond (eqb (row (cond b (f x) x)) r) (Some (cond b (f x) x)) (first_at r (with_id id c f xs)) ≡ first_at r (x ∷ xs)) [
          | true ↦ λ away.
              cond_false (eqb (row (f x)) r) (Some (f x)) (first_at r (with_id id c f xs)) (ap (λ n. eqb n r) (keeps x) ∙ away refl)
              ∙ first-with_id f keeps xs h.1
              ∙ sym (cond_false (eqb (row x) r) (Some x) (first_at r xs) (away refl))
          | false ↦ λ _. ap (λ o. cond (eqb (row x) r) (Some x) o) (first-with_id f keeps xs h.1)
        ] h.0

-- what holds of the one of an id holds of each of that id
pub each_of_id : {X : Type 0} (id : X → List ℕ) (P : X → Type 0) (c : List ℕ) (xs : List X) → AreDistinct id xs → ((x : X) → find_id id c xs ≡ Some x → P x) → AllByRecursion (λ x. bytes_eq (id x) c ≡ true → P x) xs
each_of_id id P c xs distinct h =
    each_found id (λ x. bytes_eq (id x) c ≡ true → P x) xs distinct (λ x found is. h x (ap (λ n. find_id id n xs) (sym ((bytes_eq-Decides (id x) c).0 is)) ∙ found))

-- ---- grids made of things

module _ {C X : Type 0} (id : C → List ℕ) (columns : List C) (row : X → ℕ) (cells : X → List CellValue) where
  abbrev pub grid_by : List X → Grid C
  grid_by xs = record { columns = columns; rows = map row xs; cells = map cells xs }

  abbrev pub cells_or_none : Option (List CellValue) → List CellValue
  cells_or_none None = []
  cells_or_none (Some vs) = vs

  beside-first : (xs : List X) (r : ℕ) → beside (λ q. eqb q r) (map row xs) (map cells xs) [] ≡ cells_or_none (option_map cells (first_at row r xs))
  beside-first [] r = refl
  beside-first (x ∷ xs) r = elim (eqb (row x) r) as (λ b. cond b (cells x) (beside (λ q. eqb q r) (map row xs) (map cells xs) []) ≡ cells_or_none (option_map cells (cond b (Some x) (first_at row r xs)))) [ true ↦ refl | false ↦ beside-first xs r ]

  has-cells : (xs : List X) (r : ℕ) → has (map row xs) r ≡ is_some (option_map cells (first_at row r xs))
  has-cells xs r = has-first row xs r ∙ by (first_at row r xs)
    where
      by : (o : Option X) → is_some o ≡ is_some (option_map cells o)
      by None = refl
      by (Some x) = refl

  -- grids of things whose cells in a row are the same
  pub same_row_by : (xs ys : List X) (r : ℕ) → option_map cells (first_at row r xs) ≡ option_map cells (first_at row r ys) → SameRow id r (grid_by xs) (grid_by ys)
  same_row_by xs ys r e = record {
    columns = refl;
    rows = has-cells xs r ∙ ap is_some e ∙ sym (has-cells ys r);
    cells = λ d found here. ap (λ vs. beside (λ k. bytes_eq (id k) (id d)) columns vs Null) (beside-first xs r ∙ ap cells_or_none e ∙ sym (beside-first ys r));
  }
