-- Walks over the tables and columns that schema tables say.
use Rattle.std.proofs.Common.{ℕ, zero, suc, Bool, true, false, cond, ◌&&◌, ◌+◌, ◌-◌, ◌<◌, ◌≤◌, nat_eq, List, [], ◌∷◌, map, length, drop, get_or, slice_get, ◌≡◌, refl, sym, ap, ◌∙◌, eqb, ltb, Option, Some, None, Bor, not, arith}
use Rattle.std.proofs.lemmas.Bool.{lt-ltb, le-ltb, le-leb, leb-true, leb-false, ne_eqb, eqb-true, eqb-false, eq-eqb}
use Rattle.std.specs.Prelude.{nat_le, option_map}
use Rattle.std.specs.Option.{is_none, is_some, MatchOption}
use Rattle.std.specs.Str.{bytes_eq}
use Rattle.std.proofs.lemmas.Slice.Eq.{bytes_eq-Decides}
use Rattle.doc_model.specs.declared.column.ColDef.{ColDef}
use Rattle.doc_model.specs.MetadataIds.{tables_id}
use Rattle.doc_model.specs.Document.{Document, table_id}
use Rattle.doc_model.specs.Readers.{table_at, column_at}
use Rattle.doc_model.proofs.Choices.{both_true, cond_true, false_from}
use Rattle.doc_readers.specs.Parts.{grid_at}
use Rattle.doc_readers.proofs.ColumnLemmas.{column_read, column_past}
use Rattle.meta_schema.specs.Agreement.{has_text, cell_beside, has_table_at, is_said, are_said, tables_said, column_count}

-- ---- lists from an index on

module _ {X : Type 0} where
  drop_at : (xs : List X) (i j : ℕ) (x : X) → j ≡ suc i → slice_get xs i ≡ Some x → drop i xs ≡ x ∷ drop j xs
  drop_at [] zero j x next h = absurd (cc)
  drop_at [] (suc i) j x next h = absurd (cc)
  drop_at (y ∷ xs) zero j x next h = let same : y ≡ x = cc in ap (λ z. z ∷ xs) same ∙ ap (λ n. x ∷ drop n (y ∷ xs)) (sym next)
  drop_at (y ∷ xs) (suc i) j x next h = drop_at xs i (suc i) x refl h ∙ ap (λ n. x ∷ drop n (y ∷ xs)) (sym next)

  pub drop_here : (xs : List X) (i : ℕ) (x : X) → slice_get xs i ≡ Some x → drop i xs ≡ x ∷ drop (i + 1) xs
  drop_here xs i x h = drop_at xs i (i + 1) x (omega arith) h

  pub drop_past : (xs : List X) (i : ℕ) → slice_get xs i ≡ None → drop i xs ≡ []
  drop_past [] zero h = refl
  drop_past [] (suc i) h = refl
  drop_past (y ∷ xs) zero h = absurd (cc)
  drop_past (y ∷ xs) (suc i) h = drop_past xs i h

  past_length : (xs : List X) (i : ℕ) → slice_get xs i ≡ None → length xs ≤ i
  past_length [] i h = omega arith
  past_length (y ∷ xs) zero h = absurd (cc)
  past_length (y ∷ xs) (suc i) h = let later : length xs ≤ i = past_length xs i h in omega arith

  here_length : (xs : List X) (i : ℕ) (x : X) → slice_get xs i ≡ Some x → i < length xs
  here_length [] zero x h = absurd (cc)
  here_length [] (suc i) x h = absurd (cc)
  here_length (y ∷ xs) zero x h = omega arith
  here_length (y ∷ xs) (suc i) x h = let later : i < length xs = here_length xs i x h in omega arith

item_at : (rows : List ℕ) (i : ℕ) → i < length rows → slice_get rows i ≡ Some (get_or rows i 0)
item_at [] i h = absurd (omega arith)
item_at (r ∷ rows) zero h = refl
item_at (r ∷ rows) (suc i) h = item_at rows i (omega arith)

drop_item : (rows : List ℕ) (i : ℕ) → i < length rows → drop i rows ≡ get_or rows i 0 ∷ drop (i + 1) rows
drop_item rows i h = drop_here rows i (get_or rows i 0) (item_at rows i h)

drop_end : (rows : List ℕ) (i : ℕ) → length rows ≤ i → drop i rows ≡ []
drop_end [] zero h = refl
drop_end [] (suc i) h = refl
drop_end (r ∷ rows) zero h = absurd (omega arith)
drop_end (r ∷ rows) (suc i) h = drop_end rows i (omega arith)

slice_get-map : {X Y : Type 0} (f : X → Y) (xs : List X) (i : ℕ) → slice_get (map f xs) i ≡ option_map f (slice_get xs i)
slice_get-map f [] zero = refl
slice_get-map f [] (suc i) = refl
slice_get-map f (x ∷ xs) zero = refl
slice_get-map f (x ∷ xs) (suc i) = slice_get-map f xs i

and_false : (a : Bool) → (a && false) ≡ false
and_false true = refl
and_false false = refl

-- ---- the columns of one table

pub column_within : (s : Document) (t : List ℕ) (i : ℕ) (d : ColDef) → column_at s t i ≡ Some d → i < length (grid_at s t).columns
column_within s t i d h = here_length (grid_at s t).columns i d (column_read s t i d h)

pub not_all : (b : Bool) (n left : ℕ) → b ≡ false → ◌≡◌ {A = Option ℕ} None (cond (b && nat_le n left) (Some (left - n)) None)
not_all b n left isnt = ap (λ x. cond (x && nat_le n left) (Some (left - n)) None) (sym isnt)

pub too_many : (b : Bool) (n left : ℕ) → left < n → ◌≡◌ {A = Option ℕ} None (cond (b && nat_le n left) (Some (left - n)) None)
too_many b n left less =
    ap (λ x. cond x (Some (left - n)) None) (sym (ap (λ y. b && y) (false_from (nat_le n left) (λ is. absurd (omega (arith, leb-true n left is)))) ∙ and_false b))

module _ (s : Document) (t : List ℕ) (parent index low : ℕ) (rest : are_said s parent low (drop index (grid_at s t).columns) ≡ are_said s parent 0 (grid_at s t).columns) where
  column_next : (d : ColDef) → column_at s t index ≡ Some d → ((ltb low d.row && is_said s parent d) && are_said s parent d.row (drop (index + 1) (grid_at s t).columns)) ≡ are_said s parent 0 (grid_at s t).columns
  column_next d h = sym (ap (are_said s parent low) (drop_here (grid_at s t).columns index d (column_read s t index d h))) ∙ rest

  pub column_passed : (d : ColDef) → column_at s t index ≡ Some d → low < d.row → is_said s parent d ≡ true → are_said s parent d.row (drop (index + 1) (grid_at s t).columns) ≡ are_said s parent 0 (grid_at s t).columns
  column_passed d h above said =
      sym (ap (λ b. b && are_said s parent d.row (drop (index + 1) (grid_at s t).columns)) (both_true (ltb low d.row) (is_said s parent d) (lt-ltb low d.row above) said)) ∙ column_next d h

  pub column_low : (d : ColDef) → column_at s t index ≡ Some d → d.row ≤ low → are_said s parent 0 (grid_at s t).columns ≡ false
  column_low d h below = sym (column_next d h) ∙ ap (λ b. (b && is_said s parent d) && are_said s parent d.row (drop (index + 1) (grid_at s t).columns)) (le-ltb low d.row below)

  pub column_unsaid : (d : ColDef) → column_at s t index ≡ Some d → is_said s parent d ≡ false → are_said s parent 0 (grid_at s t).columns ≡ false
  column_unsaid d h isnt =
      sym (column_next d h)
      ∙ ap (λ b. (ltb low d.row && b) && are_said s parent d.row (drop (index + 1) (grid_at s t).columns)) isnt
      ∙ ap (λ b. b && are_said s parent d.row (drop (index + 1) (grid_at s t).columns)) (and_false (ltb low d.row))

  pub columns_end : (left : ℕ) → column_at s t index ≡ None → index ≤ left → index ≤ length (grid_at s t).columns
      → Some (left - index) ≡ cond (are_said s parent 0 (grid_at s t).columns && nat_le (length (grid_at s t).columns) left) (Some (left - length (grid_at s t).columns)) None
  columns_end left h within passed =
      let past : length (grid_at s t).columns ≤ index = past_length (grid_at s t).columns index (column_past s t index h) in
      let end : length (grid_at s t).columns ≡ index = omega arith in
      let all : are_said s parent 0 (grid_at s t).columns ≡ true = sym rest ∙ ap (are_said s parent low) (drop_past (grid_at s t).columns index (column_past s t index h)) in
      sym (cond_true (are_said s parent 0 (grid_at s t).columns && nat_le (length (grid_at s t).columns) left) (Some (left - length (grid_at s t).columns)) None
      (both_true (are_said s parent 0 (grid_at s t).columns) (nat_le (length (grid_at s t).columns) left) all (le-leb (length (grid_at s t).columns) left (omega arith)))
      ∙ ap (λ n. Some (left - n)) end)

-- ---- all tables

taken : (left n rest : ℕ) → n ≤ left → nat_eq (left - n) rest ≡ nat_eq left (n + rest)
taken left n rest le =
    elim (eqb (left - n) rest) as (λ b. eqb (left - n) rest ≡ b → b ≡ eqb left (n + rest)) [
      | true ↦ λ is. let e : left - n ≡ rest = eqb-true (left - n) rest is in sym (eq-eqb left (n + rest) (omega arith))
      | false ↦ λ isnt. let ne : left - n ≡ rest → ⊥ = eqb-false (left - n) rest isnt in sym (ne_eqb left (n + rest) (λ e. absurd (ne (omega arith))))
    ] refl

module _ (s : Document) (rows : List ℕ) (i left : ℕ) (said counted : Bool)
    (rest : tables_said s (drop i rows) (drop (i + 4) (map table_id s)) ≡ said)
    (count : nat_eq left (column_count s (drop (i + 4) (map table_id s))) ≡ counted) where
  ids_none : table_at s (i + 4) ≡ None → drop (i + 4) (map table_id s) ≡ []
  ids_none h = drop_past (map table_id s) (i + 4) (slice_get-map table_id s (i + 4) ∙ h)

  ids_some : (id : List ℕ) → table_at s (i + 4) ≡ Some id → drop (i + 4) (map table_id s) ≡ id ∷ drop ((i + 1) + 4) (map table_id s)
  ids_some id h = drop_here (map table_id s) (i + 4) id (slice_get-map table_id s (i + 4) ∙ h) ∙ ap (λ n. id ∷ drop n (map table_id s)) (omega arith)

  pub tables_short : i < length rows → table_at s (i + 4) ≡ None → false ≡ (said && counted)
  tables_short less h = ap (λ b. b && counted) (sym (ap (λ xs. tables_said s xs (drop (i + 4) (map table_id s))) (drop_item rows i less) ∙ ap (tables_said s (get_or rows i 0 ∷ drop (i + 1) rows)) (ids_none h)) ∙ rest)

  table_next : (id : List ℕ) → i < length rows → table_at s (i + 4) ≡ Some id
      → ((has_text (cell_beside s tables_id 0 (get_or rows i 0)) id && are_said s (get_or rows i 0) 0 (grid_at s id).columns) && tables_said s (drop (i + 1) rows) (drop ((i + 1) + 4) (map table_id s))) ≡ said
  table_next id less h =
      sym (ap (λ xs. tables_said s xs (drop (i + 4) (map table_id s))) (drop_item rows i less) ∙ ap (tables_said s (get_or rows i 0 ∷ drop (i + 1) rows)) (ids_some id h)) ∙ rest

  count_next : (id : List ℕ) → table_at s (i + 4) ≡ Some id → nat_eq left (length (grid_at s id).columns + column_count s (drop ((i + 1) + 4) (map table_id s))) ≡ counted
  count_next id h = sym (ap (λ xs. nat_eq left (column_count s xs)) (ids_some id h)) ∙ count

  pub table_unnamed : (id : List ℕ) → i < length rows → table_at s (i + 4) ≡ Some id → has_text (cell_beside s tables_id 0 (get_or rows i 0)) id ≡ false → false ≡ (said && counted)
  table_unnamed id less h isnt =
      ap (λ b. b && counted)
      (sym (ap (λ b. (b && are_said s (get_or rows i 0) 0 (grid_at s id).columns) && tables_said s (drop (i + 1) rows) (drop ((i + 1) + 4) (map table_id s))) isnt) ∙ table_next id less h)

  table_unsaid : (id : List ℕ) → i < length rows → table_at s (i + 4) ≡ Some id → are_said s (get_or rows i 0) 0 (grid_at s id).columns ≡ false → said ≡ false
  table_unsaid id less h isnt =
      sym (table_next id less h)
      ∙ ap (λ b. (has_text (cell_beside s tables_id 0 (get_or rows i 0)) id && b) && tables_said s (drop (i + 1) rows) (drop ((i + 1) + 4) (map table_id s))) isnt
      ∙ ap (λ b. b && tables_said s (drop (i + 1) rows) (drop ((i + 1) + 4) (map table_id s))) (and_false (has_text (cell_beside s tables_id 0 (get_or rows i 0)) id))

  -- what is left after the columns of a table
  abbrev Left : List ℕ → Option ℕ → Type 0
  Left id o = o ≡ cond (are_said s (get_or rows i 0) 0 (grid_at s id).columns && nat_le (length (grid_at s id).columns) left) (Some (left - length (grid_at s id).columns)) None

  pub table_left_none : (id : List ℕ) → i < length rows → table_at s (i + 4) ≡ Some id → Left id None → false ≡ (said && counted)
  table_left_none id less h none =
      elim (are_said s (get_or rows i 0) 0 (grid_at s id).columns) as (λ b. are_said s (get_or rows i 0) 0 (grid_at s id).columns ≡ b → ◌≡◌ {A = Option ℕ} None (cond (b && nat_le (length (grid_at s id).columns) left) (Some (left - length (grid_at s id).columns)) None) → false ≡ (said && counted)) [
        | false ↦ λ isnt _. ap (λ b. b && counted) (sym (table_unsaid id less h isnt))
        | true ↦ λ _ none.
            elim (nat_le (length (grid_at s id).columns) left) as (λ b. nat_le (length (grid_at s id).columns) left ≡ b → ◌≡◌ {A = Option ℕ} None (cond b (Some (left - length (grid_at s id).columns)) None) → false ≡ (said && counted)) [
              | true ↦ λ _ e. absurd (cc)
              | false ↦ λ isnt _.
                  let more : left < length (grid_at s id).columns = leb-false (length (grid_at s id).columns) left isnt in
                  sym (ap (λ b. said && b) (sym (count_next id h) ∙ ne_eqb left (length (grid_at s id).columns + column_count s (drop ((i + 1) + 4) (map table_id s))) (λ e. absurd (omega arith))) ∙ and_false said)
            ] refl none
      ] refl none

  pub table_left_some : (id : List ℕ) (o : Option ℕ) (n : ℕ) → i < length rows → table_at s (i + 4) ≡ Some id → has_text (cell_beside s tables_id 0 (get_or rows i 0)) id ≡ true → Left id o → o ≡ Some n
      → (tables_said s (drop (i + 1) rows) (drop ((i + 1) + 4) (map table_id s)) ≡ said) × (nat_eq n (column_count s (drop ((i + 1) + 4) (map table_id s))) ≡ counted)
  table_left_some id o n less h named is some =
      elim (are_said s (get_or rows i 0) 0 (grid_at s id).columns) as (λ b. are_said s (get_or rows i 0) 0 (grid_at s id).columns ≡ b → Some n ≡ cond (b && nat_le (length (grid_at s id).columns) left) (Some (left - length (grid_at s id).columns)) None
      → (tables_said s (drop (i + 1) rows) (drop ((i + 1) + 4) (map table_id s)) ≡ said) × (nat_eq n (column_count s (drop ((i + 1) + 4) (map table_id s))) ≡ counted)) [
        | false ↦ λ _ e. absurd (cc)
        | true ↦ λ yes e.
            elim (nat_le (length (grid_at s id).columns) left) as (λ b. nat_le (length (grid_at s id).columns) left ≡ b → Some n ≡ cond b (Some (left - length (grid_at s id).columns)) None
            → (tables_said s (drop (i + 1) rows) (drop ((i + 1) + 4) (map table_id s)) ≡ said) × (nat_eq n (column_count s (drop ((i + 1) + 4) (map table_id s))) ≡ counted)) [
              | false ↦ λ _ e. absurd (cc)
              | true ↦ λ fits e.
                  let same : n ≡ left - length (grid_at s id).columns = cc in
                  let le : length (grid_at s id).columns ≤ left = leb-true (length (grid_at s id).columns) left fits in (
                    sym (ap (λ b. b && tables_said s (drop (i + 1) rows) (drop ((i + 1) + 4) (map table_id s))) (both_true (has_text (cell_beside s tables_id 0 (get_or rows i 0)) id) (are_said s (get_or rows i 0) 0 (grid_at s id).columns) named yes)) ∙ table_next id less h,
                    ap (λ m. nat_eq m (column_count s (drop ((i + 1) + 4) (map table_id s)))) same ∙ taken left (length (grid_at s id).columns) (column_count s (drop ((i + 1) + 4) (map table_id s))) le ∙ count_next id h,
                  )
            ] refl e
      ] refl (sym some ∙ is)

  -- behind the last row
  pub tables_end : (o : Option (List ℕ)) → length rows ≤ i → table_at s (i + 4) ≡ o → left ≡ 0 → is_none o ≡ (said && counted)
  tables_end None past h none =
      sym (ap (λ b. b && counted) (sym rest ∙ ap (λ xs. tables_said s xs (drop (i + 4) (map table_id s))) (drop_end rows i past) ∙ ap (tables_said s []) (ids_none h))
      ∙ sym count ∙ ap (λ xs. nat_eq left (column_count s xs)) (ids_none h) ∙ eq-eqb left 0 none)
  tables_end (Some id) past h none =
      ap (λ b. b && counted) (sym (sym rest ∙ ap (λ xs. tables_said s xs (drop (i + 4) (map table_id s))) (drop_end rows i past) ∙ ap (tables_said s []) (ids_some id h)))

-- ---- the first tables

pub first_id : (s : Document) (index : ℕ) (id name : List ℕ) → has_table_at s index id ≡ true → table_at s index ≡ Some name → name ≡ id
first_id s index id name has at =
    elim (table_at s index) as (λ o. o ≡ Some name → elim o [ None ↦ false | Some t ↦ bytes_eq t id ] ≡ true → name ≡ id) [
      | None ↦ λ e _. absurd (cc)
      | Some t ↦ λ e is. let same : t ≡ name = cc in sym same ∙ (bytes_eq-Decides t id).0 is
    ] at has

pub other_id : (s : Document) (index : ℕ) (id name : List ℕ) (rest : Bool) → table_at s index ≡ Some name → bytes_eq name id ≡ false → false ≡ (has_table_at s index id && rest)
other_id s index id name rest at other = ap (λ b. b && rest) (sym (ap (λ o. elim o [ None ↦ false | Some t ↦ bytes_eq t id ]) at ∙ other))

-- what a store tells behind the last table
pub told_end : (s : Document) (n : ℕ) (o : Option (Bor (List ℕ))) (none : Bool) → MatchOption o (table_at s n ≡ None) (λ x. table_at s n ≡ Some x.now) → is_some o ≡ not none → none ≡ is_none (table_at s n)
told_end s n None none at e = is_not none e ∙ ap is_none (sym at)
  where
    is_not : (b : Bool) → false ≡ not b → b ≡ true
    is_not true e = refl
    is_not false e = e
told_end s n (Some x) none at e = is_not none e ∙ ap is_none (sym at)
  where
    is_not : (b : Bool) → true ≡ not b → b ≡ false
    is_not true e = e
    is_not false e = refl
