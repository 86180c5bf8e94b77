-- What is done of a list, item by item.
use Rattle.std.proofs.Common.{ℕ, suc, ◌+◌, ◌<◌, ◌≤◌, true, List, [], ◌∷◌, map, length, get_or, slice_get, ◌≡◌, ◌⊎◌, inl, inr, refl, sym, ap, ◌∙◌, subst, Option, Some, None, arith}
use Rattle.std.proofs.lemmas.Bool.{true≢false}
use Rattle.std.proofs.lemmas.Option.{get_or_from_slice_get}
use Rattle.std.specs.List.{AllByRecursion}
use Rattle.std.specs.Option.{is_some}
use Rattle.cell_types.specs.declared.cell.CellId.{CellId}
use Rattle.cell_types.specs.declared.value.CellValue.{CellValue}
use Rattle.doc_model.specs.Document.{Table, Document}
use Rattle.recalc.specs.Cells.{cell_of}
use Rattle.recalc.specs.declared.kept.KeptTable.{KeptTable}
use Rattle.recalc.specs.Evaluated.{cells_of_columns, sheet_of, value_of}
use Rattle.recalc.specs.Kept.{IsFurther, IsSettled, held_at}
use Rattle.recalc.specs.Sheet.{evaluated}
use Rattle.recalc.proofs.KeptLemmas.{blank_kept, blank_held}

-- each of the first n items
abbrev pub EachOf : {X : Type 0} → (X → Type 0) → List X → ℕ → Type 0
EachOf P xs n = (j : ℕ) (x : _) → j < n → slice_get xs j ≡ Some x → P x

module _ {X : Type 0} where
  pub each_start : (P : X → Type 0) (xs : List X) → EachOf P xs 0
  each_start P xs j x lt at = absurd (omega (arith, lt))

  pub each_next : (P Q : X → Type 0) (xs : List X) (n m : ℕ) (y : X) → ((x : X) → P x → Q x) → m ≡ n + 1 → slice_get xs n ≡ Some y → Q y → EachOf P xs n → EachOf Q xs m
  each_next P Q xs n m y more is here q all j x lt at =
      elim (split j n (omega (arith, lt, is))) [
        | inl less ↦ more x (all j x less at)
        | inr same ↦ subst Q (some_same (sym here ∙ ap (slice_get xs) (sym same) ∙ at)) q
      ]
    where
      split : (j n : ℕ) → j < n + 1 → (j < n) ⊎ (j ≡ n)
      split j n h = grind arith

      some_same : Some y ≡ Some x → y ≡ x
      some_same e = cc

  -- with the item that a loop over the list is at
  pub each_more : (P Q : X → Type 0) (xs : List X) (n m : ℕ) (d : X) → ((x : X) → P x → Q x) → m ≡ n + 1 → Q (get_or xs n d) → EachOf P xs n → EachOf Q xs m
  each_more P Q xs n m d more is q all j x lt at =
      elim (split j n (omega (arith, lt, is))) [
        | inl less ↦ more x (all j x less at)
        | inr same ↦ subst Q (get_or_from_slice_get xs n x d (ap (slice_get xs) (sym same) ∙ at)) q
      ]
    where
      split : (j n : ℕ) → j < n + 1 → (j < n) ⊎ (j ≡ n)
      split j n h = grind arith

  pub each_all : (P : X → Type 0) (xs : List X) (n : ℕ) → length xs ≤ n → EachOf P xs n → AllByRecursion P xs
  each_all P [] n le all = tt
  each_all P (x ∷ xs) n le all = (all 0 x (omega (arith, le)) refl, each_all P xs (length xs) (omega arith) (λ j y lt at. all (suc j) y (omega (arith, le, lt)) at))

-- the cells of a table
abbrev pub cells_of_table : Table → List CellId
cells_of_table t = cells_of_columns t.id t.grid t.grid.columns

-- what is settled with all values known is evaluated
module _ (s : Document) (ks : List KeptTable) (settled : IsSettled s ks) where
  pub known_value : (c : CellId) → is_some (held_at s ks c) ≡ true → held_at s ks c ≡ Some (value_of s c.table c.column c.row)
  unfolding value_of
  known_value c h = by_value (held_at s ks c) refl h
    where
      by_value : (o : Option CellValue) → held_at s ks c ≡ o → is_some o ≡ true → held_at s ks c ≡ Some (evaluated (sheet_of s) (cell_of c.table c.column c.row))
      by_value None e h = absurd (true≢false (sym h))
      by_value (Some v) e h = e ∙ ap (λ x. Some x) (sym (settled.sound c v e))

pub settled_blank : (s : Document) (ks : List KeptTable) → map Rattle.recalc.specs.Kept.table_part ks ≡ map Rattle.recalc.specs.Kept.blank_table s → IsSettled s ks
settled_blank s ks blank = record {
  of_document = blank_kept s ks blank;
  sound = λ c v h. absurd (none_some (sym (blank_held s ks blank c) ∙ h));
}
  where
    none_some : {v : CellValue} → ◌≡◌ {A = Option CellValue} None (Some v) → ⊥
    none_some e = cc

-- a step further
pub further_start : (s : Document) (ks : List KeptTable) → IsSettled s ks → IsFurther s ks ks
further_start s ks settled = record { settled = settled; stays = λ c h. h }

pub further_next : (s : Document) (ks ls ms : List KeptTable) → IsFurther s ks ls → IsFurther s ls ms → IsFurther s ks ms
further_next s ks ls ms a b = record { settled = b.settled; stays = λ c h. b.stays c (a.stays c h) }
