-- Columns as a store tells them, and the tables of a new document.
use Rattle.std.proofs.Common.{ℕ, zero, suc, ◌+◌, ◌-◌, ◌<◌, List, [], ◌∷◌, ◌++◌, length, length-append, take, slice_get, ◌≡◌, refl, sym, ap, ◌∙◌, Option, Some, None, arith}
use Rattle.std.proofs.lemmas.Option.{slice_get_within, get_or_from_slice_get}
use Rattle.std.proofs.lemmas.List.{take_more}
use Rattle.doc_model.specs.declared.column.ColDef.{ColDef}
use Rattle.doc_model.specs.ByIds.{find_id}
use Rattle.doc_model.specs.Document.{Document, Table, table_id}
use Rattle.doc_model.specs.MetadataIds.{columns_id, resources_id, rules_id, tables_id}
use Rattle.doc_model.specs.NewDocument.{new_document}
use Rattle.doc_model.specs.Readers.{column_at}
use Rattle.column_store.specs.New.{bare_tables, columns_in}
use Rattle.column_store.specs.Schema.{IsDescribable}
use Rattle.column_store.specs.Back.{with_tables}

-- what is told of a column is what stands in the list
pub column_told : (s : Document) (id : List ℕ) (i : ℕ) → column_at s id i ≡ slice_get (columns_in s id) i
column_told s id i =
    elim (find_id table_id id s) as (λ (o : Option Table). elim o as (λ _. Option ColDef) [ None ↦ None | Some t ↦ slice_get t.grid.columns i ]
    ≡ slice_get (elim o as (λ _. List ColDef) [ None ↦ [] | Some t ↦ t.grid.columns ]) i) [
      | None ↦ refl
      | Some t ↦ refl
    ]

module _ (cols xs ys : List ColDef) (d : ColDef) (n : ℕ) (counts : n ≡ length xs) (at : slice_get cols n ≡ Some d) (made : ys ≡ xs ++ d ∷ []) where
  one_longer : length ys ≡ n + 1
  one_longer = ap length made ∙ length-append xs (d ∷ []) ∙ ap (λ k. k + 1) (sym counts)

  pub column_next : xs ≡ take (length xs) cols → ys ≡ take (length ys) cols
  column_next so =
      made ∙ ap (λ l. l ++ d ∷ []) (so ∙ ap (λ k. take k cols) (sym counts))
      ∙ ap (λ x. take n cols ++ x ∷ []) (sym (get_or_from_slice_get cols n d d at))
      ∙ sym (take_more cols n d (slice_get_within cols n d at))
      ∙ ap (λ k. take k cols) (sym one_longer)

  pub columns_left : length cols - length ys < length cols - length xs
  columns_left =
      let within : n < length cols = slice_get_within cols n d at in
      let more : length ys ≡ n + 1 = one_longer in omega arith

all_taken : (cols : List ColDef) (n : ℕ) → slice_get cols n ≡ None → take n cols ≡ cols
all_taken [] zero h = refl
all_taken [] (suc n) h = refl
all_taken (d ∷ cols) zero h = absurd (cc)
all_taken (d ∷ cols) (suc n) h = ap (λ l. d ∷ l) (all_taken cols n h)

pub columns_whole : (cols xs : List ColDef) (n : ℕ) → n ≡ length xs → xs ≡ take (length xs) cols → slice_get cols n ≡ None → xs ≡ cols
columns_whole cols xs n counts so past = so ∙ ap (λ k. take k cols) (sym counts) ∙ all_taken cols n past
