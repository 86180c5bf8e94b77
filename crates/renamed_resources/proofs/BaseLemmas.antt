-- Cells that base cells may hold stay such.
use Rattle.std.proofs.Common.{ℕ, true, false, cond, List, map, ◌≡◌, refl, Option, Some, None}
use Rattle.std.specs.List.{list_any}
use Rattle.std.specs.Str.{bytes_eq}
use Rattle.cell_types.specs.declared.value.CellValue.{CellValue}
use Rattle.cell_types.specs.declared.value.CellValue.TheVariants as value
use Rattle.doc_model.specs.Column.{is_base, is_short}
use Rattle.renamed_resources.specs.NameLists.{joined, names_of}
use Rattle.renamed_resources.specs.Renamed.{columns_renamed, if_short, list_renamed, moved_id, table_renamed}

pub table_base : (old new : List ℕ) → is_short new ≡ true → (v : CellValue) → is_base v ≡ true → is_base (table_renamed old new v) ≡ true
table_base old new short value.Null h = h
table_base old new short (value.Int n) h = h
table_base old new short (value.Bool b) h = h
table_base old new short (value.Text t) h = elim (bytes_eq t old) as (λ b. is_short (cond b new t) ≡ true) [ true ↦ short | false ↦ h ]
table_base old new short (value.Date n) h = h
table_base old new short (value.Rec r) h = h
table_base old new short (value.RecSet r) h = h
table_base old new short (value.List items) h = h
table_base old new short (value.Err e) h = h
table_base old new short value.Censored h = h

short_chosen : (text other : List ℕ) → is_short other ≡ true → is_short (if_short text other) ≡ true
short_chosen text other h = elim (is_short text) as (λ b. is_short text ≡ b → is_short (cond b text other) ≡ true) [ true ↦ λ is. is | false ↦ λ _. h ] refl

list_short : (old new t : List ℕ) (listed : Option (List (List ℕ))) → is_short t ≡ true → is_short (list_renamed old new t listed) ≡ true
list_short old new t None h = h
list_short old new t (Some names) h =
    elim (list_any (λ n. bytes_eq n old) names) as (λ b. is_short (cond b (if_short (joined (map (moved_id old new) names)) t) t) ≡ true) [
      | true ↦ short_chosen (joined (map (moved_id old new) names)) t h
      | false ↦ h
    ]

pub columns_base : (old new : List ℕ) (v : CellValue) → is_base v ≡ true → is_base (columns_renamed old new v) ≡ true
columns_base old new value.Null h = h
columns_base old new (value.Int n) h = h
columns_base old new (value.Bool b) h = h
columns_base old new (value.Text t) h = list_short old new t (names_of t) h
columns_base old new (value.Date n) h = h
columns_base old new (value.Rec r) h = h
columns_base old new (value.RecSet r) h = h
columns_base old new (value.List items) h = h
columns_base old new (value.Err e) h = h
columns_base old new value.Censored h = h
