-- What the table of columns says in a row, where columns change.
use Rattle.std.proofs.Common.{ℕ, Bool, true, false, cond, List, [], ◌∷◌, map, ◌≡◌, refl, sym, ap, ◌∙◌, Option, Some, None, option_map, is_some, eqb}
use Rattle.std.specs.List.{AllByRecursion}
use Rattle.std.specs.Str.{bytes_eq}
use Rattle.cell_types.specs.declared.cell.CellId.{CellId}
use Rattle.cell_types.specs.declared.value.CellValue.{CellValue}
use Rattle.cell_types.specs.declared.value.CellValue.TheVariants.{Null}
use Rattle.doc_model.specs.declared.column.ColDef.{ColDef}
use Rattle.doc_model.specs.ByIds.{with_id}
use Rattle.doc_model.specs.Column.{column_id}
use Rattle.doc_model.specs.Document.{Table, on_grid, with_table}
use Rattle.doc_model.specs.Grid.{Grid, beside}
use Rattle.doc_model.specs.MetadataIds.{columns_id}
use Rattle.doc_model.specs.Records.{or_else}
use Rattle.doc_model.specs.Rows.{has}
use Rattle.doc_model.specs.Schema.{Described, described_row, describe, all_columns, in_order, columns_columns, columns_grid, metadata_table}
use Rattle.doc_model.proofs.DescribedRows.{described_at, described_in, described-in_order}
use Rattle.doc_model.proofs.FirstRows.{has-first, first-append}
use Rattle.doc_model.proofs.RowsLaws.{same_ascending}
use Rattle.doc_model.proofs.SchemaLaws.{IsAscending-in_order}
use Rattle.affected_cells.proofs.Alike.{IsEqualOf, grids_equal}

-- what a column of the table of columns says of a described column
abbrev pub said : List ℕ → Described → CellValue
said k e = beside (λ (d : ColDef). bytes_eq d.id k) columns_columns (describe e) Null

abbrev pub told : List ℕ → Option Described → Option CellValue
told k o = option_map (said k) o

cells_told : Option Described → List CellValue
cells_told None = []
cells_told (Some e) = describe e

cells_at : (es : List Described) (r : ℕ) → beside (λ q. eqb q r) (map described_row es) (map describe es) [] ≡ cells_told (described_at r es)
unfolding cells_told
cells_at [] r = refl
cells_at (e ∷ es) r = elim (eqb e.column.row r) as (λ b. cond b (describe e) (beside (λ q. eqb q r) (map described_row es) (map describe es) []) ≡ cells_told (cond b (Some e) (described_at r es))) [ true ↦ refl | false ↦ cells_at es r ]

pub is_told : (k : List ℕ) (o : Option Described) → is_some o ≡ is_some (told k o)
is_told k None = refl
is_told k (Some e) = refl

same_value : (k : List ℕ) (o o' : Option Described) → told k o ≡ told k o' → beside (λ (d : ColDef). bytes_eq d.id k) columns_columns (cells_told o) Null ≡ beside (λ (d : ColDef). bytes_eq d.id k) columns_columns (cells_told o') Null
unfolding cells_told
same_value k None None e = refl
same_value k None (Some y) e = absurd (cc)
same_value k (Some x) None e = absurd (cc)
same_value k (Some x) (Some y) e = cc

row_there : (es : List Described) (r : ℕ) → has (map described_row (in_order es)) r ≡ is_some (described_at r es)
row_there es r = has-first described_row (in_order es) r ∙ ap is_some (described-in_order es r)

-- the table of columns tells the same in a cell of which the same is said
pub described_equal : (p q : List Table) (c : CellId) → told c.column (described_at c.row (all_columns q)) ≡ told c.column (described_at c.row (all_columns p))
    → IsEqualOf c (Some (metadata_table columns_id (columns_grid p))) (Some (metadata_table columns_id (columns_grid q)))
described_equal p q c h = grids_equal c (metadata_table columns_id (columns_grid p)) (metadata_table columns_id (columns_grid q)) refl
    (row_there (all_columns q) c.row ∙ is_told c.column (described_at c.row (all_columns q)) ∙ ap is_some h ∙ sym (is_told c.column (described_at c.row (all_columns p))) ∙ sym (row_there (all_columns p) c.row))
    (λ e _ _. value_at q ∙ same_value c.column (described_at c.row (all_columns q)) (described_at c.row (all_columns p)) h ∙ sym (value_at p))
  where
    value_at : (x : List Table) → beside (λ (d : ColDef). bytes_eq d.id c.column) columns_columns (beside (λ n. eqb n c.row) (columns_grid x).rows (columns_grid x).cells []) Null
        ≡ beside (λ (d : ColDef). bytes_eq d.id c.column) columns_columns (cells_told (described_at c.row (all_columns x))) Null
    value_at x = ap (λ row. beside (λ (d : ColDef). bytes_eq d.id c.column) columns_columns row Null) (cells_at (in_order (all_columns x)) c.row ∙ ap cells_told (described-in_order (all_columns x) c.row))

-- it has the same rows, where each row describes a column before and after
pub described_rows : (p q : List Table) → ((n : ℕ) → is_some (described_at n (all_columns q)) ≡ is_some (described_at n (all_columns p))) → (columns_grid p).rows ≡ (columns_grid q).rows
described_rows p q h = same_ascending (map described_row (in_order (all_columns p))) (map described_row (in_order (all_columns q))) (IsAscending-in_order (all_columns p)) (IsAscending-in_order (all_columns q))
    (λ n. row_there (all_columns p) n ∙ sym (h n) ∙ sym (row_there (all_columns q) n))

-- ---- the columns of one table changed

either_told : (k : List ℕ) (o o' : Option Described) → told k (or_else o o') ≡ or_else (told k o) (told k o')
either_told k None o' = refl
either_told k (Some e) o' = refl

module _ (k id : List ℕ) (r : ℕ) (f : Grid ColDef → Grid ColDef) where
  pub told-with_table : (p : List Table) → AllByRecursion (λ (t : Table). bytes_eq t.id id ≡ true → told k (described_at r (described_in (on_grid f t))) ≡ told k (described_at r (described_in t))) p
      → told k (described_at r (all_columns (with_table id (on_grid f) p))) ≡ told k (described_at r (all_columns p))
  told-with_table [] h = refl
  told-with_table (t ∷ p) h =
      parts (cond (bytes_eq t.id id) (on_grid f t) t) (with_table id (on_grid f) p)
      ∙ ap (λ o. or_else (told k (described_at r (described_in (cond (bytes_eq t.id id) (on_grid f t) t)))) o) (told-with_table p h.1)
      ∙ ap (λ o. or_else o (told k (described_at r (all_columns p)))) (by_id (bytes_eq t.id id) refl)
      ∙ sym (parts t p)
    where
      parts : (x : Table) (xs : List Table) → told k (described_at r (all_columns (x ∷ xs))) ≡ or_else (told k (described_at r (described_in x))) (told k (described_at r (all_columns xs)))
      parts x xs = ap (told k) (first-append described_row (described_in x) (all_columns xs) r) ∙ either_told k (described_at r (described_in x)) (described_at r (all_columns xs))

      by_id : (b : Bool) → bytes_eq t.id id ≡ b → told k (described_at r (described_in (cond b (on_grid f t) t))) ≡ told k (described_at r (described_in t))
      by_id true is = h.0 is
      by_id false is = refl

-- one column changed that keeps its row, and what is said of it there
module _ (k c : List ℕ) (r parent : ℕ) (g : ColDef → ColDef) (keeps : (d : ColDef) → (g d).row ≡ d.row) where
  abbrev described : ColDef → Described
  described d = record { parent = parent; column = d }

  pub told-with_id : (ds : List ColDef) → AllByRecursion (λ (d : ColDef). bytes_eq d.id c ≡ true → eqb d.row r ≡ true → said k (described (g d)) ≡ said k (described d)) ds
      → told k (described_at r (map described (with_id column_id c g ds))) ≡ told k (described_at r (map described ds))
  told-with_id [] h = refl
  told-with_id (d ∷ ds) h = by_id (told-with_id ds h.1) (bytes_eq d.id c) refl
    where
      at_row : told k (described_at r (map described (with_id column_id c g ds))) ≡ told k (described_at r (map described ds)) → (b : Bool) → eqb d.row r ≡ b → bytes_eq d.id c ≡ true
          → told k (cond b (Some (described (g d))) (described_at r (map described (with_id column_id c g ds)))) ≡ told k (cond b (Some (described d)) (described_at r (map described ds)))
      at_row later true here is = ap (λ v. Some v) (h.0 is here)
      at_row later false here is = later

      by_id : told k (described_at r (map described (with_id column_id c g ds))) ≡ told k (described_at r (map described ds)) → (b : Bool) → bytes_eq d.id c ≡ b
          → told k (described_at r (described (cond b (g d) d) ∷ map described (with_id column_id c g ds))) ≡ told k (described_at r (map described (d ∷ ds)))
      by_id later true is =
          ap (λ n. told k (cond (eqb n r) (Some (described (g d))) (described_at r (map described (with_id column_id c g ds))))) (keeps d)
          ∙ at_row later (eqb d.row r) refl is
      by_id later false is = elim (eqb d.row r) as (λ b. told k (cond b (Some (described d)) (described_at r (map described (with_id column_id c g ds)))) ≡ told k (cond b (Some (described d)) (described_at r (map described ds)))) [ true ↦ refl | false ↦ later ]
