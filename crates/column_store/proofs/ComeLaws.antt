-- Schema tables made of what comes into a table without rows.
use Rattle.std.proofs.Common.{ℕ, true, false, not, ◌&&◌, List, [], ◌∷◌, ◌++◌, ◌-◌, append_assoc, drop, get_or, take, map, length, ◌≡◌, refl, sym, ap, subst, ◌∙◌, Option, Some, None}
use Rattle.std.proofs.lemmas.List.{map-append, take_rest}
use Rattle.std.specs.List.{AllByRecursion}
use Rattle.cell_types.specs.declared.value.CellValue.{CellValue}
use Rattle.doc_model.specs.declared.column.ColDef.{ColDef}
use Rattle.doc_model.specs.ByIds.{AreDistinct}
use Rattle.doc_model.specs.Column.{column_id}
use Rattle.doc_model.specs.Grid.{Grid, IsGrid}
use Rattle.doc_model.specs.NewDocument.{no_rows}
use Rattle.doc_model.specs.Records.{or_else}
use Rattle.doc_model.specs.Rows.{IsAscending, has, has_no_duplicates, none_in}
use Rattle.doc_model.specs.Document.{Document, Table}
use Rattle.doc_model.specs.MetadataIds.{columns_id, tables_id}
use Rattle.doc_model.specs.Schema.{Described, all_columns, columns_columns, columns_grid, tables_columns, tables_grid}
use Rattle.doc_model.proofs.Choices.{length_map}
use Rattle.doc_model.proofs.FirstRows.{first_at}
use Rattle.doc_model.proofs.RowsLaws.{has_below}
use Rattle.row_tables.specs.Spots.{columns_of}
use Rattle.row_tables.specs.RowIndexes.{AreNew, new_indexes, put_at}
use Rattle.column_store.specs.Changes.{AreFull, told_fits, told_grid}
use Rattle.column_store.specs.Schema.{IsCome, IsDescribable, described_columns, described_tables}
use Rattle.column_store.specs.declared.change.Told.{Told}
use Rattle.column_store.specs.declared.change.Told.TheVariants as told
use Rattle.column_store.proofs.RowLaws.{map-put, put_new}

pub once_ascending : (rows : List ℕ) → IsAscending rows → has_no_duplicates rows ≡ true
once_ascending [] a = refl
once_ascending (r ∷ rows) a = ap (λ b. not b && has_no_duplicates rows) (has_below r rows a.0) ∙ once_ascending rows a.1

none_there : (new : List ℕ) → none_in new [] ≡ true
none_there [] = refl
none_there (q ∷ new) = none_there new

or_none : {X : Type 0} (o : Option X) → o ≡ or_else o None
or_none None = refl
or_none (Some x) = refl

pub new_alone : (new : List ℕ) → has_no_duplicates new ≡ true → AreNew new []
new_alone new once = (tt, once, none_there new)

module _ {X : Type 0} (row : X → ℕ) (cells : X → List CellValue) (columns : List ColDef) where
  full : (new : List X) → AllByRecursion (λ x. length (cells x) ≡ length columns) new → AreFull (map cells new) (no_rows columns)
  full [] h = tt
  full (x ∷ new) h = (h.0, full new h.1)

  pub come_fits : (t : Told) (new : List X) → IsCome (map row new) (map cells new) t → AreDistinct column_id columns → has_no_duplicates (map row new) ≡ true
      → AllByRecursion (λ x. length (cells x) ≡ length columns) new → told_fits t (no_rows columns)
  come_fits (told.Come rows lists) new is distinct once wide = (
    record { distinct = distinct; ascending = tt; height = refl; width = tt },
    subst (λ rs. AreNew rs []) (sym is.0) (new_alone (map row new) once),
    ap length is.1 ∙ length_map cells new ∙ sym (length_map row new) ∙ ap length (sym is.0),
    subst (λ ls. AreFull ls (no_rows columns)) (sym is.1) (full new wide),
  )
  come_fits (told.Go rows) new is distinct once wide = absurd is
  come_fits (told.Values writes) new is distinct once wide = absurd is

  pub come_grid : (t : Told) (new ys : List X) → IsCome (map row new) (map cells new) t → has_no_duplicates (map row new) ≡ true → IsAscending (map row ys) → ((r : ℕ) → first_at row r ys ≡ first_at row r new)
      → told_grid t (no_rows columns) ≡ (let g : Grid ColDef = record { columns = columns; rows = map row ys; cells = map cells ys } in g)
  come_grid (told.Come rows lists) new ys is once a h =
      let put : put_at (new_indexes (map row new) []) new [] ≡ ys = put_new row new [] ys (new_alone (map row new) once) a (λ r. h r ∙ or_none (first_at row r new)) in
      ap (λ rs. let g : Grid ColDef = record { columns = columns; rows = put_at (new_indexes rs []) rs []; cells = put_at (new_indexes rs []) lists.items [] } in g) is.0
      ∙ ap (λ ls. let g : Grid ColDef = record { columns = columns; rows = put_at (new_indexes (map row new) []) (map row new) []; cells = put_at (new_indexes (map row new) []) ls [] } in g) is.1
      ∙ ap (λ rs. let g : Grid ColDef = record { columns = columns; rows = rs; cells = put_at (new_indexes (map row new) []) (map cells new) [] } in g) (sym (map-put row (new_indexes (map row new) []) new []) ∙ ap (map row) put)
      ∙ ap (λ cs. let g : Grid ColDef = record { columns = columns; rows = map row ys; cells = cs } in g) (sym (map-put cells (new_indexes (map row new) []) new []) ∙ ap (map cells) put)
  come_grid (told.Go rows) new ys is once a h = absurd is
  come_grid (told.Values writes) new ys is once a h = absurd is

-- the columns of the schema tables are distinct
pub tables_distinct : AreDistinct column_id tables_columns
tables_distinct = (tt, tt)

pub columns_distinct : AreDistinct column_id columns_columns
columns_distinct = ((refl, (refl, (refl, (refl, tt)))), ((refl, (refl, (refl, tt))), ((refl, (refl, tt)), ((refl, tt), (tt, tt)))))

-- ---- steps of walks

-- one more thing noted
pub note_step : {X Y : Type 0} (f : X → Y) (done : List Y) (x : X) (rest : List X) (after all : List Y) → after ≡ done ++ f x ∷ [] → done ++ map f (x ∷ rest) ≡ all → after ++ map f rest ≡ all
note_step f done x rest after all e h = ap (λ ys. ys ++ map f rest) e ∙ append_assoc done (f x ∷ []) (map f rest) ∙ h

-- the columns of one more table noted
pub note_table : {Y : Type 0} (f : Described → Y) (done : List Y) (t : Table) (rest : List Table) (after all : List Y) → after ≡ done ++ map f (columns_of t.row t.grid.columns) → done ++ map f (all_columns (t ∷ rest)) ≡ all
    → after ++ map f (all_columns rest) ≡ all
note_table f done t rest after all e h =
    ap (λ ys. ys ++ map f (all_columns rest)) e ∙ append_assoc done (map f (columns_of t.row t.grid.columns)) (map f (all_columns rest))
    ∙ ap (λ ys. done ++ ys) (sym (map-append f (columns_of t.row t.grid.columns) (all_columns rest))) ∙ h

pub each_of : {X : Type 0} (P : X → Type 0) → ((x : X) → P x) → (xs : List X) → AllByRecursion P xs
each_of P h [] = tt
each_of P h (x ∷ xs) = (h x, each_of P h xs)

-- ---- the schema tables of a document that may be described

pub tables_made : (s : Document) (t x : Table) → IsDescribable s → t ≡ get_or s 0 t → x ≡ (let u : Table = record { id = t.id; row = t.row; grid = tables_grid (take (length s - 4) (drop 4 s)) } in u) → x ≡ described_tables s
tables_made [] t x h e is = absurd h
tables_made (a ∷ []) t x h e is = absurd h
tables_made (a ∷ b ∷ []) t x h e is = absurd h
tables_made (a ∷ b ∷ c ∷ []) t x h e is = absurd h
tables_made (a ∷ b ∷ c ∷ d ∷ p) t x h e is =
    is ∙ ap (λ ts. let u : Table = record { id = t.id; row = t.row; grid = tables_grid ts } in u) (take_rest (a ∷ b ∷ c ∷ d ∷ p) 4)
    ∙ ap (λ (v : Table). let u : Table = record { id = v.id; row = v.row; grid = tables_grid p } in u) e
    ∙ ap (λ n. let u : Table = record { id = n; row = a.row; grid = tables_grid p } in u) h.0
    ∙ ap (λ n. let u : Table = record { id = tables_id; row = n; grid = tables_grid p } in u) h.1

pub columns_made : (s : Document) (t x : Table) → IsDescribable s → t ≡ get_or s 1 t → x ≡ (let u : Table = record { id = t.id; row = t.row; grid = columns_grid (take (length s - 4) (drop 4 s)) } in u) → x ≡ described_columns s
columns_made [] t x h e is = absurd h
columns_made (a ∷ []) t x h e is = absurd h
columns_made (a ∷ b ∷ []) t x h e is = absurd h
columns_made (a ∷ b ∷ c ∷ []) t x h e is = absurd h
columns_made (a ∷ b ∷ c ∷ d ∷ p) t x h e is =
    is ∙ ap (λ ts. let u : Table = record { id = t.id; row = t.row; grid = columns_grid ts } in u) (take_rest (a ∷ b ∷ c ∷ d ∷ p) 4)
    ∙ ap (λ (v : Table). let u : Table = record { id = v.id; row = v.row; grid = columns_grid p } in u) e
    ∙ ap (λ n. let u : Table = record { id = n; row = b.row; grid = columns_grid p } in u) h.3
    ∙ ap (λ n. let u : Table = record { id = columns_id; row = n; grid = columns_grid p } in u) h.4
