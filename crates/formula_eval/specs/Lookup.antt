-- Lookups: which rows of a table meet the keys.
use Rattle.std.specs.Prelude.{ℕ, pos, Bool, true, false, ◌&&◌, ◌||◌, cond, is_some, List, [], ◌∷◌, map, Option, Some, None}
use Rattle.std.specs.List.{list_any, list_all}
use Rattle.cell_types.specs.declared.cell.KeyItem.{KeyItem}
use Rattle.cell_types.specs.declared.cell.Read.TheVariants.{Key, Rows}
use Rattle.cell_types.specs.declared.column_type.ColType.{ColType}
use Rattle.cell_types.specs.declared.value.CellValue.{CellValue}
use Rattle.cell_types.specs.declared.value.CellValue.TheVariants as value
use Rattle.cell_types.specs.declared.value.ErrKind.TheVariants as err
use Rattle.cell_types.specs.Item.{value_of_item}
use Rattle.formula_parse.specs.declared.operator.LookupKind.{LookupKind}
use Rattle.formula_parse.specs.declared.operator.LookupKind.TheVariants as look
use Rattle.formula_parse.specs.Lexemes.{is_id}
use Rattle.value_ops.specs.Equality.{is_equal, is_row_of}
use Rattle.formula_eval.specs.declared.note.Note.{Note}
use Rattle.formula_eval.specs.declared.note.Note.TheVariants as note
use Rattle.formula_eval.specs.Reader.{Told, known, Reader, cell_at}
use Rattle.formula_eval.specs.Run.{Out, gives, raises, stops, Run, done, after, seq, collect, both}
use Rattle.formula_eval.specs.Reading.{told_out, as_read}

-- whether what a cell holds agrees with the value that is looked up: a record is found by the
-- number of its row too
abbrev pub agrees : CellValue → CellValue → Bool
agrees w v = is_equal v w || is_row_of w v

-- whether a list or a set of records has a part that agrees with the value
abbrev pub holds : CellValue → CellValue → Bool
holds (value.List is) v = list_any (λ i. agrees (value_of_item i) v) is
holds (value.RecSet s) v =
    list_any (λ r. agrees (value.Rec (record { table = s.table; row = r })) v) s.rows
holds w v = false

-- whether a value that is no error meets the key
abbrev pub meets : KeyItem → CellValue → Bool
meets k w = cond k.contains (holds w k.value) (agrees w k.value)

-- whether a value that is read meets the key: an error meets none
abbrev pub value_meets : KeyItem → CellValue → Bool
value_meets k (value.Err e) = false
value_meets k w = meets k w

-- whether a cell that is told, in a column of this type, meets the key
abbrev pub told_meets : KeyItem → Option ColType → Told → Bool
told_meets k (Some ty) (known w) = value_meets k (as_read ty w)
told_meets k ty o = false

-- the same where the cell may be circular or needed
abbrev pub met_by : KeyItem → Option ColType → Out Told → Out Bool
met_by k ty (gives o) = gives (told_meets k ty o)
met_by k ty (raises e) = raises e
met_by k ty (stops s) = stops s

-- whether a row meets the key; `id` is the row itself
abbrev pub key_met : Reader → List ℕ → ℕ → KeyItem → Out Bool
key_met reader t r k =
    cond (is_id k.column) (gives (meets k (value.Int (pos r))))
    (met_by k (reader.kind t k.column)
    (told_out (cell_at t k.column r) (reader.cell (cell_at t k.column r))))

-- whether a row meets all the keys; each key's cell is looked at
abbrev pub row_met : Reader → List ℕ → ℕ → List KeyItem → Out Bool
row_met reader t r [] = gives true
row_met reader t r (k ∷ ks) = both ◌&&◌ (key_met reader t r k) (row_met reader t r ks)

-- the row before the others, where it meets
abbrev pub kept_row : ℕ → Bool → List ℕ → List ℕ
kept_row r b rs = cond b (r ∷ rs) rs

-- the rows that meet all the keys; every row is looked at
abbrev pub scan : Reader → List ℕ → List KeyItem → List ℕ → Out (List ℕ)
scan reader t ks [] = gives []
scan reader t ks (r ∷ rs) = both (kept_row r) (row_met reader t r ks) (scan reader t ks rs)

-- the rows of a table, which has to be there
abbrev pub in_table : Option (List ℕ) → Out (List ℕ)
in_table None = raises err.Name
in_table (Some rs) = gives rs

-- whether the table has the column as a key
abbrev pub is_key_column : Reader → List ℕ → List ℕ → Bool
is_key_column reader t c = is_id c || is_some (reader.kind t c)

-- all key columns have to be there
abbrev pub with_columns : Reader → List ℕ → List (List ℕ) → Out Bool
with_columns reader t cs =
    cond (list_all (λ c. is_key_column reader t c) cs) (gives true) (raises err.Key)

-- what is known of a key before its value: its column, and whether it looks into lists
pub record KeyForm : Type 0 where
  pub column : List ℕ
  pub contains : Bool

-- the columns of keys
abbrev pub columns_of : List KeyForm → List (List ℕ)
columns_of fs = map (λ f. f.column) fs

-- keys with their values
abbrev pub keyed : List KeyForm → List CellValue → List KeyItem
keyed [] vs = []
keyed (f ∷ fs) [] = []
keyed (f ∷ fs) (v ∷ vs) =
    record { column = f.column; value = v; contains = f.contains } ∷ keyed fs vs

-- a key with its value, where that is run
abbrev pub item_run : KeyForm → Run CellValue → Run KeyItem
item_run f a =
    seq a (λ v. done (gives (record { column = f.column; value = v; contains = f.contains })))

-- the reads of the key columns
abbrev pub key_notes : List ℕ → List (List ℕ) → List Note
key_notes t cs = map (λ c. note.Read (Key t c)) cs

-- the rows of a table that meet the keys, where the key columns are there
abbrev pub matched_in : Reader → List ℕ → List KeyItem → Option (List ℕ) → Out (List ℕ)
matched_in reader t ks None = raises err.Name
matched_in reader t ks (Some rs) =
    cond (list_all (λ k. is_key_column reader t k.column) ks) (scan reader t ks rs)
    (raises err.Key)

-- the same, where the table is there
abbrev pub matched : Reader → List ℕ → List KeyItem → Out (List ℕ)
matched reader t ks = matched_in reader t ks (reader.rows t)

-- the rows that meet the keys; which keys they are is noted before
abbrev pub met : Reader → List ℕ → List KeyItem → Run (List ℕ)
met reader t ks = after (note.Met t ks ∷ []) (done (matched reader t ks))

-- what comes before the keys' values: a lookup reads which rows its table has, and its key columns
-- before it looks whether they are there
abbrev pub opened : Reader → List ℕ → List (List ℕ) → Run Bool
opened reader t cs =
    after (note.Read (Rows t) ∷ []) (seq (done (in_table (reader.rows t))) (λ rs.
    after (key_notes t cs) (done (with_columns reader t cs))))

-- a lookup: then the values are evaluated, and then every key's cell in every row is looked at
abbrev pub looked_up : Reader → List ℕ → List KeyForm → List (Run CellValue) → Run (List ℕ)
looked_up reader t fs runs =
    seq (opened reader t (columns_of fs)) (λ b.
    seq (collect runs) (λ vs. met reader t (keyed fs vs)))

-- each key's run
abbrev pub item_runs : List KeyForm → List (Run CellValue) → List (Run KeyItem)
item_runs [] runs = []
item_runs (f ∷ fs) [] = []
item_runs (f ∷ fs) (a ∷ rest) = item_run f a ∷ item_runs fs rest

-- the first of the rows, or row 0
abbrev pub first_row : List ℕ → ℕ
first_row [] = 0
first_row (r ∷ rs) = r

-- what a lookup gives of the rows that it finds
abbrev pub found : LookupKind → List ℕ → List ℕ → CellValue
found look.Records t rs = value.RecSet (record { table = t; rows = rs })
found look.One t rs = value.Rec (record { table = t; row = first_row rs })

-- the same of an outcome
abbrev pub found_out : LookupKind → List ℕ → Out (List ℕ) → Out CellValue
found_out k t (gives rs) = gives (found k t rs)
found_out k t (raises e) = raises e
found_out k t (stops s) = stops s

-- and of a run
abbrev pub given : LookupKind → List ℕ → Run (List ℕ) → Run CellValue
given k t a = seq a (λ rs. done (gives (found k t rs)))

-- all rows of a table, which is noted beside the read
abbrev pub all_rows : Reader → List ℕ → Run CellValue
all_rows reader t =
    after (note.Read (Rows t) ∷ note.All t ∷ [])
    (seq (done (in_table (reader.rows t))) (λ rs. done (gives (found look.Records t rs))))
