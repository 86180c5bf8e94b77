-- What tables in memory tell.
use Rattle.std.specs.Prelude.{ℕ, ◌==◌, Bool, ◌&&◌, cond, List, [], ◌∷◌, Option, Some, None, bytes_eq, option_map}
use Rattle.std.specs.List.{list_any}
use Rattle.formula_eval.specs.Reader.{Told, known, needed, no_table, no_column, no_row, Reader}
use Rattle.formula_tests.specs.declared.memory.Column.{Column}
use Rattle.formula_tests.specs.declared.memory.Slot.{Slot}
use Rattle.formula_tests.specs.declared.memory.Slot.TheVariants as slot

abbrev pub told_slot : Slot → Told
told_slot (slot.Known v) = known v
told_slot slot.Needed = needed

-- the cell of a row
abbrev pub in_row : Column → ℕ → Told
in_row k r =
    cond (r == 1) (told_slot k.first)
    (cond (r == 2) (told_slot k.second)
    (cond (r == 3) (told_slot k.third) no_row))

abbrev pub is_column : Column → List ℕ → List ℕ → Bool
is_column k t c = bytes_eq k.table t && bytes_eq k.id c

-- the first column of that table with that id
abbrev pub column_of : List Column → List ℕ → List ℕ → Option Column
column_of [] t c = None
column_of (k ∷ ks) t c = cond (is_column k t c) (Some k) (column_of ks t c)

-- a table is there with its first column
abbrev pub has_table : List Column → List ℕ → Bool
has_table ks t = list_any (λ k. bytes_eq k.table t) ks

abbrev pub told_in : Option Column → ℕ → Told
told_in None r = no_column
told_in (Some k) r = in_row k r

abbrev pub told_by : List Column → Reader
told_by ks =
    record {
      kind = λ t c. option_map (λ k. k.ty) (column_of ks t c);
      rows = λ t. cond (has_table ks t) (Some (1 ∷ 2 ∷ 3 ∷ [])) None;
      cell = λ d.
          cond (has_table ks d.table) (told_in (column_of ks d.table d.column) d.row) no_table;
    }
