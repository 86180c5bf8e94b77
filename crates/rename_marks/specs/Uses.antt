-- Uses of names in formulas and rules, and what the rename of a column makes of each.
use Rattle.std.specs.Prelude.{ℕ, Bool, false, not, ◌&&◌, ◌||◌, List, bytes_eq}
use Rattle.std.specs.List.{count_by, list_all, list_any}
use Rattle.formula_records.specs.declared.tables.RecordTables.{RecordTables}
use Rattle.formula_records.specs.declared.tables.RecordTables.TheVariants.{Any, These}
use Rattle.rename_marks.specs.declared.column_rename.ColumnRename.{ColumnRename}

-- a name that is asked of records of these tables
pub record Use : Type 0 where
  pub tables : RecordTables
  pub name : List ℕ

abbrev pub use_of : RecordTables → List ℕ → Use
use_of q n = record { tables = q; name = n }

-- whether the table is one of these, and whether it is the only one
abbrev pub has_table : List ℕ → List (List ℕ) → Bool
has_table t ts = list_any (λ u. bytes_eq u t) ts

abbrev pub has_only : List ℕ → List (List ℕ) → Bool
has_only t ts = has_table t ts && list_all (λ u. bytes_eq u t) ts

-- whether records of these tables are of the renamed one alone
abbrev pub is_exactly : ColumnRename → RecordTables → Bool
is_exactly r Any = false
is_exactly r (These ts) = has_only r.table ts

-- whether the name is the old one, or the new one
abbrev pub is_old : ColumnRename → Use → Bool
is_old r u = bytes_eq u.name r.old

abbrev pub is_new : ColumnRename → Use → Bool
is_new r u = bytes_eq u.name r.new

-- whether it cannot be told which column is meant, or the new name stands where the old one gets to
abbrev pub is_open : ColumnRename → RecordTables → Bool → Bool → Bool
is_open r Any old new = old || new
is_open r (These ts) old new =
    has_table r.table ts && (new || (old && not (has_only r.table ts)))

abbrev pub is_unresolved : ColumnRename → Use → Bool
is_unresolved r u = is_open r u.tables (is_old r u) (is_new r u)

-- whether the old name becomes the new one
abbrev pub is_replaced : ColumnRename → Use → Bool
is_replaced r u = is_exactly r u.tables && is_old r u

-- how many cannot be resolved
abbrev pub unresolved_among : ColumnRename → List Use → ℕ
unresolved_among r us = count_by (is_unresolved r) us
