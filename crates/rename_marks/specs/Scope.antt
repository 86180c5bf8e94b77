-- Which records the expressions of a formula may hold, by where the formula stands.
use Rattle.std.specs.Prelude.{ℕ, List, filter, map, bytes_eq}
use Rattle.formula_parse.specs.Tree.{Tree}
use Rattle.formula_records.specs.declared.tables.RecordTables.{RecordTables}
use Rattle.formula_records.specs.declared.tables.RecordTables.TheVariants.{These}
use Rattle.formula_records.specs.RecordTables.{none, only}
use Rattle.formula_records.specs.Recs.{Columns, recs}
use Rattle.formula_records.specs.ShownColumns.{columns_of}
use Rattle.rename_texts.specs.Renamed.{Rename}
use Rattle.rename_marks.specs.declared.column_rename.ColumnRename.{ColumnRename}
use Rattle.rename_marks.specs.declared.formula_place.AttributeTable.{AttributeTable}
use Rattle.rename_marks.specs.declared.formula_place.FormulaPlace.{FormulaPlace}
use Rattle.rename_marks.specs.declared.formula_place.FormulaPlace.TheVariants as place
use Rattle.rename_marks.specs.Uses.{is_exactly}

-- the row of `$`, the value of an expression, the rows of `rec` and `newRec` in a rule, and the row
-- that an attribute of users finds
pub record Scope : Type 0 where
  pub own : RecordTables
  pub value : Tree → RecordTables
  pub row : RecordTables
  pub found : List ℕ → RecordTables

-- in a formula of a table
abbrev pub in_column : Columns → List ℕ → Scope
in_column k own =
    record { own = only own; value = recs k own; row = none; found = λ p. none }

-- the tables where attributes of that name find their rows
abbrev pub tables_of : List AttributeTable → List ℕ → RecordTables
tables_of as' p =
    These (map (λ (a : AttributeTable). a.table) (filter (λ a. bytes_eq a.name p) as'))

-- in a rule about these tables
abbrev pub in_rule : RecordTables → List AttributeTable → Scope
in_rule about as' =
    record { own = none; value = λ e. none; row = about; found = tables_of as' }

abbrev pub scope_at : FormulaPlace → Scope
scope_at (place.Column view own) = in_column (columns_of view.now) own.now
scope_at (place.Rule about as') = in_rule about.now as'.now

-- what the rename of a column replaces there: the old name where it is asked of records of the
-- renamed table alone, as a key where a lookup looks in it
abbrev pub rename_in : ColumnRename → Scope → Rename
rename_in r s = record {
  old = r.old;
  new = r.new;
  own = is_exactly r s.own;
  attribute = λ e. is_exactly r (s.value e);
  table = λ t. is_exactly r (only t);
  row = is_exactly r s.row;
  field = λ p. is_exactly r (s.found p);
}
