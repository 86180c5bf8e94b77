-- Maxima after an action, by what it brings to tables.
use Rattle.std.proofs.Common.{ℕ, true, false, ◌+◌, ◌≤◌, max, map, length, ◌≡◌, refl, sym, ◌∙◌, arith}
use Rattle.std.proofs.lemmas.Bool.{le-ltb}
use Rattle.doc_model.specs.declared.action.DocAction.{DocAction}
use Rattle.doc_model.specs.declared.action.DocAction.TheVariants.{BulkAdd, BulkUpdate, BulkRemove, AddTable, RemoveTable, RenameTable, AddColumn, RemoveColumn, RenameColumn, ModifyColumn}
use Rattle.doc_model.specs.Apply.{apply}
use Rattle.doc_model.specs.Column.{column_row}
use Rattle.doc_model.specs.Counts.{counts, greatest}
use Rattle.doc_model.specs.Document.{Document}
use Rattle.doc_model.specs.DocumentLaws.{IsWhole}
use Rattle.doc_model.specs.Valid.{valid}
use Rattle.doc_readers.specs.Parts.{grid_at}
use Rattle.action_limits.specs.Brought.{maxima_brought}
use Rattle.action_limits.specs.Capped.{no_counts}
use Rattle.action_limits.specs.Left.{is_growing}
use Rattle.action_limits.proofs.AddMoves.{added_columns, added_ids, added_rows}
use Rattle.action_limits.proofs.CountedLemmas.{capped_above}
use Rattle.action_limits.proofs.MaximaMoves.{IsBelow, stays-below}
use Rattle.action_limits.proofs.Rising.{TellsBrought}
use Rattle.action_limits.proofs.SchemaGrowth.{column_columns, column_ids, column_rows, table_columns, table_row_ids, table_rows}

-- where nothing comes, no table gets more
none_brought : (s : Document) (a : DocAction) → IsWhole s → valid s a ≡ true → is_growing a ≡ false → TellsBrought no_counts s (apply s a)
none_brought s a whole v shrinks =
    let below : (c r i : ℕ) → (counts s).columns ≤ c → (counts s).rows ≤ r → (counts s).row_id ≤ i → IsBelow (apply s a) c r i
    = λ c r i columns rows row_id. stays-below s a c r i whole v shrinks (record { columns = columns; rows = rows; row_id = row_id }) in
    record {
      columns = λ le. sym (le-ltb 1024 (counts (apply s a)).columns (below 1024 (counts s).rows (counts s).row_id le (omega arith) (omega arith)).columns);
      rows = λ le. sym (le-ltb 1000000 (counts (apply s a)).rows (below (counts s).columns 1000000 (counts s).row_id (omega arith) le (omega arith)).rows);
      row_id = λ le. sym (le-ltb 4294967295 (counts (apply s a)).row_id (below (counts s).columns (counts s).rows 4294967295 (omega arith) (omega arith) le).row_id);
    }

pub brought_told : (s : Document) (a : DocAction) → IsWhole s → valid s a ≡ true → TellsBrought (maxima_brought s a) s (apply s a)
brought_told s (BulkAdd table rows ks) whole v = record {
  columns = λ le. added_columns s whole table rows ks v 1024 le;
  rows = λ le. capped_above 1000000 (length (grid_at s table).rows + length rows) (omega arith) ∙ added_rows s whole table rows ks v 1000000 le;
  row_id = λ le. added_ids s whole table rows ks v 4294967295 (greatest rows) le (grind arith) (omega arith);
}
brought_told s (AddTable table row ds) whole v = record {
  columns = λ le. table_columns s whole table row ds v le;
  rows = λ le. table_rows s whole table row ds v le;
  row_id = λ le. table_row_ids s whole table row ds v (max row (greatest (map column_row ds))) le (grind arith) (grind arith) (grind arith);
}
brought_told s (AddColumn table d) whole v = record {
  columns = λ le. column_columns s whole table d v le;
  rows = λ le. column_rows s whole table d v le;
  row_id = λ le. column_ids s whole table d v le;
}
brought_told s (BulkUpdate table rows ks) whole v = none_brought s (BulkUpdate table rows ks) whole v refl
brought_told s (BulkRemove table rows) whole v = none_brought s (BulkRemove table rows) whole v refl
brought_told s (RemoveTable table) whole v = none_brought s (RemoveTable table) whole v refl
brought_told s (RenameTable table new) whole v = none_brought s (RenameTable table new) whole v refl
brought_told s (RemoveColumn table column) whole v = none_brought s (RemoveColumn table column) whole v refl
brought_told s (RenameColumn table column new) whole v = none_brought s (RenameColumn table column new) whole v refl
brought_told s (ModifyColumn table column info) whole v = none_brought s (ModifyColumn table column info) whole v refl
