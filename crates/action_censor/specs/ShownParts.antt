-- What a context shows of touched tables, before and after.
use Rattle.std.specs.Prelude.{ℕ, Bool, List, map, filter}
use Rattle.doc_model.specs.declared.view.ViewTable.{ViewTable}
use Rattle.doc_model.specs.ByIds.{by_id}
use Rattle.doc_model.specs.Changes.{shown_table_id}
use Rattle.doc_model.specs.Document.{Document}
use Rattle.doc_readers.specs.Parts.{grid_at}
use Rattle.acl_formula.specs.RuleRow.{RuleRow}
use Rattle.censored_view.specs.Readable.{Readable}
use Rattle.censored_view.specs.Rows.{rows_at}
use Rattle.censored_view.specs.View.{is_shown, shown_columns, shown_rows}
use Rattle.action_censor.specs.declared.touched_table.TouchedTable.{TouchedTable}
use Rattle.action_censor.specs.TouchedTables.{kept_row}

-- whether the table is shown
abbrev pub shows : (List ℕ → Readable) → Document → TouchedTable → Bool
shows x s t = is_shown (x t.id) (grid_at s t.id).columns

-- the table with these rows, as it is shown
abbrev pub shown_with : (List ℕ → Readable) → Document → TouchedTable → List RuleRow → ViewTable
shown_with x s t rows =
    shown_rows (x t.id) t.id (shown_columns (x t.id) (grid_at s t.id).columns) rows

-- with its rows as they were
abbrev pub part_before : (List ℕ → Readable) → Document → TouchedTable → ViewTable
part_before x s t = shown_with x s t (map kept_row t.before.items)

-- and as they are
abbrev pub part_after : (List ℕ → Readable) → Document → TouchedTable → ViewTable
part_after x s t = shown_with x s t (rows_at s t.id t.after.items)

-- the shown ones of these tables, by id
abbrev pub all_before : (List ℕ → Readable) → Document → List TouchedTable → List ViewTable
all_before x s ts = by_id shown_table_id (map (part_before x s) (filter (shows x s) ts))

abbrev pub all_after : (List ℕ → Readable) → Document → List TouchedTable → List ViewTable
all_after x s ts = by_id shown_table_id (map (part_after x s) (filter (shows x s) ts))
