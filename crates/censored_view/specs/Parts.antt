-- Parts of a view, made of some tables with some of their rows.
use Rattle.std.specs.Prelude.{ℕ, Bool, cond, ◌&&◌, List, map, filter, Option, Some, None}
use Rattle.doc_model.specs.declared.view.ViewTable.{ViewTable}
use Rattle.doc_model.specs.ByIds.{by_id, put_by_id}
use Rattle.doc_model.specs.Changes.{shown_table_id}
use Rattle.doc_model.specs.Document.{Document, Table}
use Rattle.censored_view.specs.Readable.{Readable, row_of}
use Rattle.censored_view.specs.View.{is_shown, shown_columns, shown_rows}

-- a table made of those of its rows that pass
abbrev pub shown_part : (ℕ → Bool) → Readable → Table → ViewTable
shown_part test x t =
    shown_rows x t.id (shown_columns x t.grid.columns)
    (map (row_of t.grid) (filter test t.grid.rows))

-- those of the affected tables that are shown, made of those of their rows that pass
abbrev pub part : (List ℕ → Bool) → (List ℕ → ℕ → Bool) → (List ℕ → Readable) → Document
    → List ViewTable
part affected test x s =
    by_id shown_table_id
    (map (λ (t : Table). shown_part (test t.id) (x t.id) t)
    (filter (λ (t : Table). affected t.id && is_shown (x t.id) t.grid.columns) s))

-- what is seen of a table of this id that may be there, made of these rows
abbrev pub seen_part : Readable → List ℕ → Option Table → List ℕ → Option ViewTable
seen_part x id None rows = None
seen_part x id (Some t) rows =
    cond (is_shown x t.grid.columns)
    (Some (shown_rows x id (shown_columns x t.grid.columns) (map (row_of t.grid) rows))) None

-- the tables with one more in its place, where it is seen
abbrev pub with_seen : Option ViewTable → List ViewTable → List ViewTable
with_seen None v = v
with_seen (Some t) v = put_by_id shown_table_id t v
