use Rattle.std.proofs.Common.{ℕ, List, ◌∷◌, ◌++◌, ◌+◌, ◌≡◌, drop, map, sym, ap, ◌∙◌}
use Rattle.doc_model.specs.declared.column.ColDef.{ColDef}
use Rattle.doc_model.specs.Document.{Table}
use Rattle.doc_model.specs.Schema.{Described, all_columns, describe, described_row}
use Rattle.row_tables.specs.Spots.{columns_of}
use Rattle.row_tables.proofs.Walks.{drop_read}
use Rattle.column_store.proofs.ComeLaws.{note_table}
use Rattle.column_store.proofs.schema.columns_told.Goals as goal

-- what is noted of the columns of a table
noted : {Y : Type 0} (f : Described → Y) (done : List Y) (t : Table) (parent : ℕ) (columns : List ColDef) → parent ≡ t.row → columns ≡ t.grid.columns → done ++ map f (columns_of parent columns) ≡ done ++ map f (columns_of t.row t.grid.columns)
noted f done t parent columns er ec = ap (λ n. done ++ map f (columns_of n columns)) er ∙ ap (λ ds. done ++ map f (columns_of t.row ds)) ec

pub loop-table-preserved : goal.loop-table-preserved
loop-table-preserved c =
    let plain : List Table = c.args.plain.now in
    let i : ℕ = c.loop-table.table-index in
    let t : Table = c.table-item.result in
    let read : drop i plain ≡ t ∷ drop (i + 1) plain = drop_read plain i t c.loop-table-test.true c.table-item.is in (
      note_table described_row c.loop-table.rows.items t (drop (i + 1) plain) c.note_columns.new.rows.items (map described_row (all_columns plain)) (c.in_ok-note_columns.ensures.rows ∙ noted described_row c.loop-table.rows.items t c.row.result c.columns.result.now c.row.ensures c.columns.ensures)
          (ap (λ ts. c.loop-table.rows.items ++ map described_row (all_columns ts)) (sym read) ∙ c.loop-table.invariant.0),
      note_table describe c.loop-table.lists.items t (drop (i + 1) plain) c.note_columns.new.lists.items (map describe (all_columns plain)) (c.in_ok-note_columns.ensures.lists ∙ noted describe c.loop-table.lists.items t c.row.result c.columns.result.now c.row.ensures c.columns.ensures)
          (ap (λ ts. c.loop-table.lists.items ++ map describe (all_columns ts)) (sym read) ∙ c.loop-table.invariant.1),
    )
