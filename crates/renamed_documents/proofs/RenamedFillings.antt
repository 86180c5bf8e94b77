-- Documents with all values in place, before and after a column has a new name.
use Rattle.std.proofs.Common.{ℕ, cond, List, map, ◌≡◌, sym, ap, ◌∙◌}
use Rattle.std.specs.List.{AllByRecursion}
use Rattle.cell_types.specs.declared.value.CellValue.{CellValue}
use Rattle.doc_model.specs.declared.column.ColDef.{ColDef}
use Rattle.doc_model.specs.Column.{column_id}
use Rattle.doc_model.specs.Document.{Document, Table, on_grid}
use Rattle.doc_model.specs.Grid.{Grid, cell}
use Rattle.doc_model.specs.Schema.{SchemaAgrees, plain_tables}
use Rattle.doc_model.proofs.Choices.{each_both, each_weaker, map-map, map_each}
use Rattle.doc_model.proofs.WholeLaws.{good_from}
use Rattle.formula_records.specs.Recs.{Columns}
use Rattle.recalc.specs.Cells.{cell_of}
use Rattle.recalc.specs.Evaluated.{fill, filled_by, sheet_of, value_of}
use Rattle.rename_marks.specs.declared.column_rename.ColumnRename.{ColumnRename}
use Rattle.rename_texts.specs.Renamed.{Rename}
use Rattle.renamed_values.specs.HeldRecords.{IsPlain}
use Rattle.renamed_values.specs.SameEv.{IsKept, moved}
use Rattle.renamed_values.specs.SameSheet.{SameValueLaw}
use Rattle.renamed_documents.specs.Laws.{AreRenamed, RenamedFillingLaw, RenamedSheetLaw, RenamedValueLaw}
use Rattle.renamed_documents.specs.RenamedTables.{ColumnFollows, Rewriting, column_after, grid_after, table_after}
use Rattle.renamed_documents.proofs.MovedNames.{cell_moved}

pub renamed_value : SameValueLaw → RenamedSheetLaw → RenamedValueLaw
unfolding value_of
renamed_value same sheet m r w k s s' h t c row p kept =
    let moves = sheet m r w k s s' h in
    same m r k (sheet_of s) (sheet_of s') moves.0 moves.1 (cell_of t c row) p kept

-- the tables outside the metadata, with values in place
pub plain_filled : (v : List ℕ → List ℕ → ℕ → CellValue) (s : Document) → SchemaAgrees s → plain_tables (filled_by v s) ≡ map (λ (t : Table). on_grid (fill (v t.id)) t) (plain_tables s)
plain_filled v s h = ap (λ d. plain_tables (filled_by v d)) h.schema

module _ (m : ColumnRename) (r : List ℕ → Rename) (w : Rewriting) (k : Columns) (s s' : Document) (h : AreRenamed m r w k s s') (values : RenamedValueLaw) where
  cell_filled : (t : Table) → IsPlain t.id → AllByRecursion (ColumnFollows m r w k t.id) t.grid.columns → (row : ℕ) (d : ColDef) → ColumnFollows m r w k t.id d
      → cond d.info.is_formula (value_of s' t.id (moved m t.id d.id) row) (cell column_id (grid_after m w t.id t.grid) (moved m t.id d.id) row)
      ≡ cond d.info.is_formula (value_of s t.id d.id row) (cell column_id t.grid d.id row)
  cell_filled t p f row d i =
      ap (λ v. cond d.info.is_formula v (cell column_id (grid_after m w t.id t.grid) (moved m t.id d.id) row)) (values m r w k s s' h t.id d.id row p i.free)
      ∙ ap (λ v. cond d.info.is_formula (value_of s t.id d.id row) v)
      (cell_moved m t.id w d.id i.free t.grid row (each_weaker (ColumnFollows m r w k t.id) (λ (d : ColDef). IsKept m t.id d.id) (λ d i. i.free) t.grid.columns f))

  row_filled : (t : Table) → IsPlain t.id → AllByRecursion (ColumnFollows m r w k t.id) t.grid.columns → (row : ℕ)
      → map (λ (d : ColDef). cond d.info.is_formula (value_of s' t.id d.id row) (cell column_id (grid_after m w t.id t.grid) d.id row)) (map (column_after m w t.id) t.grid.columns)
      ≡ map (λ (d : ColDef). cond d.info.is_formula (value_of s t.id d.id row) (cell column_id t.grid d.id row)) t.grid.columns
  row_filled t p f row =
      sym (map-map (λ (d : ColDef). cond d.info.is_formula (value_of s' t.id d.id row) (cell column_id (grid_after m w t.id t.grid) d.id row)) (column_after m w t.id) t.grid.columns)
      ∙ map_each _ _ t.grid.columns (each_weaker (ColumnFollows m r w k t.id) _ (λ d i. cell_filled t p f row d i) t.grid.columns f)

  table_filled : (t : Table) → IsPlain t.id → AllByRecursion (ColumnFollows m r w k t.id) t.grid.columns
      → on_grid (fill (value_of s' t.id)) (table_after m w t) ≡ table_after m w (on_grid (fill (value_of s t.id)) t)
  table_filled t p f =
      ap (λ (c : ℕ → List CellValue). let g : Grid ColDef = record { columns = map (column_after m w t.id) t.grid.columns; rows = t.grid.rows; cells = map c t.grid.rows } in let u : Table = record { id = t.id; row = t.row; grid = g } in u)
      (λ i row. row_filled t p f row i)

  tables_filled : (ts : List Table) → AllByRecursion (λ (t : Table). IsPlain t.id × AllByRecursion (ColumnFollows m r w k t.id) t.grid.columns) ts
      → map (λ (t : Table). on_grid (fill (value_of s' t.id)) t) (map (table_after m w) ts) ≡ map (table_after m w) (map (λ (t : Table). on_grid (fill (value_of s t.id)) t) ts)
  tables_filled ts f =
      sym (map-map (λ (t : Table). on_grid (fill (value_of s' t.id)) t) (table_after m w) ts)
      ∙ map_each _ _ ts (each_weaker (λ (t : Table). IsPlain t.id × AllByRecursion (ColumnFollows m r w k t.id) t.grid.columns) _ (λ t i. table_filled t i.0 i.1) ts f)
      ∙ map-map (table_after m w) (λ (t : Table). on_grid (fill (value_of s t.id)) t) ts

pub renamed_filling : RenamedValueLaw → RenamedFillingLaw
renamed_filling values m r w k s s' h =
    plain_filled (value_of s') s' h.whole_after.agrees
    ∙ ap (map (λ (t : Table). on_grid (fill (value_of s' t.id)) t)) h.renamed
    ∙ tables_filled m r w k s s' h values (plain_tables s)
    (each_both (λ (t : Table). IsPlain t.id) (λ (t : Table). AllByRecursion (ColumnFollows m r w k t.id) t.grid.columns) (plain_tables s) (good_from s h.whole).plain h.followed.columns)
    ∙ ap (map (table_after m w)) (sym (plain_filled (value_of s) s h.whole.agrees))
