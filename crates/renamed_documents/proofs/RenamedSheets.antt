-- What formulas see of a document before and after a column has a new name.
use Rattle.std.proofs.Common.{ℕ, ◌+◌, Bool, true, false, cond, ◌&&◌, List, [], ◌∷◌, ◌++◌, map, length, ◌≡◌, refl, subst, sym, ap, ◌∙◌, Option, Some, None}
use Rattle.std.specs.Option.{option_map}
use Rattle.std.proofs.lemmas.List.{length-append}
use Rattle.cell_types.specs.declared.cell.CellId.{CellId}
use Rattle.doc_model.specs.declared.column.ColDef.{ColDef}
use Rattle.doc_model.specs.ByIds.{find_id}
use Rattle.doc_model.specs.Column.{column_id}
use Rattle.doc_model.specs.Document.{Document, Table, table_id}
use Rattle.doc_model.specs.Grid.{Grid}
use Rattle.doc_model.specs.Readers.{rows_at}
use Rattle.doc_model.specs.Rows.{has}
use Rattle.doc_model.specs.Schema.{SchemaAgrees, plain_tables, resources, resources_columns, rules, rules_columns, with_schema}
use Rattle.doc_model.specs.MetadataIds.{resources_id, rules_id}
use Rattle.doc_model.proofs.ByIdsLaws.{found_all}
use Rattle.doc_model.proofs.Choices.{each_weaker, length_map}
use Rattle.formula_eval.specs.Reader.{known, no_row, no_table}
use Rattle.formula_records.specs.Recs.{Columns}
use Rattle.recalc.specs.Cells.{cell_of}
use Rattle.recalc.specs.Evaluated.{base_at, base_in, cells_of_column, cells_of_columns, column_in, formula_at, formula_cells, formula_in}
use Rattle.rename_marks.specs.declared.column_rename.ColumnRename.{ColumnRename}
use Rattle.rename_texts.specs.Renamed.{Rename}
use Rattle.renamed_values.specs.HeldRecords.{IsPlain}
use Rattle.renamed_values.specs.SameEv.{IsKept, moved}
use Rattle.renamed_values.specs.SameSheet.{FollowIn, moved_cell}
use Rattle.renamed_documents.specs.Laws.{AreRenamed, RenamedSheetLaw}
use Rattle.renamed_documents.specs.RenamedTables.{ColumnFollows, Rewriting, column_after, grid_after, table_after}
use Rattle.renamed_documents.proofs.MovedNames.{AllKept, cell_moved, find_moved}
use Rattle.renamed_documents.proofs.SeenTables.{Follows, of_table_told, seen_in, told, told_related}
use Rattle.renamed_documents.proofs.TypedDocuments.{typed_document}

-- ---- readers by what is told of a table

base_told : (s : Document) (c : CellId) → base_at s c ≡ told no_table (λ g. base_in g c (find_id column_id c.column g.columns)) (seen_in s c.table)
base_told s c =
    elim (find_id table_id c.table s) as (λ (o : Option Table). elim o [ None ↦ no_table | Some t ↦ base_in t.grid c (find_id column_id c.column t.grid.columns) ] ≡ told no_table (λ g. base_in g c (find_id column_id c.column g.columns)) (option_map (λ (t : Table). t.grid) o)) [
      | None ↦ refl
      | Some t ↦ refl
    ]

-- the formula of a cell in a column that may be there
abbrev formula_of_column : Grid ColDef → ℕ → Option ColDef → Option (List ℕ)
formula_of_column g row None = None
formula_of_column g row (Some d) = formula_in g row d

formula_told : (s : Document) (c : CellId) → formula_at s c ≡ told None (λ g. formula_of_column g c.row (find_id column_id c.column g.columns)) (seen_in s c.table)
formula_told s c = of_table_told s c.table _ ∙ by (seen_in s c.table)
  where
    column : (g : Grid ColDef) (o : Option ColDef) → elim o [ None ↦ None | Some d ↦ formula_in g c.row d ] ≡ formula_of_column g c.row o
    column g None = refl
    column g (Some d) = refl

    by : (o : Option (Grid ColDef)) → told None (λ g. elim (find_id column_id c.column g.columns) [ None ↦ None | Some d ↦ formula_in g c.row d ]) o ≡ told None (λ g. formula_of_column g c.row (find_id column_id c.column g.columns)) o
    by None = refl
    by (Some g) = column g (find_id column_id c.column g.columns)

module _ (m : ColumnRename) (r : List ℕ → Rename) (w : Rewriting) (k : Columns) (s s' : Document) (h : AreRenamed m r w k s s') where
  kept_of : (a : List ℕ) (g : Grid ColDef) → Follows m w a r k g → AllKept m a g.columns
  kept_of a g f = each_weaker (ColumnFollows m r w k a) (λ (d : ColDef). IsKept m a d.id) (λ d i. i.free) g.columns f

  pub rows_same : (a : List ℕ) → IsPlain a → rows_at s' a ≡ rows_at s a
  rows_same a p =
      of_table_told s' a (λ g. Some g.rows)
      ∙ told_related m w a r k (λ x y. y ≡ x) None None (λ g. Some g.rows) (λ g. Some g.rows) s s' h.whole.agrees h.whole_after.agrees h.renamed h.followed p refl (λ g f. refl)
      ∙ sym (of_table_told s a (λ g. Some g.rows))

  type_after : (a : List ℕ) (o : Option ColDef) → option_map (λ (d : ColDef). d.info.ty) (option_map (column_after m w a) o) ≡ option_map (λ (d : ColDef). d.info.ty) o
  type_after a None = refl
  type_after a (Some d) = refl

  kind_same : (a n : List ℕ) → IsPlain a → IsKept m a n → option_map (λ (d : ColDef). d.info.ty) (column_in s' a (moved m a n)) ≡ option_map (λ (d : ColDef). d.info.ty) (column_in s a n)
  kind_same a n p kept =
      ap (option_map (λ (d : ColDef). d.info.ty)) (of_table_told s' a (λ g. find_id column_id (moved m a n) g.columns))
      ∙ told_related m w a r k (λ x y. option_map (λ (d : ColDef). d.info.ty) y ≡ option_map (λ (d : ColDef). d.info.ty) x) None None
      (λ g. find_id column_id n g.columns) (λ g. find_id column_id (moved m a n) g.columns) s s' h.whole.agrees h.whole_after.agrees h.renamed h.followed p refl
      (λ g f. ap (option_map (λ (d : ColDef). d.info.ty)) (find_moved m a w n kept g.columns (kept_of a g f)) ∙ type_after a (find_id column_id n g.columns))
      ∙ sym (ap (option_map (λ (d : ColDef). d.info.ty)) (of_table_told s a (λ g. find_id column_id n g.columns)))

  base_same : (c : CellId) → IsPlain c.table → IsKept m c.table c.column → base_at s' (moved_cell m c) ≡ base_at s c
  base_same c p kept =
      base_told s' (moved_cell m c)
      ∙ told_related m w c.table r k (λ x y. y ≡ x) no_table no_table
      (λ g. base_in g c (find_id column_id c.column g.columns)) (λ g. base_in g (moved_cell m c) (find_id column_id (moved m c.table c.column) g.columns))
      s s' h.whole.agrees h.whole_after.agrees h.renamed h.followed p refl
      (λ g f. ap (base_in (grid_after m w c.table g) (moved_cell m c)) (find_moved m c.table w c.column kept g.columns (kept_of c.table g f)) ∙ column g f (find_id column_id c.column g.columns))
      ∙ sym (base_told s c)
    where
      column : (g : Grid ColDef) → Follows m w c.table r k g → (o : Option ColDef) → base_in (grid_after m w c.table g) (moved_cell m c) (option_map (column_after m w c.table) o) ≡ base_in g c o
      column g f None = refl
      column g f (Some d) = ap (λ v. cond (has g.rows c.row) (known v) no_row) (cell_moved m c.table w c.column kept g c.row (kept_of c.table g f))

  formula_follows : (c : CellId) → IsPlain c.table → IsKept m c.table c.column → FollowIn m r k c.table (formula_at s c) (formula_at s' (moved_cell m c))
  formula_follows c p kept =
      subst (λ (o : Option (List ℕ)). FollowIn m r k c.table o (formula_at s' (moved_cell m c))) (sym (formula_told s c))
      (subst (λ (o : Option (List ℕ)). FollowIn m r k c.table (told None (λ g. formula_of_column g c.row (find_id column_id c.column g.columns)) (seen_in s c.table)) o) (sym (formula_told s' (moved_cell m c)))
      (told_related m w c.table r k (FollowIn m r k c.table) None None
      (λ g. formula_of_column g c.row (find_id column_id c.column g.columns)) (λ g. formula_of_column g c.row (find_id column_id (moved m c.table c.column) g.columns))
      s s' h.whole.agrees h.whole_after.agrees h.renamed h.followed p tt table))
    where
      cell_follows : (d : ColDef) → ColumnFollows m r w k c.table d → (b here : Bool) → d.info.is_formula ≡ b
          → FollowIn m r k c.table (cond (b && here) (Some d.info.formula) None) (cond (b && here) (Some (w c.table d.id d.info.formula)) None)
      cell_follows d i true true e = i.formula e
      cell_follows d i true false e = tt
      cell_follows d i false here e = tt

      column : (g : Grid ColDef) → Follows m w c.table r k g → (o : Option ColDef) → find_id column_id c.column g.columns ≡ o
          → FollowIn m r k c.table (formula_of_column g c.row o) (formula_of_column (grid_after m w c.table g) c.row (option_map (column_after m w c.table) o))
      column g f None e = tt
      column g f (Some d) e = cell_follows d (found_all column_id (ColumnFollows m r w k c.table) c.column g.columns d f e) d.info.is_formula (has g.rows c.row) refl

      table : (g : Grid ColDef) → Follows m w c.table r k g
          → FollowIn m r k c.table (formula_of_column g c.row (find_id column_id c.column g.columns)) (formula_of_column (grid_after m w c.table g) c.row (find_id column_id (moved m c.table c.column) (grid_after m w c.table g).columns))
      table g f =
          subst (λ (o : Option ColDef). FollowIn m r k c.table (formula_of_column g c.row (find_id column_id c.column g.columns)) (formula_of_column (grid_after m w c.table g) c.row o)) (sym (find_moved m c.table w c.column kept g.columns (kept_of c.table g f)))
          (column g f (find_id column_id c.column g.columns) refl)

-- ---- how many formula cells there are

-- the metadata has none
plain_cells : (r u : Grid ColDef) (p : List Table) → r.columns ≡ resources_columns → u.columns ≡ rules_columns → formula_cells (with_schema r u p) ≡ formula_cells p
plain_cells r u p rh uh =
    ap (λ ds. cells_of_columns resources_id r ds ++ (cells_of_columns rules_id u u.columns ++ formula_cells p)) rh
    ∙ ap (λ ds. cells_of_columns rules_id u ds ++ formula_cells p) uh

cells_of_whole : (s : Document) → SchemaAgrees s → formula_cells s ≡ formula_cells (plain_tables s)
cells_of_whole s h = ap formula_cells h.schema ∙ plain_cells (resources s) (rules s) (plain_tables s) h.resources_have h.rules_have

module _ (m : ColumnRename) (w : Rewriting) where
  column_count : (t : List ℕ) (g : Grid ColDef) (d : ColDef) → length (cells_of_column t (grid_after m w t g) (column_after m w t d)) ≡ length (cells_of_column t g d)
  column_count t g d =
      elim d.info.is_formula as (λ b. length (cond b (map (cell_of t (moved m t d.id)) g.rows) []) ≡ length (cond b (map (cell_of t d.id) g.rows) [])) [
        | true ↦ length_map (cell_of t (moved m t d.id)) g.rows ∙ sym (length_map (cell_of t d.id) g.rows)
        | false ↦ refl
      ]

  columns_count : (t : List ℕ) (g : Grid ColDef) (ds : List ColDef) → length (cells_of_columns t (grid_after m w t g) (map (column_after m w t) ds)) ≡ length (cells_of_columns t g ds)
  columns_count t g [] = refl
  columns_count t g (d ∷ ds) =
      length-append (cells_of_column t (grid_after m w t g) (column_after m w t d)) (cells_of_columns t (grid_after m w t g) (map (column_after m w t) ds))
      ∙ ap (λ n. n + length (cells_of_columns t (grid_after m w t g) (map (column_after m w t) ds))) (column_count t g d)
      ∙ ap (λ n. length (cells_of_column t g d) + n) (columns_count t g ds)
      ∙ sym (length-append (cells_of_column t g d) (cells_of_columns t g ds))

  tables_count : (ts : List Table) → length (formula_cells (map (table_after m w) ts)) ≡ length (formula_cells ts)
  tables_count [] = refl
  tables_count (t ∷ ts) =
      length-append (cells_of_columns t.id (grid_after m w t.id t.grid) (map (column_after m w t.id) t.grid.columns)) (formula_cells (map (table_after m w) ts))
      ∙ ap (λ n. n + length (formula_cells (map (table_after m w) ts))) (columns_count t.id t.grid t.grid.columns)
      ∙ ap (λ n. length (cells_of_columns t.id t.grid t.grid.columns) + n) (tables_count ts)
      ∙ sym (length-append (cells_of_columns t.id t.grid t.grid.columns) (formula_cells ts))

pub renamed_sheet : RenamedSheetLaw
renamed_sheet m r w k s s' h = (
  record {
    old = h.followed.old;
    new = h.followed.new;
    rows = rows_same m r w k s s' h;
    kind = kind_same m r w k s s' h;
    base = base_same m r w k s s' h;
    formula = formula_follows m r w k s s' h;
    typed = typed_document k s h.whole h.typed;
  },
  ap length (cells_of_whole s' h.whole_after.agrees ∙ ap formula_cells h.renamed)
      ∙ tables_count m w (plain_tables s)
      ∙ sym (ap length (cells_of_whole s h.whole.agrees)),
)
