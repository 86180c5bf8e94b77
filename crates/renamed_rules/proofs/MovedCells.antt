-- Cells, and the row that an attribute of users finds, under the new name of a column.
use Rattle.std.proofs.Common.{ℕ, Bool, true, false, cond, ◌&&◌, ◌||◌, List, [], ◌∷◌, map, ◌≡◌, refl, sym, ap, ◌∙◌, Option, Some, None, find}
use Rattle.std.specs.Option.{option_map}
use Rattle.std.specs.Str.{bytes_eq}
use Rattle.std.proofs.lemmas.Slice.Eq.{bytes_eq-Decides}
use Rattle.acl_formula.specs.declared.user_info.NamedCell.{NamedCell}
use Rattle.acl_formula.specs.RuleFields.{cell_in, found_field, read, row_id}
use Rattle.cell_types.specs.declared.value.CellValue.{CellValue}
use Rattle.doc_model.specs.declared.column.ColDef.{ColDef}
use Rattle.doc_model.specs.declared.user.User.{User}
use Rattle.doc_model.specs.ByIds.{find_id, has_id}
use Rattle.doc_model.specs.Column.{column_id}
use Rattle.doc_model.specs.Document.{Document, Table, table_id}
use Rattle.doc_model.specs.Grid.{Grid, cell}
use Rattle.doc_model.specs.Readers.{cell_at}
use Rattle.doc_model.specs.Rows.{has}
use Rattle.doc_model.specs.Schema.{no_grid}
use Rattle.doc_readers.specs.Parts.{grid_at}
use Rattle.formula_parse.specs.Lexemes.{is_id}
use Rattle.rename_marks.specs.declared.column_rename.ColumnRename.{ColumnRename}
use Rattle.renamed_documents.specs.RenamedTables.{Rewriting, column_after, grid_after}
use Rattle.renamed_documents.proofs.MovedNames.{AllKept, cell_moved, moved_apart}
use Rattle.renamed_documents.proofs.SeenTables.{of_table_told, told}
use Rattle.renamed_values.specs.HeldRecords.{IsPlain}
use Rattle.renamed_values.specs.SameEv.{IsKept, moved}
use Rattle.user_attrs.specs.declared.attribute_rule.AttributeRule.{AttributeRule}
use Rattle.user_attrs.specs.UserInfos.{cells_of, found_in, holds, kept_row, property_value, row_with}
use Rattle.renamed_rules.specs.RenamedCells.{HasMoved, seen}
use Rattle.renamed_rules.specs.RenamedRules.{AttributeKept, attribute_after}

has_moved : (m : ColumnRename) (w : Rewriting) (t n : List ℕ) → IsKept m t n → (ds : List ColDef) → AllKept m t ds → has_id column_id (map (column_after m w t) ds) (moved m t n) ≡ has_id column_id ds n
has_moved m w t n k [] h = refl
has_moved m w t n k (d ∷ ds) h =
    ap (λ b. b || has_id column_id (map (column_after m w t) ds) (moved m t n)) (moved_apart m t d.id n h.0 k)
    ∙ ap (λ b. bytes_eq d.id n || b) (has_moved m w t n k ds h.1)

grid_told : (s : Document) (a : List ℕ) → grid_at s a ≡ told no_grid (λ g. g) (seen s a)
grid_told s a = elim (find_id table_id a s) as (λ (o : Option Table). elim o [ None ↦ no_grid | Some t ↦ t.grid ] ≡ told no_grid (λ g. g) (option_map (λ (t : Table). t.grid) o)) [ None ↦ refl | Some t ↦ refl ]

-- a name of a row's field is asked as before
pub id_moved : (m : ColumnRename) → is_id m.old ≡ false → is_id m.new ≡ false → (t n : List ℕ) → is_id (moved m t n) ≡ is_id n
id_moved m old new t n = by (bytes_eq t m.table) (bytes_eq n m.old) refl
  where
    by : (a b : Bool) → bytes_eq n m.old ≡ b → is_id (cond (a && b) m.new n) ≡ is_id n
    by true true e = new ∙ sym old ∙ sym (ap is_id ((bytes_eq-Decides n m.old).0 e))
    by true false e = refl
    by false b e = refl

module _ (m : ColumnRename) (w : Rewriting) (s s' : Document) (h : HasMoved m w s s') (a : List ℕ) (p : IsPlain a) where
  -- the tables before and after
  by_table : {X : Type 0} (x : X) (f f' : Grid ColDef → X) → ((g : Grid ColDef) → AllKept m a g.columns → f' (grid_after m w a g) ≡ f g) → told x f' (seen s' a) ≡ told x f (seen s a)
  by_table x f f' same = ap (told x f') (h.tables a p) ∙ by (seen s a) refl
    where
      by : (o : Option (Grid ColDef)) → seen s a ≡ o → told x f' (option_map (grid_after m w a) o) ≡ told x f o
      by None e = refl
      by (Some g) e = same g (h.free a g p e)

  pub cell_same : (n : List ℕ) (row : ℕ) → IsKept m a n → cell_at s' a (moved m a n) row ≡ cell_at s a n row
  cell_same n row k =
      of_table_told s' a _
      ∙ by_table None (λ g. cond (has_id column_id g.columns n && has g.rows row) (Some (cell column_id g n row)) None) (λ g. cond (has_id column_id g.columns (moved m a n) && has g.rows row) (Some (cell column_id g (moved m a n) row)) None)
      (λ g f. ap (λ b. cond (b && has g.rows row) (Some (cell column_id (grid_after m w a g) (moved m a n) row)) None) (has_moved m w a n k g.columns f) ∙ ap (λ v. cond (has_id column_id g.columns n && has g.rows row) (Some v) None) (cell_moved m a w n k g row f))
      ∙ sym (of_table_told s a (λ g. cond (has_id column_id g.columns n && has g.rows row) (Some (cell column_id g n row)) None))

  rows_same : (grid_at s' a).rows ≡ (grid_at s a).rows
  rows_same = ap (λ (g : Grid ColDef). g.rows) (grid_told s' a) ∙ rows_of (seen s' a) ∙ by_table [] (λ g. g.rows) (λ g. g.rows) (λ g f. refl) ∙ sym (ap (λ (g : Grid ColDef). g.rows) (grid_told s a) ∙ rows_of (seen s a))
    where
      rows_of : (o : Option (Grid ColDef)) → (told no_grid (λ g. g) o).rows ≡ told [] (λ g. g.rows) o
      rows_of None = refl
      rows_of (Some g) = refl

  row_same : (n : List ℕ) (v : CellValue) → IsKept m a n → row_with s' a (moved m a n) v ≡ row_with s a n v
  row_same n v k = ap (λ rows. find (λ r. holds v (cell_at s' a (moved m a n) r)) rows) rows_same ∙ ap (λ (f : ℕ → Bool). find f (grid_at s a).rows) (λ i r. holds v (cell_same n r k i))

  -- a cell of a row that was found
  cells_in : (n : List ℕ) (row : ℕ) → IsKept m a n → cell_in (cells_of s' a row) (moved m a n) ≡ cell_in (cells_of s a row) n
  cells_in n row k =
      ap (λ g. cell_in (map (named_in g) g.columns) (moved m a n)) (grid_told s' a)
      ∙ cells_told (seen s' a) (moved m a n)
      ∙ by_table None (λ g. cell_in (map (named_in g) g.columns) n) (λ g. cell_in (map (named_in g) g.columns) (moved m a n)) (λ g f. columns g g.columns f f)
      ∙ sym (ap (λ g. cell_in (map (named_in g) g.columns) n) (grid_told s a) ∙ cells_told (seen s a) n)
    where
      named_in : Grid ColDef → ColDef → NamedCell
      named_in g d = record { column = d.id; value = cell column_id g d.id row }

      cells_told : (o : Option (Grid ColDef)) (n : List ℕ) → cell_in (map (named_in (told no_grid (λ g. g) o)) (told no_grid (λ g. g) o).columns) n ≡ told None (λ g. cell_in (map (named_in g) g.columns) n) o
      cells_told None n = refl
      cells_told (Some g) n = refl

      columns : (g : Grid ColDef) (ds : List ColDef) → AllKept m a g.columns → AllKept m a ds → cell_in (map (named_in (grid_after m w a g)) (map (column_after m w a) ds)) (moved m a n) ≡ cell_in (map (named_in g) ds) n
      columns g [] all f = refl
      columns g (d ∷ ds) all f =
          ap (λ b. cond b (Some (cell column_id (grid_after m w a g) (moved m a d.id) row)) (cell_in (map (named_in (grid_after m w a g)) (map (column_after m w a) ds)) (moved m a n))) (moved_apart m a d.id n f.0 k)
          ∙ ap (λ v. cond (bytes_eq d.id n) (Some v) (cell_in (map (named_in (grid_after m w a g)) (map (column_after m w a) ds)) (moved m a n))) (cell_moved m a w d.id f.0 g row all)
          ∙ ap (λ o. cond (bytes_eq d.id n) (Some (cell column_id g d.id row)) o) (columns g ds all f.1)

  -- a field of a row that may have been found
  pub row_field_same : (n : List ℕ) (o : Option ℕ) → IsKept m a n → found_field (kept_row s' a o) (moved m a n) ≡ found_field (kept_row s a o) n
  row_field_same n None k = refl
  row_field_same n (Some r) k =
      ap (λ b. cond b (row_id r) (read (cell_in (cells_of s' a r) (moved m a n)))) (id_moved m h.old h.new a n)
      ∙ ap (λ v. cond (is_id n) (row_id r) (read v)) (cells_in n r k)

-- a field of what an attribute finds
pub found_same : (m : ColumnRename) (w : Rewriting) (s s' : Document) → HasMoved m w s s' → (u : User) (a : AttributeRule) → AttributeKept m a → (n : List ℕ) → IsKept m a.table n
    → found_field (found_in s' u (attribute_after m a)) (moved m a.table n) ≡ found_field (found_in s u a) n
found_same m w s s' h u a k n kept =
    ap (λ o. found_field (kept_row s' a.table o) (moved m a.table n)) (row_same m w s s' h a.table k.plain a.column (property_value u a.property) k.kept)
    ∙ row_field_same m w s s' h a.table k.plain n (row_with s a.table a.column (property_value u a.property)) kept
