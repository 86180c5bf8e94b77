-- What formulas see of a whole document holds no other records than its columns may.
use Rattle.std.proofs.Common.{ℕ, Bool, true, false, cond, ◌&&◌, List, [], ◌∷◌, ◌≡◌, refl, subst, ap, ◌∙◌, Option, Some, None}
use Rattle.std.specs.List.{AllByRecursion, list_all}
use Rattle.std.specs.Option.{option_map}
use Rattle.std.proofs.lemmas.Bool.{and_parts, false≢true}
use Rattle.cell_types.specs.declared.cell.CellId.{CellId}
use Rattle.cell_types.specs.declared.column_type.ColType.{ColType}
use Rattle.cell_types.specs.declared.value.CellItem.{CellItem}
use Rattle.cell_types.specs.declared.value.CellItem.TheVariants as item
use Rattle.cell_types.specs.declared.value.CellValue.{CellValue}
use Rattle.cell_types.specs.declared.value.CellValue.TheVariants as value
use Rattle.cell_types.specs.ColumnRange.{is_null}
use Rattle.doc_model.specs.declared.column.ColDef.{ColDef}
use Rattle.doc_model.specs.ByIds.{find_id}
use Rattle.doc_model.specs.Column.{column_id, is_base, is_base_item, may_hold}
use Rattle.doc_model.specs.Document.{Document, Table, table_id}
use Rattle.doc_model.specs.DocumentLaws.{IsWhole}
use Rattle.doc_model.specs.Grid.{Grid, cell}
use Rattle.doc_model.specs.Rows.{has}
use Rattle.doc_model.specs.Sound.{IsSoundGrid}
use Rattle.doc_model.proofs.ByIdsLaws.{found_all, found_id}
use Rattle.formula_eval.specs.Reader.{known, no_row, no_table}
use Rattle.formula_records.specs.RecordTables.{none}
use Rattle.formula_records.specs.Recs.{Column, Columns}
use Rattle.recalc.specs.Evaluated.{base_at, base_in, column_in, formula_at, formula_in}
use Rattle.renamed_values.specs.HeldRecords.{IsPlain, ItemOf, RecordsOf}
use Rattle.renamed_values.specs.PlainNames.{IsPlainType}
use Rattle.renamed_documents.specs.Typed.{AreColumns, TypedDocumentLaw, as_column}

item_bare : (i : CellItem) → is_base_item i ≡ true → ItemOf none i
item_bare item.Null h = tt
item_bare (item.Int n) h = tt
item_bare (item.Bool b) h = tt
item_bare (item.Text t) h = tt
item_bare (item.Date n) h = tt
item_bare (item.Rec r) h = absurd (false≢true h)

items_bare : (is : List CellItem) → list_all is_base_item is ≡ true → AllByRecursion (ItemOf none) is
items_bare [] h = tt
items_bare (i ∷ is) h = let p = and_parts (is_base_item i) (list_all is_base_item is) h in (item_bare i p.0, items_bare is p.1)

base_bare : (v : CellValue) → is_base v ≡ true → RecordsOf none v
base_bare value.Null h = tt
base_bare (value.Int n) h = tt
base_bare (value.Bool b) h = tt
base_bare (value.Text t) h = tt
base_bare (value.Date n) h = tt
base_bare (value.Rec r) h = absurd (false≢true h)
base_bare (value.RecSet s) h = absurd (false≢true h)
base_bare (value.List is) h = items_bare is (and_parts _ (list_all is_base_item is) h).1
base_bare (value.Err e) h = tt
base_bare value.Censored h = tt

null_bare : (v : CellValue) → is_null v ≡ true → RecordsOf none v
null_bare value.Null h = tt
null_bare (value.Int n) h = tt
null_bare (value.Bool b) h = tt
null_bare (value.Text t) h = tt
null_bare (value.Date n) h = tt
null_bare (value.Rec r) h = absurd (false≢true h)
null_bare (value.RecSet s) h = absurd (false≢true h)
null_bare (value.List is) h = absurd (false≢true h)
null_bare (value.Err e) h = tt
null_bare value.Censored h = tt

held_bare : (d : ColDef) (v : CellValue) → may_hold d v ≡ true → RecordsOf none v
held_bare d v = elim d.info.is_formula as (λ b. cond b (is_null v) (is_base v) ≡ true → RecordsOf none v) [ true ↦ null_bare v | false ↦ base_bare v ]

same_value : (u v : CellValue) → known u ≡ known v → u ≡ v
same_value u v e = cc

grid_bare : (g : Grid ColDef) → IsSoundGrid g → (c : CellId) (o : Option ColDef) → find_id column_id c.column g.columns ≡ o → (v : CellValue) → base_in g c o ≡ known v → RecordsOf none v
grid_bare g sound c None i v e = absurd (cc)
grid_bare g sound c (Some d) i v e = by (has g.rows c.row) refl e
  where
    is : d.id ≡ c.column
    is = found_id column_id c.column g.columns d i

    by : (b : Bool) → has g.rows c.row ≡ b → cond b (known (cell column_id g c.column c.row)) no_row ≡ known v → RecordsOf none v
    by true here e =
        subst (RecordsOf none) (ap (λ n. cell column_id g n c.row) is ∙ same_value (cell column_id g c.column c.row) v e)
        (held_bare d (cell column_id g d.id c.row) (sound.holds d c.row (ap (λ n. find_id column_id n g.columns) is ∙ i) here))
    by false here e = absurd (cc)

module _ (k : Columns) (s : Document) (whole : IsWhole s) (known_as : AreColumns k s) where
  kind_known : (t c : List ℕ) (u : ColType) → IsPlain t → option_map (λ (d : ColDef). d.info.ty) (column_in s t c) ≡ Some u
      → (d : Column) × (k t c ≡ Some d) × (d.ty ≡ u) × IsPlainType u
  kind_known t c u p e = by (column_in s t c) refl e
    where
      same_type : (a b : ColType) → Some a ≡ Some b → a ≡ b
      same_type a b e = cc

      by : (o : Option ColDef) → column_in s t c ≡ o → option_map (λ (d : ColDef). d.info.ty) o ≡ Some u → (d : Column) × (k t c ≡ Some d) × (d.ty ≡ u) × IsPlainType u
      by None i e = absurd (cc)
      by (Some d) i e = let f = known_as t c d p i in (as_column d, f.0, same_type d.info.ty u e, subst IsPlainType (same_type d.info.ty u e) f.1)

  -- a cell with a formula stands in a formula column
  formula_column : (c : CellId) (f : List ℕ) → formula_at s c ≡ Some f → (d : ColDef) × (column_in s c.table c.column ≡ Some d) × (d.info.is_formula ≡ true)
  formula_column c f e = by_table (find_id table_id c.table s) refl e
    where
      by_column : (g : Grid ColDef) (o : Option ColDef) → elim o [ None ↦ None | Some d ↦ formula_in g c.row d ] ≡ Some f → (d : ColDef) × (o ≡ Some d) × (d.info.is_formula ≡ true)
      by_column g None e = absurd (cc)
      by_column g (Some d) e = (d, refl, is d.info.is_formula e)
        where
          is : (b : Bool) → cond (b && has g.rows c.row) (Some d.info.formula) None ≡ Some f → b ≡ true
          is true e = refl
          is false e = absurd (cc)

      by_table : (o : Option Table) → find_id table_id c.table s ≡ o → elim o [ None ↦ None | Some t ↦ elim (find_id column_id c.column t.grid.columns) [ None ↦ None | Some d ↦ formula_in t.grid c.row d ] ] ≡ Some f
          → (d : ColDef) × (elim o [ None ↦ None | Some t ↦ find_id column_id c.column t.grid.columns ] ≡ Some d) × (d.info.is_formula ≡ true)
      by_table None i e = absurd (cc)
      by_table (Some t) i e = by_column t.grid (find_id column_id c.column t.grid.columns) e

  base_known : (c : CellId) (v : CellValue) → base_at s c ≡ known v → RecordsOf none v
  base_known c v e = by (find_id table_id c.table s) refl e
    where
      by : (o : Option Table) → find_id table_id c.table s ≡ o → elim o [ None ↦ no_table | Some t ↦ base_in t.grid c (find_id column_id c.column t.grid.columns) ] ≡ known v → RecordsOf none v
      by None i e = absurd (cc)
      by (Some t) i e = grid_bare t.grid (found_all table_id (λ (t : Table). IsSoundGrid t.grid) c.table s t whole.sound.grids i) c (find_id column_id c.column t.grid.columns) refl v e

pub typed_document : TypedDocumentLaw
typed_document k s whole h = record {
  kind = kind_known k s whole h;
  formula = λ c f p e. let d = formula_column k s whole h c f e in (as_column d.0, (h c.table c.column d.0 p d.1).0, d.2, ap (option_map (λ (d : ColDef). d.info.ty)) d.1);
  base = λ c v p e. base_known k s whole h c v e;
}
