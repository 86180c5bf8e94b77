-- What steps of records leave of a document: all rows but those that they are about.
use Rattle.std.proofs.Common.{ℕ, Bool, true, false, cond, not, nat_eq, ◌&&◌, ◌||◌, List, [], ◌∷◌, ◌≡◌, refl, sym, ap, subst, ◌∙◌, Option, Some, None, option_map, unwrap_or, find}
use Rattle.std.proofs.lemmas.Bool.{or_parts}
use Rattle.std.specs.List.{list_any}
use Rattle.std.specs.Str.{bytes_eq}
use Rattle.cell_types.specs.declared.cell.CellOld.{CellOld}
use Rattle.cell_types.specs.declared.value.CellValue.{CellValue}
use Rattle.doc_model.specs.declared.action.DocAction.{DocAction}
use Rattle.doc_model.specs.declared.action.DocAction.TheVariants.{BulkAdd, BulkUpdate, BulkRemove, AddTable, RemoveTable, RenameTable, AddColumn, RemoveColumn, RenameColumn, ModifyColumn}
use Rattle.doc_model.specs.declared.column.ColDef.{ColDef}
use Rattle.doc_model.specs.ByIds.{AreDistinct, find_id}
use Rattle.doc_model.specs.Column.{column_id}
use Rattle.doc_model.specs.Document.{Document, Table, on_grid, table_id}
use Rattle.doc_model.specs.Grid.{Grid, IsGrid, cell}
use Rattle.doc_model.specs.Records.{or_else}
use Rattle.doc_model.specs.Rows.{has, insert_rows, without, IsAscending}
use Rattle.doc_model.proofs.Choices.{each_mapped, each_weaker}
use Rattle.doc_model.proofs.ByIdsLaws.{found_all, found_id}
use Rattle.doc_model.proofs.GridLaws.{cell-grid_of, IsGrid-grid_of}
use Rattle.doc_model.proofs.RowsLaws.{has-filter, has-insert_rows, IsAscending-filter, IsAscending-insert_rows}
use Rattle.doc_model.specs.LaidOut.{IsLaidOut}
use Rattle.doc_model.specs.MetadataIds.{is_metadata_id}
use Rattle.doc_model.specs.SameRows.{Both}
use Rattle.doc_model.specs.Sound.{has_names}
use Rattle.doc_model.specs.Touched.{AreSameTables, is_about, names_table}
use Rattle.plain_view.proofs.PartLemmas.{find-mapped}
use Rattle.censored_view.specs.ViewLaws.{AreSameBut}
use Rattle.action_censor.specs.Back.{all_rows_back, back, first_held, grid_back, held_before, rows_back}
use Rattle.action_censor.specs.Step.{Step, is_in_row, is_row_in, is_row_of, is_table_in, is_table_of}

-- ---- rows before an action

out_removed : (rows now : List ℕ) (r : ℕ) → has rows r ≡ false → has (without rows now) r ≡ has now r
out_removed rows now r out = has-filter (λ q. not (has rows q)) now r ∙ ap (λ b. not b && has now r) out

out_added : (rows now : List ℕ) (r : ℕ) → has rows r ≡ false → has (insert_rows rows now) r ≡ has now r
out_added rows now r out = has-insert_rows rows now r ∙ ap (λ b. b || has now r) out

-- where the action names the table, and is not about the row
chosen : (b : Bool) (rows other now : List ℕ) (r : ℕ) → (has rows r ≡ false → has other r ≡ has now r) → (b && has rows r) ≡ false → has (cond b other now) r ≡ has now r
chosen true rows other now r step apart = step apart
chosen false rows other now r step apart = refl

rows_left : (a : DocAction) (t : List ℕ) (now : List ℕ) (r : ℕ) → (names_table a t && is_about a r) ≡ false → has (rows_back a t now) r ≡ has now r
rows_left (BulkAdd table rows ks) t now r apart = chosen (bytes_eq table t) rows (without rows now) now r (out_removed rows now r) apart
rows_left (BulkUpdate table rows ks) t now r apart = refl
rows_left (BulkRemove table rows) t now r apart = chosen (bytes_eq table t) rows (insert_rows rows now) now r (out_added rows now r) apart
rows_left (AddTable table row columns) t now r apart = refl
rows_left (RemoveTable table) t now r apart = refl
rows_left (RenameTable table new) t now r apart = refl
rows_left (AddColumn table d) t now r apart = refl
rows_left (RemoveColumn table column) t now r apart = refl
rows_left (RenameColumn table column new) t now r apart = refl
rows_left (ModifyColumn table column info) t now r apart = refl

ascending_if : (b : Bool) (xs ys : List ℕ) → IsAscending xs → IsAscending ys → IsAscending (cond b xs ys)
ascending_if true xs ys h k = h
ascending_if false xs ys h k = k

rows_ascend : (a : DocAction) (t : List ℕ) (now : List ℕ) → IsAscending now → IsAscending (rows_back a t now)
rows_ascend (BulkAdd table rows ks) t now up = ascending_if (bytes_eq table t) (without rows now) now (IsAscending-filter (λ q. not (has rows q)) now up) up
rows_ascend (BulkUpdate table rows ks) t now up = up
rows_ascend (BulkRemove table rows) t now up = ascending_if (bytes_eq table t) (insert_rows rows now) now (IsAscending-insert_rows rows now up) up
rows_ascend (AddTable table row columns) t now up = up
rows_ascend (RemoveTable table) t now up = up
rows_ascend (RenameTable table new) t now up = up
rows_ascend (AddColumn table d) t now up = up
rows_ascend (RemoveColumn table column) t now up = up
rows_ascend (RenameColumn table column new) t now up = up
rows_ascend (ModifyColumn table column info) t now up = up

-- ---- cells that no step tells of

held_nowhere : (cs : List CellOld) (t c : List ℕ) (r : ℕ) → list_any (is_in_row t r) cs ≡ false → held_before cs t c r ≡ None
held_nowhere [] t c r apart = refl
held_nowhere (o ∷ cs) t c r apart =
    let two : (is_in_row t r o ≡ false) × (list_any (is_in_row t r) cs ≡ false) = or_parts (is_in_row t r o) (list_any (is_in_row t r) cs) apart in
    ap (λ b. option_map (λ (q : CellOld). q.old) (cond (b && bytes_eq o.cell.column c) (Some o) (find (λ (q : CellOld). is_in_row t r q && bytes_eq q.cell.column c) cs))) two.0
    ∙ held_nowhere cs t c r two.1

-- steps that are about no row of a table are about no row
table_row : (cs : List CellOld) (t : List ℕ) (r : ℕ) → list_any (λ (o : CellOld). bytes_eq o.cell.table t) cs ≡ false → list_any (is_in_row t r) cs ≡ false
table_row [] t r apart = refl
table_row (o ∷ cs) t r apart =
    let two : (bytes_eq o.cell.table t ≡ false) × (list_any (λ (o : CellOld). bytes_eq o.cell.table t) cs ≡ false) = or_parts (bytes_eq o.cell.table t) (list_any (λ (o : CellOld). bytes_eq o.cell.table t) cs) apart in
    ap (λ b. (b && nat_eq o.cell.row r) || list_any (is_in_row t r) cs) two.0 ∙ table_row cs t r two.1

-- ---- all steps

rows_kept : (ks : List Step) (t now : List ℕ) (r : ℕ) → is_row_of ks t r ≡ false → has (all_rows_back ks t now) r ≡ has now r
rows_kept [] t now r apart = refl
rows_kept (k ∷ ks) t now r apart =
    let two : (is_row_in k t r ≡ false) × (is_row_of ks t r ≡ false) = or_parts (is_row_in k t r) (is_row_of ks t r) apart in
    let one : ((names_table k.action t && is_about k.action r) ≡ false) × (list_any (is_in_row t r) k.cells ≡ false)
    = or_parts (names_table k.action t && is_about k.action r) (list_any (is_in_row t r) k.cells) two.0 in
    rows_left k.action t (all_rows_back ks t now) r one.0 ∙ rows_kept ks t now r two.1

none_held : (ks : List Step) (t c : List ℕ) (r : ℕ) → is_row_of ks t r ≡ false → first_held ks t c r ≡ None
none_held [] t c r apart = refl
none_held (k ∷ ks) t c r apart =
    let two : (is_row_in k t r ≡ false) × (is_row_of ks t r ≡ false) = or_parts (is_row_in k t r) (is_row_of ks t r) apart in
    let one : ((names_table k.action t && is_about k.action r) ≡ false) × (list_any (is_in_row t r) k.cells ≡ false)
    = or_parts (names_table k.action t && is_about k.action r) (list_any (is_in_row t r) k.cells) two.0 in
    ap (λ o. or_else o (first_held ks t c r)) (held_nowhere k.cells t c r one.1) ∙ none_held ks t c r two.1

pub all_ascend : (ks : List Step) (t now : List ℕ) → IsAscending now → IsAscending (all_rows_back ks t now)
all_ascend [] t now up = up
all_ascend (k ∷ ks) t now up = rows_ascend k.action t (all_rows_back ks t now) (all_ascend ks t now up)

-- ---- one table

module _ (ks : List Step) (t : List ℕ) (g : Grid ColDef) (is : IsGrid column_id g) where
  abbrev was : ColDef → ℕ → CellValue
  was d r = unwrap_or (first_held ks t d.id r) (cell column_id g d.id r)

  pub IsGrid-back : IsGrid column_id (grid_back ks t g)
  IsGrid-back = IsGrid-grid_of column_id g.columns (all_rows_back ks t g.rows) was is.distinct (all_ascend ks t g.rows is.ascending)

  row_kept : (r : ℕ) → is_row_of ks t r ≡ false → (d : ColDef) → find_id column_id d.id g.columns ≡ Some d → has (all_rows_back ks t g.rows) r ≡ true
      → cell column_id (grid_back ks t g) d.id r ≡ cell column_id g d.id r
  row_kept r apart d found here =
      cell-grid_of column_id g.columns (all_rows_back ks t g.rows) was d r found here
      ∙ ap (λ o. unwrap_or o (cell column_id g d.id r)) (none_held ks t d.id r apart)

-- ---- the document

named_back : (ks : List Step) (c : List ℕ) (o : Option Table) → ((t : Table) → o ≡ Some t → t.id ≡ c)
    → option_map (λ (t : Table). on_grid (grid_back ks t.id) t) o ≡ option_map (on_grid (grid_back ks c)) o
named_back ks c None named = refl
named_back ks c (Some t) named = ap (λ n. let o : Option Table = Some (on_grid (grid_back ks n) t) in o) (named t refl)

pub find-back : (ks : List Step) (s : Document) (c : List ℕ) → find_id table_id c (back ks s) ≡ option_map (on_grid (grid_back ks c)) (find_id table_id c s)
find-back ks s c =
    find-mapped table_id table_id (λ (t : Table). on_grid (grid_back ks t.id) t) (λ t. refl) c s
    ∙ named_back ks c (find_id table_id c s) (λ t found. found_id table_id c s t found)

distinct_back : (ks : List Step) (s : Document) → AreDistinct table_id s → AreDistinct table_id (back ks s)
distinct_back ks [] d = tt
distinct_back ks (t ∷ s) d = (each_mapped (λ (u : Table). bytes_eq t.id u.id ≡ false) (λ (u : Table). on_grid (grid_back ks u.id) u) s d.0, distinct_back ks s d.1)

pub IsLaidOut-back : (ks : List Step) (s : Document) → IsLaidOut s → IsLaidOut (back ks s)
IsLaidOut-back ks s laid = record {
  distinct = distinct_back ks s laid.distinct;
  grids = each_mapped (λ (t : Table). IsGrid column_id t.grid) (λ (t : Table). on_grid (grid_back ks t.id) t) s
      (each_weaker (λ (t : Table). IsGrid column_id t.grid) (λ (t : Table). IsGrid column_id (grid_back ks t.id t.grid)) (λ t is. IsGrid-back ks t.id t.grid is) s laid.grids);
  names = each_mapped (λ (t : Table). (is_metadata_id t.id || has_names t) ≡ true) (λ (t : Table). on_grid (grid_back ks t.id) t) s laid.names;
}

-- ---- all other rows stay

row_back : (ks : List Step) (c : List ℕ) (r : ℕ) (o : Option Table) → ((t : Table) → o ≡ Some t → IsGrid column_id t.grid) → is_row_of ks c r ≡ false → Both (AreSameTables r) (option_map (on_grid (grid_back ks c)) o) o
row_back ks c r None is apart = tt
row_back ks c r (Some t) is apart = record {
  columns = refl;
  rows = rows_kept ks c t.grid.rows r apart;
  cells = λ d found here. row_kept ks c t.grid (is t refl) r apart d found here;
}

-- steps that are not about a table are about none of its rows
in_row : (k : Step) (t : List ℕ) (r : ℕ) → is_table_in k t ≡ false → is_row_in k t r ≡ false
in_row k t r apart =
    let two : (names_table k.action t ≡ false) × (list_any (λ (o : CellOld). bytes_eq o.cell.table t) k.cells ≡ false) = or_parts (names_table k.action t) (list_any (λ (o : CellOld). bytes_eq o.cell.table t) k.cells) apart in
    ap (λ b. (b && is_about k.action r) || list_any (is_in_row t r) k.cells) two.0 ∙ table_row k.cells t r two.1

of_row : (ks : List Step) (t : List ℕ) (r : ℕ) → is_table_of ks t ≡ false → is_row_of ks t r ≡ false
of_row [] t r apart = refl
of_row (k ∷ ks) t r apart =
    let two : (is_table_in k t ≡ false) × (is_table_of ks t ≡ false) = or_parts (is_table_in k t) (is_table_of ks t) apart in
    ap (λ b. b || is_row_of ks t r) (in_row k t r two.0) ∙ of_row ks t r two.1

-- steps leave all rows but those that they are about
pub steps_leave : (ks : List Step) (s : Document) → IsLaidOut s → AreSameBut (is_table_of ks) (is_row_of ks) (back ks s) s
steps_leave ks s laid = record {
  others = λ c r apart. of_row ks c r apart;
  rows = λ c r past apart.
      subst (λ o. Both (AreSameTables r) o (find_id table_id c s)) (sym (find-back ks s c))
      (row_back ks c r (find_id table_id c s) (λ t found. found_all table_id (λ (t : Table). IsGrid column_id t.grid) c s t laid.grids found) apart);
}
