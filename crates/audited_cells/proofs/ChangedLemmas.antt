-- What a changed record holds, by what the view tells.
use Rattle.std.proofs.Common.{◌≡◌, ◌∙◌, ap, refl, sym, ℕ, Bool, true, false, cond, List, [], ◌∷◌, map, Option, Some, None, bytes_eq, unwrap_or}
use Rattle.std.specs.Option.{option_map}
use Rattle.std.proofs.lemmas.Slice.Eq.{bytes_eq-Decides}
use Rattle.cell_types.specs.Conversion.{fit}
use Rattle.cell_types.specs.declared.column_type.ColType.{ColType}
use Rattle.cell_types.specs.declared.column_type.ColType.TheVariants as type
use Rattle.cell_types.specs.declared.value.CellValue.{CellValue}
use Rattle.doc_model.specs.declared.action.DocAction.{DocAction}
use Rattle.doc_model.specs.declared.action.DocAction.TheVariants.{BulkUpdate}
use Rattle.doc_model.specs.declared.column.ColDef.{ColDef}
use Rattle.doc_model.specs.declared.user_action.UserColumn.{UserColumn}
use Rattle.doc_model.specs.declared.view.ViewTable.{ViewTable}
use Rattle.doc_model.specs.Apply.{apply}
use Rattle.doc_model.specs.ByIds.{find_id, has_id}
use Rattle.doc_model.specs.Changes.{grid}
use Rattle.doc_model.specs.Column.{column_id}
use Rattle.doc_model.specs.Document.{Document, Table, on_grid, table_id}
use Rattle.doc_model.specs.Grid.{Grid, cell}
use Rattle.doc_model.specs.Readers.{cell_at}
use Rattle.doc_model.specs.Records.{given, or_else, update_rows, value_for}
use Rattle.doc_model.specs.Rows.{has}
use Rattle.doc_model.specs.Valid.{valid}
use Rattle.doc_model.specs.ViewEdits.{shown_id}
use Rattle.doc_model.proofs.ByIdsLaws.{bytes_itself, found_id}
use Rattle.doc_model.proofs.ByRowLaws.{find-with_id}
use Rattle.doc_model.proofs.Choices.{cond_true}
use Rattle.doc_model.proofs.DocumentParts.{applied}
use Rattle.doc_model.proofs.GridLaws.{cell-grid_of}
use Rattle.doc_readers.specs.Parts.{grid_at}
use Rattle.acl_formula.specs.declared.permissions.Perm.TheVariants as perm
use Rattle.acl_rules.specs.declared.decision.Ctx.{Ctx}
use Rattle.recalc.specs.Evaluated.{filled, value_of}
use Rattle.recalc.proofs.WatchedCells.{grid_filled, told_data}
use Rattle.user_actions.specs.Steps.{all_fitted, fitted, type_in}
use Rattle.rule_audit.specs.Open.{open_columns}
use Rattle.rule_audit.specs.Reached.{is_column_safe}
use Rattle.rule_audit.specs.SeenLaws.{IsSeen}
use Rattle.rule_audit.proofs.SeenLemmas.{seen_rows}
use Rattle.audited_checks.proofs.AlikeLemmas.{among_open, shown_cell}
use Rattle.audited_cells.specs.CellLaws.{ChangedCellsLaw}
use Rattle.audited_cells.proofs.ColumnLemmas.{ColumnHere, column_here, grid_here, told_type, view_type}

-- ---- given values

-- the last value given to a column of this type
abbrev pub given_as : ColType → List ℕ → List UserColumn → List ℕ → ℕ → Option CellValue
given_as ty rows [] c r = None
given_as ty rows (k ∷ ks) c r = or_else (given_as ty rows ks c r) (cond (bytes_eq k.id c) (value_for rows (map (fit ty) k.values) r) None)

module _ (g : Grid ColDef) (ty : ColType) (rows : List ℕ) (c : List ℕ) (r : ℕ) (is : type_in g c ≡ ty) where
  of_column : (k : UserColumn) (b : Bool) → bytes_eq k.id c ≡ b → cond b (value_for rows (map (fit (type_in g k.id)) k.values) r) None ≡ cond b (value_for rows (map (fit ty) k.values) r) None
  of_column k true same = ap (λ (t : ColType). value_for rows (map (fit t) k.values) r) (ap (type_in g) ((bytes_eq-Decides k.id c).0 same) ∙ is)
  of_column k false apart = refl

  pub given_fitted : (ks : List UserColumn) → given rows (map (fitted g) ks) c r ≡ given_as ty rows ks c r
  given_fitted [] = refl
  given_fitted (k ∷ ks) =
      ap (λ (o : Option CellValue). or_else o (cond (bytes_eq k.id c) (value_for rows (map (fit (type_in g k.id)) k.values) r) None)) (given_fitted ks)
      ∙ ap (or_else (given_as ty rows ks c r)) (of_column k (bytes_eq k.id c) refl)

-- the type of the column that values are fitted to
pub type_is : (s : Document) (v : ViewTable) (c : List ℕ) (col : ColumnHere s v c) → type_in (grid_at s v.id) c ≡ view_type v c
type_is s v c col =
    ap (λ (g : Grid ColDef). type_in g c) (grid_here s v.id col.table col.at)
    ∙ ap (λ (o : Option ColDef). elim o as (λ (o : Option ColDef). ColType) [ None ↦ type.Any | Some d ↦ d.info.ty ]) col.there
    ∙ told_type s v c col

inside : (a b : CellValue) → ◌≡◌ {A = Option CellValue} (Some a) (Some b) → a ≡ b
inside a b e = cc

-- ---- in one document

module _ (x : Ctx) (s : Document) (v : ViewTable) (seen : IsSeen x (filled s) v) (rows : List ℕ) (ks : List UserColumn)
    (ok : valid s (BulkUpdate v.id rows (all_fitted s v.id ks)) ≡ true) (r : ℕ) (here : has v.rows r ≡ true)
    (c : List ℕ) (safe : is_column_safe perm.U (open_columns x v) c ≡ true) where
  abbrev written : DocAction
  written = BulkUpdate v.id rows (all_fitted s v.id ks)

  abbrev changes : Table → Table
  changes = on_grid (update_rows column_id rows (all_fitted s v.id ks))

  col : ColumnHere s v c
  col = column_here x s v seen c safe

  opened : has_id shown_id (open_columns x v) c ≡ true
  opened = among_open perm.U c (open_columns x v) safe

  in_table : has col.table.grid.rows r ≡ true
  in_table =
      ap (λ (g : Grid ColDef). has g.rows r) (sym (grid_filled (value_of s) s col.table v.id col.at))
      ∙ sym (seen_rows x (filled s) v c r seen opened) ∙ here

  name : col.column.id ≡ c
  name = found_id column_id c col.table.grid.columns col.column col.there

  before : cell column_id col.table.grid c r ≡ cell shown_id (grid v) c r
  before =
      inside (cell column_id col.table.grid c r) (cell shown_id (grid v) c r)
      (sym (told_data (value_of s) s col.table col.column v.id c r col.at name col.there in_table col.no_formula)
      ∙ shown_cell x v c r here opened (filled s) seen)

  after_at : find_id table_id v.id (apply s written) ≡ Some (changes col.table)
  after_at =
      ap (find_id table_id v.id) (applied s written ok)
      ∙ find-with_id table_id v.id changes (λ t. refl) s v.id
      ∙ cond_true (bytes_eq v.id v.id) (option_map changes (find_id table_id v.id s)) (find_id table_id v.id s) (bytes_itself v.id)
      ∙ ap (option_map changes) col.at

  held : cell column_id (changes col.table).grid c r ≡ unwrap_or (given_as (view_type v c) rows ks c r) (cell shown_id (grid v) c r)
  held =
      ap (λ n. cell column_id (changes col.table).grid n r) (sym name)
      ∙ cell-grid_of column_id col.table.grid.columns col.table.grid.rows (λ (d : ColDef) q. unwrap_or (given rows (all_fitted s v.id ks) d.id q) (cell column_id col.table.grid d.id q)) col.column r (ap (λ n. find_id column_id n col.table.grid.columns) name ∙ col.there) in_table
      ∙ ap (λ n. unwrap_or (given rows (all_fitted s v.id ks) n r) (cell column_id col.table.grid n r)) name
      ∙ ap (λ (o : Option CellValue). unwrap_or o (cell column_id col.table.grid c r)) (given_fitted (grid_at s v.id) (view_type v c) rows c r (type_is s v c col) ks)
      ∙ ap (unwrap_or (given_as (view_type v c) rows ks c r)) before

  -- all of it is told by the view and the request
  after : cell_at (filled (apply s written)) v.id c r ≡ Some (unwrap_or (given_as (view_type v c) rows ks c r) (cell shown_id (grid v) c r))
  after =
      told_data (value_of (apply s written)) (apply s written) (changes col.table) col.column v.id c r after_at name col.there in_table col.no_formula
      ∙ ap (λ (w : CellValue). let o : Option CellValue = Some w in o) held

pub changed_cells : ChangedCellsLaw
changed_cells x s t v rows ks r seen other ok ok_too here = record {
  ids = λ h. refl;
  cells = λ c safe. after x s v seen rows ks ok r here c safe ∙ sym (after x t v other rows ks ok_too r here c safe);
}
