-- Tables that record actions and their steps are not about stay.
use Rattle.std.proofs.Common.{ℕ, true, false, cond, nat_eq, ◌&&◌, List, [], ◌∷◌, ◌≡◌, refl, sym, ap, ◌∙◌, Some, None, option_map, find}
use Rattle.std.proofs.lemmas.Bool.{or_parts}
use Rattle.std.specs.List.{list_any}
use Rattle.std.specs.Str.{bytes_eq}
use Rattle.cell_types.specs.declared.cell.CellOld.{CellOld}
use Rattle.doc_model.specs.declared.action.DocAction.{DocAction}
use Rattle.doc_model.specs.declared.action.DocAction.TheVariants.{BulkAdd, BulkUpdate, BulkRemove, AddTable, RemoveTable, RenameTable, AddColumn, RemoveColumn, RenameColumn, ModifyColumn}
use Rattle.doc_model.specs.declared.column.ColDef.{ColDef}
use Rattle.doc_model.specs.Apply.{apply, effect}
use Rattle.doc_model.specs.ByIds.{find_id}
use Rattle.doc_model.specs.Column.{column_id, start_of}
use Rattle.doc_model.specs.Document.{Document, on_grid, table_id, with_table}
use Rattle.doc_model.specs.Grid.{Grid, IsGrid}
use Rattle.doc_model.specs.Records.{add_rows, remove_rows, update_rows}
use Rattle.doc_model.specs.Rows.{insert_rows, without}
use Rattle.doc_model.specs.Touched.{names_table}
use Rattle.doc_model.specs.Valid.{valid}
use Rattle.doc_model.proofs.ByRowLaws.{find-with_id}
use Rattle.doc_model.proofs.Choices.{cond_false, cond_true}
use Rattle.doc_model.proofs.GridLaws.{same_grid}
use Rattle.action_censor.specs.Back.{IsStepOf, held_before, rows_back}
use Rattle.action_censor.specs.Step.{Step, is_in_row, is_of_records, is_table_in}

-- ---- base cells

other_table : (s : Document) (table : List ℕ) (f : Grid ColDef → Grid ColDef) (t : List ℕ) → bytes_eq table t ≡ false → find_id table_id t (with_table table (on_grid f) s) ≡ find_id table_id t s
other_table s table f t apart = find-with_id table_id table (on_grid f) (λ u. refl) s t ∙ cond_false (bytes_eq table t) (option_map (on_grid f) (find_id table_id t s)) (find_id table_id t s) apart

effect_leaves : (s : Document) (a : DocAction) → is_of_records a ≡ true → (t : List ℕ) → names_table a t ≡ false → find_id table_id t (effect s a) ≡ find_id table_id t s
effect_leaves s (BulkAdd table rows ks) is t apart = other_table s table (add_rows column_id start_of rows ks) t apart
effect_leaves s (BulkUpdate table rows ks) is t apart = other_table s table (update_rows column_id rows ks) t apart
effect_leaves s (BulkRemove table rows) is t apart = other_table s table (remove_rows column_id rows) t apart
effect_leaves s (AddTable table row columns) is t apart = absurd (cc)
effect_leaves s (RemoveTable table) is t apart = absurd (cc)
effect_leaves s (RenameTable table new) is t apart = absurd (cc)
effect_leaves s (AddColumn table d) is t apart = absurd (cc)
effect_leaves s (RemoveColumn table column) is t apart = absurd (cc)
effect_leaves s (RenameColumn table column new) is t apart = absurd (cc)
effect_leaves s (ModifyColumn table column info) is t apart = absurd (cc)

pub base_stays : (s : Document) (a : DocAction) → valid s a ≡ true → is_of_records a ≡ true → (t : List ℕ) → names_table a t ≡ false → find_id table_id t (apply s a) ≡ find_id table_id t s
base_stays s a v is t apart = ap (find_id table_id t) (cond_true (valid s a) (effect s a) s v) ∙ effect_leaves s a is t apart

-- ---- evaluated cells

rows_stay : (a : DocAction) (t now : List ℕ) → names_table a t ≡ false → rows_back a t now ≡ now
rows_stay (BulkAdd table rows ks) t now apart = cond_false (bytes_eq table t) (without rows now) now apart
rows_stay (BulkUpdate table rows ks) t now apart = refl
rows_stay (BulkRemove table rows) t now apart = cond_false (bytes_eq table t) (insert_rows rows now) now apart
rows_stay (AddTable table row columns) t now apart = refl
rows_stay (RemoveTable table) t now apart = refl
rows_stay (RenameTable table new) t now apart = refl
rows_stay (AddColumn table d) t now apart = refl
rows_stay (RemoveColumn table column) t now apart = refl
rows_stay (RenameColumn table column new) t now apart = refl
rows_stay (ModifyColumn table column info) t now apart = refl

none_held : (cells : List CellOld) (t c : List ℕ) (r : ℕ) → list_any (λ (o : CellOld). bytes_eq o.cell.table t) cells ≡ false → held_before cells t c r ≡ None
none_held [] t c r apart = refl
none_held (o ∷ cells) t c r apart =
    let two : (bytes_eq o.cell.table t ≡ false) × (list_any (λ (o : CellOld). bytes_eq o.cell.table t) cells ≡ false) = or_parts (bytes_eq o.cell.table t) (list_any (λ (o : CellOld). bytes_eq o.cell.table t) cells) apart in
    ap (λ b. option_map (λ (q : CellOld). q.old) (cond ((b && nat_eq o.cell.row r) && bytes_eq o.cell.column c) (Some o) (find (λ (q : CellOld). is_in_row t r q && bytes_eq q.cell.column c) cells))) two.0
    ∙ none_held cells t c r two.1

pub table_stays : (k : Step) (t : List ℕ) (g h : Grid ColDef) → IsGrid column_id g → IsGrid column_id h → IsStepOf k t g h → is_table_in k t ≡ false → h ≡ g
table_stays k t g h is is' step apart =
    let two : (names_table k.action t ≡ false) × (list_any (λ (o : CellOld). bytes_eq o.cell.table t) k.cells ≡ false) = or_parts (names_table k.action t) (list_any (λ (o : CellOld). bytes_eq o.cell.table t) k.cells) apart in
    same_grid column_id g is h is' (sym step.columns) (sym (step.rows ∙ rows_stay k.action t h.rows two.0))
    (λ d r found here. sym (step.same d r found here (none_held k.cells t d.id r two.1)).1)
