-- Formula columns that are listed, and what attempts at their cells tell.
use Rattle.std.proofs.Common.{ℕ, ◌+◌, ◌≤◌, List, [], ◌∷◌, ◌++◌, length, slice_get, zero, suc, cond, ◌≡◌, refl, sym, ap, ◌∙◌, subst, Option, None, Some, Bool, true, false, Result, Ok, Err, OnOk, arith}
use Rattle.std.specs.List.{AllByRecursion, AllZip}
use Rattle.std.specs.Option.{option_map}
use Rattle.cell_types.specs.declared.cell.CellId.{CellId}
use Rattle.cell_types.specs.declared.column_type.ColType.{ColType}
use Rattle.cell_types.specs.declared.value.CellValue.{CellValue}
use Rattle.doc_model.specs.ByIds.{AreDistinct, find_id}
use Rattle.doc_model.specs.Column.{column_id}
use Rattle.doc_model.specs.declared.column.ColDef.{ColDef}
use Rattle.doc_model.specs.Document.{Document, Table, table_id}
use Rattle.doc_model.specs.DocumentLaws.{IsWhole}
use Rattle.doc_model.specs.Grid.{Grid}
use Rattle.doc_model.specs.Schema.{no_grid}
use Rattle.doc_model.specs.Sound.{IsSoundGrid}
use Rattle.doc_readers.specs.Parts.{grid_at}
use Rattle.formula_eval.specs.Attempted.{value_of}
use Rattle.formula_eval.specs.declared.note.Note.{Note}
use Rattle.formula_eval.specs.Eval.{evaluated as run_in}
use Rattle.formula_eval.specs.OfText.{evaluated_some, evaluated_text}
use Rattle.formula_eval.specs.Reader.{cell_at}
use Rattle.formula_eval.specs.Run.{Run}
use Rattle.formula_parse.specs.FormulaOf.{formula_of}
use Rattle.par_recalc.specs.Attempts.{IsCellAttempt, IsFound, run_at}
use Rattle.par_recalc.specs.declared.plan.ColumnFormula.{ColumnFormula}
use Rattle.par_recalc.specs.declared.running.CellAttempt.{CellAttempt}
use Rattle.par_recalc.specs.declared.running.Found.TheVariants.{Value}
use Rattle.recalc.specs.declared.kept.KeptTable.{KeptTable}
use Rattle.recalc.specs.Cells.{same_cell}
use Rattle.recalc.specs.Evaluated.{formula_at, formula_in, sheet_of}
use Rattle.recalc.specs.Kept.{IsKeptOf, IsSettled, held_at}
use Rattle.recalc.specs.Sheet.{Values, evaluated, fit_in, over, row_of, run_of}
use Rattle.recalc.specs.Stack.{IsOpen, IsSound}
use Rattle.recalc.proofs.SheetLemmas.{is_sheet}
use Rattle.recalc.proofs.Turn.{attempt_value}
use Rattle.recalc.proofs.Turns.{put_stays, turn_value}
use Rattle.recalc.proofs.WholeLemmas.{grid_there}
use Rattle.affected_cells.specs.Noted.{notes}
use Rattle.known_reads.specs.Attempts.{due}
use Rattle.known_reads.specs.Beside.{Beside}
use Rattle.known_reads.specs.Listed.{IsListedAs, WasTried}
use Rattle.known_reads.specs.Recorded.{IsNotedOf}
use Rattle.known_reads.specs.Walked.{IsWalked}
use Rattle.known_reads.proofs.BoundLemmas.{put_spent}
use Rattle.known_reads.proofs.RecordedLemmas.{notes_told, recording_put}

-- ---- lists

-- what holds of each holds at each place
pub all_at : {X : Type 0} (P : X → Type 0) (xs : List X) (i : ℕ) (x : X) → AllByRecursion P xs → slice_get xs i ≡ Some x → P x
all_at P [] zero x a h = absurd (cc)
all_at P [] (suc i) x a h = absurd (cc)
all_at P (y ∷ ys) zero x a h = let same : y ≡ x = cc in subst P same a.0
all_at P (y ∷ ys) (suc i) x a h = all_at P ys i x a.1 h

-- what holds holds where an answer is none of want
pub on_ok : {A E : Type 0} (r : Result A E) (P : Type 0) → P → OnOk r P
on_ok (Ok x) P p = p
on_ok (Err e) P p = tt

-- and of one more
pub all_last : {X : Type 0} (P : X → Type 0) (xs : List X) (x : X) → AllByRecursion P xs → P x → AllByRecursion P (xs ++ x ∷ [])
all_last P [] x a p = (p, tt)
all_last P (y ∷ ys) x a p = (a.0, all_last P ys x a.1 p)

-- the columns of the table at a place have ids of their own
pub distinct_columns : (s : Document) → IsWhole s → (i : ℕ) (t : Table) → slice_get s i ≡ Some t → (id : List ℕ) → id ≡ t.id → AreDistinct column_id (grid_at s id).columns
distinct_columns s whole i t here id same =
    subst (λ n. AreDistinct column_id (grid_at s n).columns) (sym same)
    (subst (λ (g : Grid ColDef). AreDistinct column_id g.columns) (sym (grid_there s whole i t here)) (all_at (λ (t : Table). IsSoundGrid t.grid) s i t whole.sound.grids here).is_grid.distinct)

-- ---- a listed column

no_column : (d : ColDef) → None ≡ Some d → ⊥
no_column d e = cc

cond_text : (b : Bool) (x f : List ℕ) → cond b (Some x) None ≡ Some f → f ≡ x
cond_text true x f e = cc
cond_text false x f e = absurd (cc)

-- its type
pub kind_listed : (s : Document) (t c : List ℕ) (d : ColDef) → find_id column_id c (grid_at s t).columns ≡ Some d → (sheet_of s).kind t c ≡ Some d.info.ty
kind_listed s t c d there =
    elim (find_id table_id t s) as (λ o. find_id column_id c (elim o as (λ _. Grid ColDef) [ None ↦ no_grid | Some t ↦ t.grid ]).columns ≡ Some d
    → option_map (λ (d : ColDef). d.info.ty) (elim o as (λ _. Option ColDef) [ None ↦ None | Some t ↦ find_id column_id c t.grid.columns ]) ≡ Some d.info.ty) [
      | None ↦ λ h. absurd (no_column d h)
      | Some t ↦ λ h. ap (option_map (λ (d : ColDef). d.info.ty)) h
    ] there

in_grid : (g : Grid ColDef) (c : List ℕ) (r : ℕ) (d : ColDef) → find_id column_id c g.columns ≡ Some d → (f : List ℕ)
    → elim (find_id column_id c g.columns) as (λ _. Option (List ℕ)) [ None ↦ None | Some d ↦ formula_in g r d ] ≡ Some f → f ≡ d.info.formula
in_grid g c r d h f e =
    cond_text _ d.info.formula f (sym (ap (λ o. elim o as (λ _. Option (List ℕ)) [ None ↦ None | Some d ↦ formula_in g r d ]) h) ∙ e)

-- the text of a formula in it
pub text_listed : (s : Document) (t c : List ℕ) (r : ℕ) (d : ColDef) → find_id column_id c (grid_at s t).columns ≡ Some d → (f : List ℕ) → formula_at s (cell_at t c r) ≡ Some f → f ≡ d.info.formula
text_listed s t c r d there f e =
    elim (find_id table_id t s) as (λ o. find_id column_id c (elim o as (λ _. Grid ColDef) [ None ↦ no_grid | Some t ↦ t.grid ]).columns ≡ Some d
    → elim o as (λ _. Option (List ℕ)) [ None ↦ None | Some t ↦ elim (find_id column_id c t.grid.columns) as (λ _. Option (List ℕ)) [ None ↦ None | Some d ↦ formula_in t.grid r d ] ] ≡ Some f → f ≡ d.info.formula) [
      | None ↦ λ h. absurd (no_column d h)
      | Some t ↦ λ h e. in_grid t.grid c r d h f e
    ] there e

-- ---- an attempt at a cell of it

module _ (s : Document) (ty : ColType) (a : CellAttempt) (w : WasTried s ty a) (f : List ℕ) (there : formula_at s a.cell ≡ Some f) (v : CellValue) (l : List Note) (is : a.found ≡ Value v l) where
  found_value : IsFound (over (sheet_of s) w.before) (run_at (over (sheet_of s) w.before) w.column w.row) (Value v l)
  found_value = subst (IsFound (over (sheet_of s) w.before) (run_at (over (sheet_of s) w.before) w.column w.row)) is w.tried.1

  text : f ≡ w.listed.0.info.formula
  text = text_listed s w.column.table w.column.column w.row w.listed.0 w.listed.1 f (sym (ap (formula_at s) w.tried.0) ∙ there)

  same_run : run_of (over (sheet_of s) w.before) a.cell f ≡ run_at (over (sheet_of s) w.before) w.column w.row
  unfolding evaluated_text
  same_run =
      ap (evaluated_some (over (sheet_of s) w.before) (row_of a.cell)) (ap formula_of text ∙ w.listed.2)
      ∙ ap (λ (c : CellId). run_in (over (sheet_of s) w.before) (row_of c) w.column.formula) w.tried.0

  -- the value of the cell, once it is fitted
  pub value_tried : evaluated (sheet_of s) a.cell ≡ fit_in (Some ty) v
  value_tried =
      attempt_value (sheet_of s) (is_sheet s) w.before w.right a.cell f v there (ap (λ (r : Run CellValue). value_of r.out) same_run ∙ found_value.0)
      ∙ ap (λ o. fit_in o v) (ap (λ (c : CellId). (sheet_of s).kind c.table c.column) w.tried.0 ∙ kind_listed s w.column.table w.column.column w.listed.0 w.listed.1 ∙ ap (λ k. Some k) w.listed.3)

  -- what it notes
  pub notes_tried : notes (sheet_of s) a.cell ≡ l
  notes_tried =
      notes_told (sheet_of s) (is_sheet s) w.before w.right a.cell f v there (ap (λ (r : Run CellValue). value_of r.out) same_run ∙ found_value.0)
      ∙ ap (λ (r : Run CellValue). r.notes) same_run ∙ found_value.1

-- the attempts at the cells of a column
pub were_tried : (s : Document) (ty : ColType) (f : ColumnFormula) → IsListedAs s ty f → (k : Values) → IsSound (sheet_of s) k → (rows : List ℕ) (xs : List CellAttempt)
    → AllZip (IsCellAttempt (over (sheet_of s) k) f) rows xs → AllByRecursion (WasTried s ty) xs
were_tried s ty f listed k right [] [] a = tt
were_tried s ty f listed k right [] (x ∷ xs) a = absurd a
were_tried s ty f listed k right (r ∷ rows) [] a = absurd a
were_tried s ty f listed k right (r ∷ rows) (x ∷ xs) a =
    (record { column = f; listed = listed; before = k; right = right; row = r; tried = a.0 }, were_tried s ty f listed k right rows xs a.1)

-- ---- a value that is put

module _ (s : Document) (ks ls : List KeptTable) (settled : IsSettled s ks) (cell : CellId) (opened : IsOpen (sheet_of s) (held_at s ks) cell) (v : CellValue) (value : evaluated (sheet_of s) cell ≡ v)
    (kept : IsKeptOf s ls) (puts : (c : CellId) → held_at s ls c ≡ cond (same_cell cell c) (Some v) (held_at s ks c)) where
  pub walked_put : (old new : Beside) → IsNotedOf old new (sheet_of s) cell → new.stale ≡ old.stale → new.owed ≡ old.owed → (n m : ℕ) → m ≤ n + 1 → IsWalked s ks old n ls new m
  walked_put old new noted list owed n m step =
      let turn = turn_value (sheet_of s) (is_sheet s) (held_at s ks) (cell ∷ []) [] cell refl (record { sound = settled.sound; each_open = (opened, refl, tt); chain = tt }) v (held_at s ls) value puts in
      let same = ap length list in
      let spent = put_spent (sheet_of s) (held_at s ks) (held_at s ls) cell v puts opened [] (cell ∷ []) refl (opened, refl, tt) tt (due n old) (due m new) (omega (arith, step, same)) in
      record {
        further = record { settled = record { of_document = kept; sound = turn.working.sound }; stays = put_stays (held_at s ks) (held_at s ls) cell v puts };
        recording = recording_put s (held_at s ks) (held_at s ls) old new cell v puts noted;
        attempts = record { twice = spent.twice; named = spent.named };
        owed = owed;
      }
