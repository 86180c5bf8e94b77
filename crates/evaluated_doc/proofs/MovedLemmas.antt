-- Rows that come or go in a document of which values are kept.
use Rattle.std.proofs.Common.{ℕ, Bool, true, false, cond, ◌||◌, List, [], ◌∷◌, ◌≡◌, refl, sym, ap, ◌∙◌, subst, Option, Some, None}
use Rattle.std.specs.Option.{is_some}
use Rattle.std.specs.Str.{bytes_eq}
use Rattle.cell_types.specs.declared.cell.CellId.{CellId}
use Rattle.doc_model.specs.declared.action.DocAction.{DocAction}
use Rattle.doc_model.specs.declared.action.DocAction.TheVariants.{AddColumn, AddTable, BulkAdd, BulkRemove, BulkUpdate, ModifyColumn, RemoveColumn, RemoveTable, RenameColumn, RenameTable}
use Rattle.doc_model.specs.Apply.{apply}
use Rattle.doc_model.specs.declared.column.ColDef.{ColDef}
use Rattle.doc_model.specs.ByIds.{find_id}
use Rattle.doc_model.specs.Column.{column_id, start_of}
use Rattle.doc_model.specs.Document.{Document, Table, on_grid, table_id, with_table}
use Rattle.doc_model.specs.Grid.{Grid}
use Rattle.doc_model.specs.Records.{add_rows, remove_rows}
use Rattle.doc_model.specs.Rows.{without}
use Rattle.doc_model.specs.Schema.{no_grid}
use Rattle.doc_readers.specs.Parts.{grid_at}
use Rattle.doc_model.specs.Valid.{valid}
use Rattle.dep_graph.specs.Graph.{Graph}
use Rattle.dep_graph.specs.Named.{Were}
use Rattle.recalc.specs.declared.kept.KeptTable.{KeptTable}
use Rattle.recalc.specs.Current.{has_formula, has_formulas}
use Rattle.recalc.specs.Evaluated.{formula_at}
use Rattle.recalc.specs.Kept.{IsEvaluated}
use Rattle.recalc.specs.MayLose.{is_record}
use Rattle.recalc.specs.Stack.{on}
use Rattle.affected_values.specs.declared.relaying.LaidAside.{LaidAside}
use Rattle.affected_values.specs.declared.taking.HeldValue.{HeldValue}
use Rattle.affected_values.specs.Carried.{HasCellsOf, HasCellsWith, moved_rows, moved_table}
use Rattle.affected_values.specs.Relaid.{IsLaidAnew, IsMovedFrom}
use Rattle.affected_values.specs.RowsOver.{LeadsOverRowsLaw, RightLaidLaw}
use Rattle.affected_values.specs.Taken.{IsRightBut, LeadsBack}
use Rattle.affected_values.proofs.LaidLemmas.{moved_alike}
use Rattle.affected_values.proofs.RelaidLemmas.{IsAlikeBut}
use Rattle.known_reads.specs.Beside.{Beside, KnowsExact}
use Rattle.known_reads.specs.Moved.{ReadsOverLaw, ReadsSameAfter, RowsStayLaw}
use Rattle.known_reads.specs.Recorded.{KnowsBut}
use Rattle.known_reads.specs.Watched.{AreBefore}
use Rattle.known_reads.proofs.BesideLemmas.{read_same}
use Rattle.known_reads.proofs.MovedLemmas.{some_same}
use Rattle.evaluated_doc.specs.declared.moving.Moved.{Moved}
use Rattle.evaluated_doc.specs.Moved.{IsMoved, IsMoving, LeadsFromRows}

none_some : (x : List ℕ) → None ≡ Some x → ⊥
none_some x e = cc

-- such an action is one on records
pub moved_records : (a : DocAction) (t : List ℕ) → moved_table a ≡ Some t → is_record a ≡ true
moved_records (BulkAdd u rows ks) t h = refl
moved_records (BulkRemove u rows) t h = refl
moved_records (BulkUpdate u rows ks) t h = refl
moved_records (AddTable u r cs) t h = absurd (none_some t h)
moved_records (RemoveTable u) t h = absurd (none_some t h)
moved_records (RenameTable u n) t h = absurd (none_some t h)
moved_records (AddColumn u d) t h = absurd (none_some t h)
moved_records (RemoveColumn u c) t h = absurd (none_some t h)
moved_records (RenameColumn u c n) t h = absurd (none_some t h)
moved_records (ModifyColumn u c i) t h = absurd (none_some t h)

-- ---- columns, which stay

-- what is told of the grid of a table, where it is there
module _ {X : Type 0} (part : Grid ColDef → X) (none : X) where
  abbrev part_of : Option Table → X
  part_of None = none
  part_of (Some u) = part u.grid

  -- of a table whose grid is changed
  part_mapped : (t : List ℕ) (f : Grid ColDef → Grid ColDef) (R : X → X) → ((g : Grid ColDef) → part (f g) ≡ R (part g)) → R none ≡ none → (s : Document)
      → part_of (find_id table_id t (with_table t (on_grid f) s)) ≡ R (part_of (find_id table_id t s))
  part_mapped t f R h empty [] = sym empty
  part_mapped t f R h empty (x ∷ s) = by (part_mapped t f R h empty s) (bytes_eq x.id t) refl
    where
      by : part_of (find_id table_id t (with_table t (on_grid f) s)) ≡ R (part_of (find_id table_id t s)) → (b : Bool) → bytes_eq x.id t ≡ b
          → part_of (find_id table_id t (cond (bytes_eq x.id t) (on_grid f x) x ∷ with_table t (on_grid f) s)) ≡ R (part_of (cond (bytes_eq x.id t) (Some x) (find_id table_id t s)))
      by later true is =
          ap (λ b. part_of (find_id table_id t (cond b (on_grid f x) x ∷ with_table t (on_grid f) s))) is
          ∙ ap (λ b. part_of (cond b (Some (on_grid f x)) (find_id table_id t (with_table t (on_grid f) s)))) is
          ∙ h x.grid
          ∙ sym (ap (λ b. R (part_of (cond b (Some x) (find_id table_id t s)))) is)
      by later false is =
          ap (λ b. part_of (find_id table_id t (cond b (on_grid f x) x ∷ with_table t (on_grid f) s))) is
          ∙ ap (λ b. part_of (cond b (Some x) (find_id table_id t (with_table t (on_grid f) s)))) is
          ∙ later
          ∙ sym (ap (λ b. R (part_of (cond b (Some x) (find_id table_id t s)))) is)

  at_grid : (s : Document) (t : List ℕ) → part no_grid ≡ none → part (grid_at s t) ≡ part_of (find_id table_id t s)
  at_grid s t empty = by (find_id table_id t s)
    where
      by : (o : Option Table) → part (elim o as (λ _. Grid ColDef) [ None ↦ no_grid | Some u ↦ u.grid ]) ≡ part_of o
      by None = empty
      by (Some u) = refl

  -- over an action that is done to the grid of one table where it is valid
  part_moved : (s : Document) (a : DocAction) (t : List ℕ) (f : Grid ColDef → Grid ColDef) (R : X → X) → ((g : Grid ColDef) → part (f g) ≡ R (part g)) → R none ≡ none → part no_grid ≡ none
      → apply s a ≡ with_table t (on_grid f) s → part (grid_at (apply s a) t) ≡ R (part (grid_at s t))
  part_moved s a t f R h still empty done =
      at_grid (apply s a) t empty ∙ ap (λ d. part_of (find_id table_id t d)) done ∙ part_mapped t f R h still s ∙ sym (ap R (at_grid s t empty))

-- rows come or go under the columns that there were
pub columns_moved : (s : Document) (a : DocAction) (t : List ℕ) → valid s a ≡ true → moved_table a ≡ Some t → (grid_at (apply s a) t).columns ≡ (grid_at s t).columns
columns_moved s (BulkAdd u rows ks) t ok h =
    part_moved (λ (g : Grid ColDef). g.columns) [] s (BulkAdd u rows ks) t (add_rows column_id start_of rows ks) (λ cs. cs) (λ g. refl) refl refl
    (ap (λ b. cond b (with_table u (on_grid (add_rows column_id start_of rows ks)) s) s) ok ∙ ap (λ n. with_table n (on_grid (add_rows column_id start_of rows ks)) s) (some_same u t h))
columns_moved s (BulkRemove u rows) t ok h =
    part_moved (λ (g : Grid ColDef). g.columns) [] s (BulkRemove u rows) t (remove_rows column_id rows) (λ cs. cs) (λ g. refl) refl refl
    (ap (λ b. cond b (with_table u (on_grid (remove_rows column_id rows)) s) s) ok ∙ ap (λ n. with_table n (on_grid (remove_rows column_id rows)) s) (some_same u t h))
columns_moved s (BulkUpdate u rows ks) t ok h = absurd (none_some t h)
columns_moved s (AddTable u r cs) t ok h = absurd (none_some t h)
columns_moved s (RemoveTable u) t ok h = absurd (none_some t h)
columns_moved s (RenameTable u n) t ok h = absurd (none_some t h)
columns_moved s (AddColumn u d) t ok h = absurd (none_some t h)
columns_moved s (RemoveColumn u c) t ok h = absurd (none_some t h)
columns_moved s (RenameColumn u c n) t ok h = absurd (none_some t h)
columns_moved s (ModifyColumn u c i) t ok h = absurd (none_some t h)

-- rows that go leave the others
pub rows_removed : (s : Document) (u rows t : List ℕ) → valid s (BulkRemove u rows) ≡ true → Some u ≡ Some t → (grid_at (apply s (BulkRemove u rows)) t).rows ≡ without rows (grid_at s t).rows
rows_removed s u rows t ok h =
    part_moved (λ (g : Grid ColDef). g.rows) [] s (BulkRemove u rows) t (remove_rows column_id rows) (without rows) (λ g. refl) refl refl
    (ap (λ b. cond b (with_table u (on_grid (remove_rows column_id rows)) s) s) ok ∙ ap (λ n. with_table n (on_grid (remove_rows column_id rows)) s) (some_same u t h))

module _ (s next : Document) (a : DocAction) (t : List ℕ) (x : Moved) (ok : valid s a ≡ true) (moved : moved_table a ≡ Some t) (done : next ≡ apply s a) where
  columns_same : (grid_at s t).columns ≡ (grid_at next t).columns
  columns_same = sym (ap (λ d. (grid_at d t).columns) done ∙ columns_moved s a t ok moved)

  -- the graph is right of each cell but the found ones and those of the rows
  pub known_but : ReadsOverLaw → (known : Beside) (cells : List CellId) → IsMoved known.graph a s t x
      → ((c : CellId) → on x.noted.items c ≡ true → on cells c ≡ true) → HasCellsWith (grid_at next t).columns t (moved_rows a) cells → KnowsExact s known → KnowsBut next known cells
  known_but over known cells is stays has exact c fresh other =
      let same = subst (λ d. ReadsSameAfter s d cells) (sym done)
      (over s a t known.graph x.found cells moved ok is.keeps (λ c h. stays c (is.noted c h)) (has s columns_same) (subst (λ d. HasCellsOf d t (moved_rows a) cells) done (has next refl))) in
      read_same s next known.graph c (same.there c other) (λ there. same.same c there other) (exact.each c)

  -- but for the cells of the rows formula cells stay
  pub formulas_stay : RowsStayLaw → (cells : List CellId) → HasCellsWith (grid_at next t).columns t (moved_rows a) cells → (c : CellId) → on cells c ≡ false → is_some (formula_at next c) ≡ is_some (formula_at s c)
  formulas_stay law cells has c other =
      ap (λ d. is_some (formula_at d c)) done ∙ ap is_some (law s a t cells moved ok (has s columns_same) (subst (λ d. HasCellsOf d t (moved_rows a) cells) done (has next refl)) c other)

-- ---- rows that were put

module _ (s now : Document) (t rows : List ℕ) (kept : List KeptTable) (known : Beside) (x : Moved) (is : IsMoving s now t rows kept known x) where
  pub reads_but : ReadsOverLaw → (cells : List CellId) → ((c : CellId) → on x.noted.items c ≡ true → on cells c ≡ true) → HasCellsWith (grid_at now t).columns t rows cells → KnowsBut now known cells
  reads_but law cells stays has =
      known_but s now is.moved.action t x is.moved.ok is.moved.moved is.moved.done law known cells is.found stays (subst (λ rs. HasCellsWith (grid_at now t).columns t rs cells) (sym is.these) has) is.reads

  pub right_but : RightLaidLaw → (new : List KeptTable) (aside : LaidAside) (cells : List CellId) → IsLaidAnew s now t kept new aside → ((c : CellId) → on x.noted.items c ≡ true → on cells c ≡ true) → HasCellsWith (grid_at now t).columns t rows cells
      → IsRightBut now new cells
  right_but law new aside cells laid stays has =
      law s now t known.graph x.found cells kept new aside is.moved is.found.keeps (λ c h. stays c (is.found.noted c h)) (subst (λ rs. HasCellsOf now t rs cells) (sym is.these) (has now refl)) is.right laid

  -- what leads back
  pub leads_from : LeadsOverRowsLaw → RowsStayLaw → (laid new : List KeptTable) (aside : LaidAside) (taken : List HeldValue) (cells : List CellId) (log : List Were) → AreBefore now known cells log → HasCellsWith (grid_at now t).columns t rows cells
      → IsLaidAnew s now t kept laid aside → IsEvaluated now new → LeadsBack now taken new laid → LeadsFromRows s now taken aside log
  leads_from law stay laid new aside taken cells log leads_back has at right leads = record {
    moved = subst (IsMovedFrom s now) (sym at.table) is.moved;
    has_aside = at.has_aside;
    leads = law s now t taken kept laid new aside is.moved is.right at right leads;
    reads = leads_back s is.reads.each (formulas_stay s now is.moved.action t x is.moved.ok is.moved.moved is.moved.done stay cells (subst (λ rs. HasCellsWith (grid_at now t).columns t rs cells) (sym is.these) has));
  }

-- ---- the way back

-- where no column has a formula, none had
has_same : (id : List ℕ) (s n : Document) → IsAlikeBut id s n → has_formulas s ≡ has_formulas n
has_same id [] [] h = refl
has_same id (t ∷ s) (u ∷ n) h = λ i. has_formula (h.1 i) || has_same id s n h.3 i
has_same id [] (u ∷ n) h = absurd h
has_same id (t ∷ s) [] h = absurd h

pub plain_then : (s now : Document) (id : List ℕ) → IsMovedFrom s now id → has_formulas now ≡ false → has_formulas s ≡ false
plain_then s now id m h = has_same id s now (moved_alike s now id m) ∙ h
