-- How many attempts a change makes to evaluate what it affects.
use Rattle.std.proofs.Common.{ℕ, ◌+◌, ◌≤◌, Bool, true, false, cond, not, nat_eq, ◌||◌, ◌&&◌, List, [], ◌∷◌, filter, ◌≡◌, inl, inr, refl, sym, ap, ◌∙◌, subst, Option, Some, None}
use Rattle.std.proofs.lemmas.Bool.{false≢true, true≢false, eqb-true, or_left, or_right, and_from, and_parts}
use Rattle.std.specs.List.{list_any}
use Rattle.std.specs.Option.{is_some}
use Rattle.std.specs.Str.{bytes_eq}
use Rattle.cell_types.specs.declared.cell.CellId.{CellId}
use Rattle.doc_model.specs.declared.action.DocAction.{DocAction}
use Rattle.doc_model.specs.declared.action.DocAction.TheVariants.{AddColumn, AddTable, BulkAdd, BulkRemove, BulkUpdate, ModifyColumn, RemoveColumn, RemoveTable, RenameColumn, RenameTable}
use Rattle.doc_model.specs.declared.column.CellColumn.{CellColumn}
use Rattle.doc_model.specs.declared.column.ColDef.{ColDef}
use Rattle.doc_model.specs.Apply.{apply}
use Rattle.doc_model.specs.ByIds.{find_id}
use Rattle.doc_model.specs.Document.{Document, Table, table_id}
use Rattle.doc_model.specs.Grid.{Grid}
use Rattle.doc_model.specs.MetadataIds.{is_schema_id}
use Rattle.doc_model.specs.Rows.{has, has_no_duplicates, none_in, without}
use Rattle.doc_model.specs.Schema.{no_grid}
use Rattle.doc_model.specs.Valid.{from_one, gives_data, passes, valid}
use Rattle.doc_model.proofs.RowsLaws.{has-filter}
use Rattle.doc_readers.specs.Parts.{grid_at}
use Rattle.dep_graph.specs.declared.numbers.CellNumber.{CellNumber}
use Rattle.dep_graph.specs.Graph.{Graph}
use Rattle.dep_graph.specs.Sources.{cell_in}
use Rattle.recalc.specs.Cells.{same_cell}
use Rattle.recalc.specs.Evaluated.{formula_at, sheet_of}
use Rattle.recalc.specs.Sheet.{IsIn, reads}
use Rattle.recalc.specs.Stack.{on}
use Rattle.recalc.proofs.SheetLemmas.{is_sheet}
use Rattle.recalc.proofs.Turn.{same_itself, same_true}
use Rattle.affected_cells.specs.Affected.{affected, is_fresh_cell, names_one}
use Rattle.affected_cells.specs.Bound.{attempt_bound, bound}
use Rattle.affected_cells.specs.Touched.{is_touched}
use Rattle.affected_cells.proofs.Touches.{affected_rests}
use Rattle.affected_search.specs.ByAction.{FindsAffected}
use Rattle.affected_search.specs.Reached.{is_among}
use Rattle.affected_search.specs.Sheets.{is_found}
use Rattle.affected_values.specs.Altered.{AlteredLaw, IsAlteredFrom, is_altered}
use Rattle.affected_values.specs.Carried.{moved_rows, moved_table}
use Rattle.affected_values.proofs.LaidLemmas.{not_beyond}
use Rattle.known_reads.specs.Attempts.{HasFormulas}
use Rattle.evaluated_doc.proofs.MovedLemmas.{rows_removed}
use Rattle.evaluated_doc.specs.Spent.{AreAffected}

none_some : (x : List ℕ) → None ≡ Some x → ⊥
none_some x e = cc

some_same : (x y : List ℕ) → Some x ≡ Some y → x ≡ y
some_same x y e = cc

pub not_true : (b : Bool) → not b ≡ true → b ≡ false
not_true true h = absurd (false≢true h)
not_true false h = refl

not_false : (b : Bool) → not b ≡ false → b ≡ true
not_false true h = refl
not_false false h = absurd (true≢false h)

in_filter : (p : CellId → Bool) (c : CellId) (cs : List CellId) → IsIn c cs → p c ≡ true → IsIn c (filter p cs)
in_filter p c [] i h = absurd i
in_filter p c (d ∷ cs) i h = by (λ j. in_filter p c cs j h) (p d) refl i
  where
    by : (IsIn c cs → IsIn c (filter p cs)) → (b : Bool) → p d ≡ b → IsIn c (d ∷ cs) → IsIn c (cond b (d ∷ filter p cs) (filter p cs))
    by more true e (inl is) = inl is
    by more true e (inr later) = inr (more later)
    by more false e (inl is) = absurd (true≢false (sym (ap p is ∙ h) ∙ e))
    by more false e (inr later) = more later

-- a formula cell that is new, or whose column is modified, is one that the action may affect
pub fresh_affected : (s : Document) (a : DocAction) (c : CellId) → is_some (formula_at (apply s a) c) ≡ true → is_fresh_cell s a c ≡ true → affected s a c ≡ true
fresh_affected s a c there fresh =
    let t = sheet_of (apply s a) in
    let more = list_any (λ q. is_touched s a q || names_one (sheet_of s) t (is_fresh_cell s a) (is_touched s a) (affected s a) q) (reads (sheet_of s) c) in
    ap (λ p. p c) (affected_rests (sheet_of s) t (is_fresh_cell s a) (is_touched s a) (is_sheet (apply s a)).listed)
    ∙ and_from (is_some (t.formula c)) (affected s a c || (is_fresh_cell s a c || more)) there (or_right (affected s a c) (is_fresh_cell s a c || more) (or_left (is_fresh_cell s a c) more fresh))

-- so are those that a search finds
pub named_affected : (s : Document) (a : DocAction) (graph : Graph) (found : List CellNumber) (cells : List CellId) → FindsAffected s graph a found → ((c : CellId) → on cells c ≡ true → is_found graph found c ≡ true) → AreAffected s a cells
named_affected s a graph found cells finds only ok c here there = by_number (cell_in graph.names c) refl (only c here)
  where
    by_formula : (k : CellNumber) → cell_in graph.names c ≡ Some k → is_among found k ≡ true → (o : Option (List ℕ)) → formula_at (apply s a) c ≡ o → is_some o ≡ true → affected s a c ≡ true
    by_formula k is among None e h = absurd (false≢true h)
    by_formula k is among (Some f) e h = finds ok c k f e is among

    by_number : (o : Option CellNumber) → cell_in graph.names c ≡ o → elim o as (λ _. Bool) [ None ↦ false | Some k ↦ is_among found k ] ≡ true → affected s a c ≡ true
    by_number None e h = absurd (false≢true h)
    by_number (Some k) e h = by_formula k e h (formula_at (apply s a) c) refl there

one_here : (c : CellId) → on (c ∷ []) c ≡ true
one_here c = or_left (same_cell c c) false (same_itself c)

one_there : (c d : CellId) → on (c ∷ []) d ≡ true → c ≡ d
one_there c d h = by (same_cell c d) refl h
  where
    by : (b : Bool) → same_cell c d ≡ b → (b || false) ≡ true → c ≡ d
    by true e g = same_true c d e
    by false e g = absurd (false≢true g)

-- ---- rows that come or go

absent : (xs rows : List ℕ) (r : ℕ) → none_in rows xs ≡ true → has rows r ≡ true → has xs r ≡ false
absent xs [] r h here = absurd (false≢true here)
absent xs (q ∷ rows) r h here = by (absent xs rows r (and_parts (not (has xs q)) (none_in rows xs) h).1) (nat_eq q r) refl here
  where
    by : (has rows r ≡ true → has xs r ≡ false) → (b : Bool) → nat_eq q r ≡ b → (b || has rows r) ≡ true → has xs r ≡ false
    by later true e g = ap (has xs) (sym (eqb-true q r e)) ∙ not_true (has xs q) (and_parts (not (has xs q)) (none_in rows xs) h).0
    by later false e g = later g

-- rows that come are not there yet
free_rows : (s : Document) (u rows : List ℕ) (ks : List CellColumn) → valid s (BulkAdd u rows ks) ≡ true → none_in rows (grid_at s u).rows ≡ true
free_rows s u rows ks ok = by (is_schema_id u) (find_id table_id u s) ok
  where
    by : (b : Bool) (o : Option Table) → passes (cond b None o) (λ t. has_no_duplicates rows && from_one rows && none_in rows t.grid.rows && gives_data t.grid rows ks) ≡ true
        → none_in rows (elim o as (λ _. Grid ColDef) [ None ↦ no_grid | Some v ↦ v.grid ]).rows ≡ true
    by true o h = absurd (false≢true h)
    by false None h = absurd (false≢true h)
    by false (Some v) h =
        (and_parts (has_no_duplicates rows && from_one rows) (none_in rows v.grid.rows)
        (and_parts (has_no_duplicates rows && from_one rows && none_in rows v.grid.rows) (gives_data v.grid rows ks) h).0).1

-- a formula cell of the table stands in one of its rows
has_row : (s : Document) (t : List ℕ) (c : CellId) → bytes_eq c.table t ≡ true → is_some (formula_at s c) ≡ true → has (grid_at s t).rows c.row ≡ true
has_row s t c at there = not_false (has (grid_at s t).rows c.row) (ap (λ b. b && not (has (grid_at s t).rows c.row)) (sym at) ∙ not_beyond s t c there)

-- a formula cell in rows that come is new, and in rows that go there is none after them
moved_fresh : (s : Document) (a : DocAction) (t : List ℕ) → valid s a ≡ true → moved_table a ≡ Some t → (c : CellId) → bytes_eq c.table t ≡ true → has (moved_rows a) c.row ≡ true
    → is_some (formula_at (apply s a) c) ≡ true → is_fresh_cell s a c ≡ true
moved_fresh s (BulkAdd u rows ks) t ok h c at here there = by (is_some (formula_at s c)) refl
  where
    by : (b : Bool) → is_some (formula_at s c) ≡ b → (not b || false) ≡ true
    by true e = absurd (false≢true (sym (absent (grid_at s t).rows rows c.row (subst (λ n. none_in rows (grid_at s n).rows ≡ true) (some_same u t h) (free_rows s u rows ks ok)) here) ∙ has_row s t c at e))
    by false e = refl
moved_fresh s (BulkRemove u rows) t ok h c at here there =
    absurd (false≢true (ap (λ b. not b && has (grid_at s t).rows c.row) (sym here) ∙ sym (has-filter (λ r. not (has rows r)) (grid_at s t).rows c.row) ∙ ap (λ rs. has rs c.row) (sym gone) ∙ has_row (apply s (BulkRemove u rows)) t c at there))
  where
    gone : (grid_at (apply s (BulkRemove u rows)) t).rows ≡ without rows (grid_at s t).rows
    gone = rows_removed s u rows t ok h
moved_fresh s (BulkUpdate u rows ks) t ok h c at here there = absurd (none_some t h)
moved_fresh s (AddTable u r cs) t ok h c at here there = absurd (none_some t h)
moved_fresh s (RemoveTable u) t ok h c at here there = absurd (none_some t h)
moved_fresh s (RenameTable u n) t ok h c at here there = absurd (none_some t h)
moved_fresh s (AddColumn u d) t ok h c at here there = absurd (none_some t h)
moved_fresh s (RemoveColumn u k) t ok h c at here there = absurd (none_some t h)
moved_fresh s (RenameColumn u k n) t ok h c at here there = absurd (none_some t h)
moved_fresh s (ModifyColumn u k i) t ok h c at here there = absurd (none_some t h)

-- those of the cells and of these rows are cells that the action may affect
pub rows_affected : (s : Document) (a : DocAction) (t : List ℕ) (old new : List CellId) → moved_table a ≡ Some t → AreAffected s a old → ((c : CellId) → on new c ≡ true → on old c ≡ false → bytes_eq c.table t ≡ true)
    → ((c : CellId) → on new c ≡ true → on old c ≡ false → has (moved_rows a) c.row ≡ true) → AreAffected s a new
rows_affected s a t old new moved are tables rows ok c here there = by (on old c) refl
  where
    by : (b : Bool) → on old c ≡ b → affected s a c ≡ true
    by true e = are ok c e there
    by false e = fresh_affected s a c there (moved_fresh s a t ok moved c (tables c here e) (rows c here e) there)

-- ---- cells that an action on no records alters

pub altered_affected : AlteredLaw → (s now : Document) (a : DocAction) (old new : List CellId) → IsAlteredFrom s now a → AreAffected s a old → ((c : CellId) → on new c ≡ true → on old c ≡ false → is_altered a c ≡ true) → AreAffected s a new
altered_affected law s now a old new altered are only ok c here there = by (on old c) refl
  where
    by : (b : Bool) → on old c ≡ b → affected s a c ≡ true
    by true e = are ok c e there
    by false e = fresh_affected s a c there ((law s now a altered).fresh c (only c here e) (ap (λ d. is_some (formula_at d c)) altered.done ∙ there))

-- the found ones, and those that the action alters in the document before it
pub named_altered : AlteredLaw → (s : Document) (a : DocAction) (graph : Graph) (found : List CellNumber) (cells : List CellId) → ((ok : valid s a ≡ true) → IsAlteredFrom s (apply s a) a) → FindsAffected s graph a found
    → ((c : CellId) → on cells c ≡ true → is_found graph found c ≡ false → is_altered a c ≡ true) → AreAffected s a cells
named_altered law s a graph found cells from finds only ok c here there = by (is_found graph found c) refl
  where
    by : (b : Bool) → is_found graph found c ≡ b → affected s a c ≡ true
    by true e = named_affected s a graph found (c ∷ []) finds (λ d is. ap (is_found graph found) (sym (one_there c d is)) ∙ e) ok c (one_here c) there
    by false e = fresh_affected s a c there ((law s (apply s a) a (from ok)).fresh c (only c here e) there)

-- ---- within the bound

-- attempts within the bound of the cells that the action may affect are within the bound of the action
pub spent_within : (s now : Document) (a : DocAction) (cells : List CellId) (old new : ℕ) → valid s a ≡ true → now ≡ apply s a → AreAffected s a cells
    → ((all : List CellId) → HasFormulas now cells all → new ≤ old + attempt_bound (sheet_of now) all) → new ≤ old + bound s a
spent_within s now a cells old new ok done are within =
    subst (λ d. new ≤ old + attempt_bound (sheet_of d) (filter (affected s a) (sheet_of d).cells)) done (within (filter (affected s a) (sheet_of now).cells) formulas)
  where
    formulas : HasFormulas now cells (filter (affected s a) (sheet_of now).cells)
    formulas c here there = by (formula_at now c) refl there
      where
        by : (o : Option (List ℕ)) → formula_at now c ≡ o → is_some o ≡ true → IsIn c (filter (affected s a) (sheet_of now).cells)
        by None e h = absurd (false≢true h)
        by (Some f) e h = in_filter (affected s a) c (sheet_of now).cells ((is_sheet now).listed c f e) (are ok c here (ap (λ d. is_some (formula_at d c)) (sym done) ∙ there))
