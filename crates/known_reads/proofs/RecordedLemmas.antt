-- Cells whose notes are recorded as their values are found.
use Rattle.std.proofs.Common.{ℕ, Bool, true, false, cond, ◌&&◌, ◌||◌, List, [], ◌∷◌, length, ◌≡◌, inl, inr, refl, sym, ap, ◌∙◌, subst, Option, Some, None, Result, Ok, Err, IfOk}
use Rattle.std.proofs.lemmas.Bool.{false≢true, true≢false}
use Rattle.std.specs.Option.{is_some}
use Rattle.cell_types.specs.declared.cell.CellId.{CellId}
use Rattle.cell_types.specs.declared.column_type.ColType.{ColType}
use Rattle.cell_types.specs.declared.value.CellValue.{CellValue}
use Rattle.cell_types.specs.declared.value.RowRef.{RowRef}
use Rattle.doc_model.specs.Document.{Document}
use Rattle.formula_eval.specs.Attempted.{HasNoted, IsTried, value_of}
use Rattle.formula_eval.specs.declared.note.Note.{Note}
use Rattle.formula_eval.specs.declared.outcome.Tried.{Tried}
use Rattle.formula_eval.specs.declared.outcome.Tried.TheVariants.{Value as Given, Need as Lacks}
use Rattle.formula_eval.specs.Likeness.{StopsBy}
use Rattle.formula_eval.specs.OfText.{evaluated_some, evaluated_text}
use Rattle.formula_eval.specs.Reader.{known, needed}
use Rattle.formula_eval.specs.Run.{Out, circular, gives, need, raises, stops}
use Rattle.formula_parse.specs.FormulaOf.{formula_of}
use Rattle.formula_parse.specs.Tree.{Tree}
use Rattle.dep_graph.specs.Graph.{Graph, IsKept, IsSet}
use Rattle.recalc.specs.declared.kept.KeptTable.{KeptTable}
use Rattle.recalc.specs.Cells.{same_cell}
use Rattle.recalc.specs.Evaluated.{formula_at, sheet_of}
use Rattle.recalc.specs.Kept.{IsKeptOf, IsSettled, held_at}
use Rattle.recalc.specs.Sheet.{Sheet, Values, evaluated, fit_in, over, row_of, run_of, told_by}
use Rattle.recalc.specs.Stack.{IsOpen, IsSheet, IsSound, Waits, on}
use Rattle.recalc.proofs.Over.{over_alike}
use Rattle.recalc.proofs.Turn.{attempt_open, attempt_value, attempt_waits, same_itself, same_true}
use Rattle.affected_cells.specs.Bound.{names}
use Rattle.affected_cells.specs.Noted.{notes, notes_by}
use Rattle.affected_cells.proofs.Needed.{needed_law, needs, needs_joined, never_right, told_cell}
use Rattle.affected_search.specs.ExactNotes.{HasNotesOf}
use Rattle.affected_search.proofs.NotedLaws.{set_notes_law}
use Rattle.affected_values.specs.declared.taking.HeldValue.{HeldValue}
use Rattle.affected_values.specs.Taken.{IsHeldWhere, IsTaken, taken_of}
use Rattle.par_recalc.specs.declared.running.Found.{Found}
use Rattle.par_recalc.specs.declared.running.Found.TheVariants.{Value, Need}
use Rattle.known_reads.specs.Beside.{Beside, KnowsOthers, is_stale}
use Rattle.known_reads.specs.Known.{KeepsReads}
use Rattle.known_reads.specs.Recorded.{IsFitted, IsNotedOf, IsRecording, IsTold, KnowsBut, KnowsButFormulas}
use Rattle.known_reads.proofs.KnownLemmas.{reads_kept}

-- ---- what an attempt tells

none_some : (v : CellValue) → None ≡ Some v → ⊥
none_some v e = cc

-- what has a value does not stop for a cell
value_needs : (v : CellValue) (o : Out CellValue) → value_of o ≡ Some v → StopsBy needs o → ⊥
value_needs v (gives w) e h = h
value_needs v (raises w) e h = h
value_needs v (stops circular) e h = h
value_needs v (stops (need cs)) e h = none_some v e

module _ (s : Sheet) (sheet : IsSheet s) (k : Values) (sound : IsSound s k) where
  -- an attempt that answers a value notes what the run over all values notes
  pub notes_told : (c : CellId) (f : List ℕ) (v : CellValue) → s.formula c ≡ Some f → value_of (run_of (over s k) c f).out ≡ Some v → notes s c ≡ (run_of (over s k) c f).notes
  notes_told c f v e h =
      ap (notes_by s (λ b. Some (evaluated s b)) c) e
      ∙ (elim (over_alike needs ⊥ s k (λ b. Some (evaluated s b)) needs_joined (told_cell s k sound) c f) [
        | inl g ↦ sym g.1
        | inr g ↦ elim g [ inl w ↦ absurd (value_needs v (run_of (over s k) c f).out h w.0) | inr w ↦ absurd (never_right (run_of (over s (λ b. Some (evaluated s b))) c f).out w.0) ]
      ])

  fitted : (c : CellId) (f : List ℕ) (ty : ColType) → s.formula c ≡ Some f → s.kind c.table c.column ≡ Some ty
      → (a : Tried) → IsTried a (run_of (over s k) c f) → (l : List Note) → HasNoted a [] l (run_of (over s k) c f) → (x : Found) → IsFitted x ty a l → IsTold s k c x
  fitted c f ty e kind (Given v) h l n (Value w m) g = (attempt_value s sheet k sound c f v e h ∙ ap (λ o. fit_in o v) kind ∙ sym g.0, notes_told c f v e h ∙ n ∙ sym g.1)
  fitted c f ty e kind (Given v) h l n (Need d) g = absurd g
  fitted c f ty e kind (Lacks d) h l n (Value w m) g = absurd g
  fitted c f ty e kind (Lacks d) h l n (Need b) g = subst (λ x. Waits s c x × IsOpen s k x × (names s c x ≡ true)) (sym g) (attempt_waits s sheet k sound c f d e h, attempt_open s sheet k sound c f d h, needed_law s k sound c d f e h)

  -- an attempt at the formula that is kept of the cell's column
  pub told : (c : CellId) (f : List ℕ) (ty : ColType) → s.formula c ≡ Some f → s.kind c.table c.column ≡ Some ty → (at : RowRef) → at ≡ row_of c → (o : Option Tree) → o ≡ formula_of f
      → (a : Tried) → IsTried a (evaluated_some (over s k) at o) → (l : List Note) → HasNoted a [] l (evaluated_some (over s k) at o) → (x : Found) → IsFitted x ty a l → IsTold s k c x
  unfolding evaluated_text
  told c f ty e kind at here o of a h l n x g =
      fitted c f ty e kind a (subst (λ p. IsTried a (evaluated_some (over s k) (row_of c) p)) of (subst (λ r. IsTried a (evaluated_some (over s k) r o)) here h)) l
      (subst (λ p. HasNoted a [] l (evaluated_some (over s k) (row_of c) p)) of (subst (λ r. HasNoted a [] l (evaluated_some (over s k) r o)) here n)) x g

-- a cell of which it is told that it is needed is open
pub open_told : (s : Sheet) → IsSheet s → (k : Values) (c : CellId) → needed ≡ (over s k).cell c → IsOpen s k c
open_told s sheet k c told = by (s.formula c) refl (k c) refl told
  where
    never : (v : CellValue) → needed ≡ known v → ⊥
    never v e = cc

    by : (o : Option (List ℕ)) → s.formula c ≡ o → (p : Option CellValue) → k c ≡ p → needed ≡ told_by (s.formula c) (s.base c) (k c) → IsOpen s k c
    by None e p g h = absurd (sheet.told c (sym (h ∙ ap (λ o. told_by o (s.base c) (k c)) e)))
    by (Some f) e None g h = ((f, e), g)
    by (Some f) e (Some v) g h = absurd (never v (h ∙ ap (λ o. told_by o (s.base c) (k c)) e ∙ ap (λ o. told_by (Some f) (s.base c) o) g))

-- what holds of an answer holds of each
pub if_ok : {A E : Type 0} {P Q : A → Type 0} (r : Result A E) → ((x : A) → P x → Q x) → IfOk r P → IfOk r Q
if_ok (Ok x) f h = f x h
if_ok (Err e) f h = tt

-- ---- what is noted of a cell

-- where a cell is noted as stale
stale_cell : (new : Beside) (cell : CellId) → ((c : CellId) → on (cell ∷ []) c ≡ true → is_stale new c ≡ true) → is_stale new cell ≡ true
stale_cell new cell noted = noted cell (ap (λ b. b || false) (same_itself cell))

or_second : (a b : Bool) → b ≡ true → (a || b) ≡ true
or_second true b e = refl
or_second false b e = e

or_first : (a b : Bool) → a ≡ true → (a || b) ≡ true
or_first true b e = refl
or_first false b e = absurd (false≢true e)

-- a cell that is set to what its run noted
pub noted_set : (old new : Beside) (cell : CellId) (given : List Note) → IsSet old.graph new.graph cell given → new.stale ≡ old.stale → (s : Sheet) → notes s cell ≡ given → IsNotedOf old new s cell
noted_set old new cell given set stale s same =
    let recorded = set_notes_law old.graph new.graph s cell given set same in
    record { here = λ h. recorded.exact; others = recorded.keeps; stale = λ d h. ap (λ l. on l d) stale ∙ h }

-- so where the cell became stale, and the graph is the same
pub noted_same : (old new : Beside) (cell : CellId) → new.graph ≡ old.graph → ((c : CellId) → (is_stale old c || on (cell ∷ []) c) ≡ true → is_stale new c ≡ true) → (s : Sheet) → IsNotedOf old new s cell
noted_same old new cell same stale s = record {
  here = λ h. absurd (true≢false (sym (stale_cell new cell (λ c h. stale c (or_second (is_stale old c) (on (cell ∷ []) c) h))) ∙ h));
  others = subst (λ (g : Graph). KeepsReads s old.graph g) (sym same) (λ c h. h);
  stale = λ d h. stale d (or_first (is_stale old d) (on (cell ∷ []) d) h);
}

-- ---- one after the other

pub empty_list : {X : Type 0} (xs : List X) → length xs ≡ 0 → xs ≡ []
empty_list [] e = refl
empty_list (x ∷ xs) e = absurd (cc)

fresh_before : (old new : Beside) → ((c : CellId) → is_stale old c ≡ true → is_stale new c ≡ true) → (c : CellId) → is_stale new c ≡ false → is_stale old c ≡ false
fresh_before old new stale c h = by (is_stale old c) refl
  where
    by : (b : Bool) → is_stale old c ≡ b → is_stale old c ≡ false
    by true e = absurd (true≢false (sym (stale c e) ∙ h))
    by false e = e

pub recording_none : (s : Document) (k : Values) (old : Beside) → IsRecording s k old k old
recording_none s k old = record {
  read = λ c none some fresh. absurd (true≢false (sym some ∙ none));
  others = λ c h. h;
  stale = λ c h. h;
}

pub recording_next : (s : Document) (k j i : Values) (old mid new : Beside) → IsRecording s k old j mid → IsRecording s j mid i new → IsRecording s k old i new
recording_next s k j i old mid new a b = record {
  read = λ c none some fresh. by c (is_some (j c)) refl none some fresh;
  others = λ c h. b.others c (a.others c h);
  stale = λ c h. b.stale c (a.stale c h);
}
  where
    by : (c : CellId) (p : Bool) → is_some (j c) ≡ p → is_some (k c) ≡ false → is_some (i c) ≡ true → is_stale new c ≡ false → HasNotesOf new.graph (sheet_of s) c
    by c true e none some fresh = b.others c (a.read c none e (fresh_before mid new b.stale c fresh))
    by c false e none some fresh = b.read c e some fresh

-- a value that is put, and what is noted of the cell
pub recording_put : (s : Document) (k j : Values) (old new : Beside) (cell : CellId) (v : CellValue) → ((c : CellId) → j c ≡ cond (same_cell cell c) (Some v) (k c)) → IsNotedOf old new (sheet_of s) cell → IsRecording s k old j new
recording_put s k j old new cell v puts noted = record {
  read = λ c none some fresh. by c (same_cell cell c) refl none some fresh;
  others = noted.others;
  stale = noted.stale;
}
  where
    by : (c : CellId) (p : Bool) → same_cell cell c ≡ p → is_some (k c) ≡ false → is_some (j c) ≡ true → is_stale new c ≡ false → HasNotesOf new.graph (sheet_of s) c
    by c true e none some fresh = subst (HasNotesOf new.graph (sheet_of s)) (same_true cell c e) (noted.here (ap (is_stale new) (same_true cell c e) ∙ fresh))
    by c false e none some fresh = absurd (true≢false (sym some ∙ ap is_some (puts c ∙ ap (λ b. cond b (Some v) (k c)) e) ∙ none))

-- no value more, and the graph has what it had
pub recording_left : (s : Document) (k : Values) (old new : Beside) → KeepsReads (sheet_of s) old.graph new.graph → new.stale ≡ old.stale → IsRecording s k old k new
recording_left s k old new keeps stale = record {
  read = λ c none some fresh. absurd (true≢false (sym some ∙ none));
  others = keeps;
  stale = λ c h. ap (λ l. on l c) stale ∙ h;
}

pub recording_kept : (s : Document) (k : Values) (old new : Beside) → IsKept old.graph new.graph → new.stale ≡ old.stale → IsRecording s k old k new
recording_kept s k old new kept stale = recording_left s k old new (reads_kept (sheet_of s) old.graph new.graph kept) stale

pub recording_same : (s : Document) (k : Values) (old new : Beside) → new.graph ≡ old.graph → new.stale ≡ old.stale → IsRecording s k old k new
recording_same s k old new same stale = recording_left s k old new (subst (λ (g : Graph). KeepsReads (sheet_of s) old.graph g) (sym same) (λ c h. h)) stale

-- ---- cells that are evaluated anew

-- each cell that was taken is known
abbrev pub AllTaken : Document → List KeptTable → List HeldValue → Type 0
AllTaken s ks taken = (c : CellId) → is_some (taken_of taken c) ≡ true → IsHeldWhere s ks c

module _ (s : Document) (first out : List KeptTable) (cells : List CellId) (taken : List HeldValue) (gone : IsTaken cells taken (held_at s first) (held_at s out)) where
  -- what is left is right
  pub settled_out : IsSettled s first → IsKeptOf s out → IsSettled s out
  settled_out settled kept = record { of_document = kept; sound = λ c v h. by c v h (on cells c) refl }
    where
      by : (c : CellId) (v : CellValue) → held_at s out c ≡ Some v → (b : Bool) → on cells c ≡ b → evaluated (sheet_of s) c ≡ v
      by c v h true e = absurd (none_some v (sym (gone.out c ∙ ap (λ b. cond b None (held_at s first c)) e) ∙ h))
      by c v h false e = settled.sound c v (sym (gone.out c ∙ ap (λ b. cond b None (held_at s first c)) e) ∙ h)

  module _ (last : List KeptTable) (old new : Beside) (recording : IsRecording s (held_at s out) old (held_at s last) new)
      (known : (c : CellId) → is_some (taken_of taken c) ≡ true → IsHeldWhere s last c) where
    pub known_anew : KnowsButFormulas s old cells → KnowsOthers s new
    known_anew but c fresh = by (on cells c) (is_some (formula_at s c)) refl refl
      where
        before : is_stale old c ≡ false
        before = fresh_before old new recording.stale c fresh

        by : (b p : Bool) → on cells c ≡ b → is_some (formula_at s c) ≡ p → HasNotesOf new.graph (sheet_of s) c
        by true true e there = recording.read c (ap is_some (gone.out c ∙ ap (λ b. cond b None (held_at s first c)) e)) (known c (gone.each c ∙ e) there) fresh
        by true false e there = recording.others c (but c before (ap (λ b. b && is_some (formula_at s c)) e ∙ there))
        by false p e there = recording.others c (but c before (ap (λ b. b && is_some (formula_at s c)) e))

-- ---- cells that are no formula cells

no_formula : (o : Option (List ℕ)) → is_some o ≡ false → o ≡ None
no_formula None h = refl
no_formula (Some f) h = absurd (true≢false h)

-- what is forgotten is known
pub forgot_plain : (s : Document) (old new : Beside) (cells : List CellId) → ((c : CellId) → on cells c ≡ true → formula_at s c ≡ None → HasNotesOf new.graph (sheet_of s) c) → KeepsReads (sheet_of s) old.graph new.graph
    → new.stale ≡ old.stale → KnowsBut s old cells → KnowsButFormulas s new cells
forgot_plain s old new cells plain keeps stale but c fresh other = by (on cells c) refl
  where
    by : (b : Bool) → on cells c ≡ b → HasNotesOf new.graph (sheet_of s) c
    by true e = plain c e (no_formula (formula_at s c) (ap (λ b. b && is_some (formula_at s c)) (sym e) ∙ other))
    by false e = keeps c (but c (sym (ap (λ l. on l c) stale) ∙ fresh) e)
