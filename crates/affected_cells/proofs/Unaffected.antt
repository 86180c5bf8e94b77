-- Formula cells that are not affected.
use Rattle.std.proofs.Common.{ℕ, Bool, true, false, cond, zero, suc, List, length, ◌≡◌, inl, inr, refl, sym, ap, ◌∙◌, subst, Option, Some, None, unwrap_or}
use Rattle.std.specs.List.{AllByRecursion}
use Rattle.std.specs.Option.{is_some}
use Rattle.cell_types.specs.declared.cell.CellId.{CellId}
use Rattle.cell_types.specs.declared.cell.KeyItem.{KeyItem}
use Rattle.cell_types.specs.declared.value.CellValue.{CellValue}
use Rattle.cell_types.specs.declared.value.CellValue.TheVariants.{Err}
use Rattle.cell_types.specs.declared.value.ErrKind.TheVariants.{Circular}
use Rattle.cell_types.specs.declared.cell.Read.{Read}
use Rattle.cell_types.specs.declared.cell.Read.TheVariants.{Cell, Key, Rows}
use Rattle.formula_eval.specs.declared.note.Note.{Note}
use Rattle.formula_eval.specs.declared.note.Note.TheVariants as note
use Rattle.formula_eval.specs.Lookup.{matched}
use Rattle.formula_eval.specs.Reader.{known, needed}
use Rattle.formula_eval.specs.Run.{Stop, Out, gives, raises, stops, reads_of}
use Rattle.recalc.specs.Cells.{cell_of}
use Rattle.formula_eval.specs.Reading.{told_out}
use Rattle.formula_eval.specs.Likeness.{StopsBy, IsAlikeOut, IsAlikeRun, IsAlikeNote, IsAlikeRead, IsJoined}
use Rattle.formula_eval.proofs.MatchedAlike.{matched_alike}
use Rattle.formula_eval.proofs.TextLaws.{text_alike, text_notes}
use Rattle.recalc.specs.Sheet.{Sheet, Values, IsListed, told_by, over, finished, row_of, run_of, value_by, eval, evaluated, reads_by, reads}
use Rattle.affected_cells.proofs.Tests.{all_weaker}
use Rattle.affected_cells.specs.Met.{IsSameKey, IsSameKind}
use Rattle.affected_cells.specs.Noted.{Agree, IsUntouchedMet, IsUntouchedNote, IsClosedByNotes, UnaffectedNotesLaw, notes, notes_by}
use Rattle.affected_cells.specs.Untouched.{IsUntouchedCell, IsUntouched, IsClosed, UnaffectedLaw}
use Rattle.affected_cells.proofs.MetAlike.{matched_same, told_apart}
use Rattle.recalc.proofs.Over.{IsAlikeCell, all_each, over_alike, same_out, finished_same, finished_stop}
use Rattle.recalc.proofs.Fuel.{any_stop, none_some}
use Rattle.recalc.proofs.Settled.{value_law, fixed}

abbrev no_stop : Stop → Type 0
no_stop s = ⊥

-- the values of the evaluated cells
abbrev pub all_values : Sheet → Values
all_values s d = Some (evaluated s d)

right_none : {A : Type 0} (o : Out A) → StopsBy (λ _. ⊥) o → ⊥
right_none (gives v) h = h
right_none (raises v) h = h
right_none (stops v) h = h

-- where a run over the first of two finishes, it has the notes of the second
notes_more : (s : Sheet) (k : Values) → ((d : CellId) → IsAlikeCell any_stop ⊥ s k (all_values s) d)
    → (c : CellId) (f : List ℕ) (v : CellValue) → finished (s.kind c.table c.column) (run_of (over s k) c f).out ≡ Some v → (run_of (over s k) c f).notes ≡ (run_of (over s (all_values s)) c f).notes
notes_more s k h c f v e =
    elim (over_alike any_stop ⊥ s k (all_values s) (λ cs ds a b. tt) h c f) [
      | inl g ↦ g.1
      | inr g ↦ elim g [
        | inl w ↦ absurd (none_some (sym (finished_stop any_stop (s.kind c.table c.column) (run_of (over s k) c f).out w.0) ∙ e))
        | inr w ↦ absurd (right_none (run_of (over s (all_values s)) c f).out w.0)
      ]
    ]

module _ (s : Sheet) (listed : IsListed s) where
  part_cell : (n : ℕ) (d : CellId) → IsAlikeCell any_stop ⊥ s (eval n s) (all_values s) d
  part_cell n d f =
      elim (eval n s d) as (λ o. eval n s d ≡ o → IsAlikeOut any_stop ⊥ (told_out d (told_by (Some f) (s.base d) o)) (told_out d (known (evaluated s d)))) [
        | None ↦ λ e. inr (inl tt)
        | Some v ↦ λ e. same_out any_stop ⊥ (told_out d (known v)) (told_out d (known (evaluated s d))) (ap (λ w. told_out d (known w)) (sym (value_law s listed d v n e)))
      ] refl

  whole_cell : (d : CellId) → IsAlikeCell no_stop ⊥ s (eval (length s.cells) s) (all_values s) d
  whole_cell d f =
      elim (eval (length s.cells) s d) as (λ o. IsAlikeOut no_stop ⊥ (told_out d (told_by (Some f) (s.base d) o)) (told_out d (known (unwrap_or o (Err Circular))))) [
        | None ↦ inl tt
        | Some v ↦ same_out no_stop ⊥ (told_out d (known v)) (told_out d (known v)) refl
      ]

  -- with as much fuel as there are formula cells the notes are those over the evaluated cells
  pub whole_notes : (c : CellId) (f : List ℕ) → (run_of (over s (eval (length s.cells) s)) c f).notes ≡ (run_of (over s (all_values s)) c f).notes
  whole_notes c f = elim (over_alike no_stop ⊥ s (eval (length s.cells) s) (all_values s) (λ cs ds a b. a) whole_cell c f) [
    | inl g ↦ g.1
    | inr g ↦ elim g [ inl w ↦ absurd (right_none (run_of (over s (eval (length s.cells) s)) c f).out w.0) | inr w ↦ absurd (right_none (run_of (over s (all_values s)) c f).out w.0) ]
  ]

module _ (s t : Sheet) (affected : CellId → Bool) where
  module _ (L : Stop → Type 0) (R : Type 0) (joined : IsJoined L) (k j : Values)
      (cell : (d : CellId) (f : List ℕ) → t.formula d ≡ Some f → affected d ≡ false → IsAlikeOut L R (told_out d (told_by (Some f) (s.base d) (k d))) (told_out d (told_by (Some f) (t.base d) (j d)))) where
    untouched_cell : (d : CellId) → IsUntouchedCell s t affected d → IsAlikeOut L R (told_out d ((over s k).cell d)) (told_out d ((over t j).cell d))
    untouched_cell d (inl h) =
        same_out L R (told_out d (told_by (s.formula d) (s.base d) (k d))) (told_out d (told_by (t.formula d) (t.base d) (j d)))
        (ap (λ o. told_out d (told_by o (s.base d) (k d))) h.0 ∙ ap (λ o. told_out d o) h.2 ∙ sym (ap (λ o. told_out d (told_by o (t.base d) (j d))) h.1))
    untouched_cell d (inr h) =
        subst (λ o. IsAlikeOut L R (told_out d (told_by o (s.base d) (k d))) (told_out d (told_by (t.formula d) (t.base d) (j d)))) (sym h.1)
        (subst (λ o. IsAlikeOut L R (told_out d (told_by (Some h.0) (s.base d) (k d))) (told_out d (told_by o (t.base d) (j d)))) (sym h.2) (cell d h.0 h.2 h.3))

    -- the values before of cells that are not affected, and those after of the others
    mixed : Values
    mixed d = cond (affected d) (j d) (k d)

    mixed_agrees : Agree s t affected k mixed
    unfolding mixed
    mixed_agrees d f e free = sym (ap (λ b. cond b (j d) (k d)) free)

    mixed_cell : (d : CellId) → IsAlikeOut L R (told_out d ((over t mixed).cell d)) (told_out d ((over t j).cell d))
    unfolding mixed
    mixed_cell d = by_formula (t.formula d) refl
      where
        by_affected : (f : List ℕ) → t.formula d ≡ Some f → (b : Bool) → affected d ≡ b → IsAlikeOut L R (told_out d (told_by (Some f) (t.base d) (cond b (j d) (k d)))) (told_out d (told_by (Some f) (t.base d) (j d)))
        by_affected f e true is = same_out L R (told_out d (told_by (Some f) (t.base d) (j d))) (told_out d (told_by (Some f) (t.base d) (j d))) refl
        by_affected f e false is = subst (λ o. IsAlikeOut L R (told_out d o) (told_out d (told_by (Some f) (t.base d) (j d)))) (told_apart f (s.base d) (t.base d) (k d)) (cell d f e is)

        by_formula : (o : Option (List ℕ)) → t.formula d ≡ o → IsAlikeOut L R (told_out d (told_by o (t.base d) (cond (affected d) (j d) (k d)))) (told_out d (told_by o (t.base d) (j d)))
        by_formula None e = same_out L R (told_out d (t.base d)) (told_out d (t.base d)) refl
        by_formula (Some f) e = by_affected f e (affected d) refl

    untouched_note : (n : Note) → IsUntouchedNote s t affected n → IsAlikeNote L R (over s k) (over t j) n
    untouched_note (note.Read (Cell d)) h = (h.0, untouched_cell d h.1)
    untouched_note (note.Read (Key u c)) h = h
    untouched_note (note.Read (Rows u)) h = h
    untouched_note (note.All u) h = h
    untouched_note (note.Met u ks) h =
        subst (λ o. IsAlikeOut L R o (matched (over t j) u ks)) (sym (h k mixed mixed_agrees))
        (matched_alike L R joined (over t mixed) (over t j) u ks refl
        (all_each (λ (key : KeyItem). IsAlikeRead L R (over t mixed) (over t j) (Key u key.column)) (λ key. (refl, λ r. mixed_cell (cell_of u key.column r))) ks))

    -- a formula whose notes are untouched runs alike over the two sheets
    pub untouched_run : (c : CellId) (f : List ℕ) → AllByRecursion (IsUntouchedNote s t affected) (run_of (over s k) c f).notes → IsAlikeRun L R (run_of (over s k) c f) (run_of (over t j) c f)
    untouched_run c f h =
        text_alike L R (over s k) (over t j) (row_of c) f
        (all_weaker (IsUntouchedNote s t affected) (IsAlikeNote L R (over s k) (over t j)) untouched_note (run_of (over s k) c f).notes h)

  module _ (ls : IsListed s) (lt : IsListed t) (closed : IsClosedByNotes s t affected) where
    notes_untouched : (c : CellId) (f : List ℕ) → t.formula c ≡ Some f → affected c ≡ false → AllByRecursion (IsUntouchedNote s t affected) (run_of (over s (all_values s)) c f).notes
    notes_untouched c f e free = subst (λ o. AllByRecursion (IsUntouchedNote s t affected) (notes_by s (all_values s) c o)) (closed.was c f e free) (closed.untouched c f e free)

    -- what the cells had with some fuel they have after
    abbrev Keeps : Values → Values → Type 0
    Keeps k j = (d : CellId) (g : List ℕ) (u : CellValue) → t.formula d ≡ Some g → affected d ≡ false → k d ≡ Some u → j d ≡ Some u

    kept_cell : (k j : Values) → Keeps k j → (d : CellId) (g : List ℕ) → t.formula d ≡ Some g → affected d ≡ false
        → IsAlikeOut any_stop ⊥ (told_out d (told_by (Some g) (s.base d) (k d))) (told_out d (told_by (Some g) (t.base d) (j d)))
    kept_cell k j h d g i free =
        elim (k d) as (λ o. k d ≡ o → IsAlikeOut any_stop ⊥ (told_out d (told_by (Some g) (s.base d) o)) (told_out d (told_by (Some g) (t.base d) (j d)))) [
          | None ↦ λ w. inr (inl tt)
          | Some u ↦ λ w. same_out any_stop ⊥ (told_out d (known u)) (told_out d (told_by (Some g) (t.base d) (j d))) (ap (λ o. told_out d (told_by (Some g) (t.base d) o)) (sym (h d g u i free w)))
        ] refl

    pub keeps : (n : ℕ) → Keeps (eval n s) (eval n t)
    keeps zero c f v e free h = h
    keeps (suc n) c f v e free h = ap (value_by t (eval n t) c) e ∙ ends (untouched_run any_stop ⊥ (λ cs ds a b. tt) (eval n s) (eval n t) (kept_cell (eval n s) (eval n t) (keeps n)) c f all)
      where
        before : finished (s.kind c.table c.column) (run_of (over s (eval n s)) c f).out ≡ Some v
        before = sym (ap (value_by s (eval n s) c) (closed.was c f e free)) ∙ h

        all : AllByRecursion (IsUntouchedNote s t affected) (run_of (over s (eval n s)) c f).notes
        all = subst (λ l. AllByRecursion (IsUntouchedNote s t affected) l) (sym (notes_more s (eval n s) (part_cell s ls n) c f v before)) (notes_untouched c f e free)

        ends : IsAlikeRun any_stop ⊥ (run_of (over s (eval n s)) c f) (run_of (over t (eval n t)) c f) → finished (t.kind c.table c.column) (run_of (over t (eval n t)) c f).out ≡ Some v
        ends (inl g) =
            ap (λ k. finished k (run_of (over t (eval n t)) c f).out) (sym (closed.kind c f e free))
            ∙ sym (finished_same (s.kind c.table c.column) (run_of (over s (eval n s)) c f).out (run_of (over t (eval n t)) c f).out g.0) ∙ before
        ends (inr (inl g)) = absurd (none_some (sym (finished_stop any_stop (s.kind c.table c.column) (run_of (over s (eval n s)) c f).out g.0) ∙ before))
        ends (inr (inr g)) = absurd (right_none (run_of (over t (eval n t)) c f).out g.0)

    -- what had no value with any fuel has none after
    abbrev Lacks : Values → Type 0
    Lacks j = (d : CellId) (g : List ℕ) → t.formula d ≡ Some g → affected d ≡ false → eval (length s.cells) s d ≡ None → j d ≡ None

    lacking_cell : (n : ℕ) → Lacks (eval n t) → (d : CellId) (g : List ℕ) → t.formula d ≡ Some g → affected d ≡ false
        → IsAlikeOut no_stop (Unit {0}) (told_out d (told_by (Some g) (s.base d) (eval (length s.cells) s d))) (told_out d (told_by (Some g) (t.base d) (eval n t d)))
    lacking_cell n h d g i free =
        elim (eval (length s.cells) s d) as (λ o. eval (length s.cells) s d ≡ o → IsAlikeOut no_stop (Unit {0}) (told_out d (told_by (Some g) (s.base d) o)) (told_out d (told_by (Some g) (t.base d) (eval n t d)))) [
          | None ↦ λ w. subst (λ o. IsAlikeOut no_stop (Unit {0}) (told_out d needed) (told_out d (told_by (Some g) (t.base d) o))) (sym (h d g i free w)) (inl tt)
          | Some u ↦ λ w. elim (eval n t d) as (λ o. eval n t d ≡ o → IsAlikeOut no_stop (Unit {0}) (told_out d (known u)) (told_out d (told_by (Some g) (t.base d) o))) [
            | None ↦ λ z. inr (inr tt)
            | Some q ↦ λ z. same_out no_stop (Unit {0}) (told_out d (known u)) (told_out d (known q)) (ap (λ p. told_out d (known p)) (one_value u q z (keeps (length s.cells) d g u i free w)))
          ] refl
        ] refl
      where
        one_value : (u q : CellValue) → eval n t d ≡ Some q → eval (length s.cells) t d ≡ Some u → u ≡ q
        one_value u q z w = sym (value_law t lt d u (length s.cells) w) ∙ value_law t lt d q n z

    pub lacks : (n : ℕ) → Lacks (eval n t)
    lacks zero c f e free h = refl
    lacks (suc n) c f e free h = ap (value_by t (eval n t) c) e ∙ ends (untouched_run no_stop (Unit {0}) (λ cs ds a b. a) (eval (length s.cells) s) (eval n t) (lacking_cell n (lacks n)) c f all)
      where
        before : finished (s.kind c.table c.column) (run_of (over s (eval (length s.cells) s)) c f).out ≡ None
        before = sym (ap (value_by s (eval (length s.cells) s) c) (closed.was c f e free)) ∙ sym (fixed s ls c) ∙ h

        all : AllByRecursion (IsUntouchedNote s t affected) (run_of (over s (eval (length s.cells) s)) c f).notes
        all = subst (λ l. AllByRecursion (IsUntouchedNote s t affected) l) (sym (whole_notes s ls c f)) (notes_untouched c f e free)

        ends : IsAlikeRun no_stop (Unit {0}) (run_of (over s (eval (length s.cells) s)) c f) (run_of (over t (eval n t)) c f) → finished (t.kind c.table c.column) (run_of (over t (eval n t)) c f).out ≡ None
        ends (inl g) =
            ap (λ k. finished k (run_of (over t (eval n t)) c f).out) (sym (closed.kind c f e free))
            ∙ sym (finished_same (s.kind c.table c.column) (run_of (over s (eval (length s.cells) s)) c f).out (run_of (over t (eval n t)) c f).out g.0) ∙ before
        ends (inr (inl g)) = absurd (right_none (run_of (over s (eval (length s.cells) s)) c f).out g.0)
        ends (inr (inr g)) = finished_stop (λ _. Unit {0}) (t.kind c.table c.column) (run_of (over t (eval n t)) c f).out g.0

    same_value : (c : CellId) (f : List ℕ) → t.formula c ≡ Some f → affected c ≡ false → evaluated t c ≡ evaluated s c
    same_value c f e free =
        elim (eval (length s.cells) s c) as (λ o. eval (length s.cells) s c ≡ o → evaluated t c ≡ unwrap_or o (Err Circular)) [
          | None ↦ λ w. ap (λ o. unwrap_or o (Err Circular)) (lacks (length t.cells) c f e free w)
          | Some v ↦ λ w. value_law t lt c v (length s.cells) (keeps (length s.cells) c f v e free w)
        ] refl

    same_notes : (c : CellId) (f : List ℕ) → t.formula c ≡ Some f → affected c ≡ false → notes t c ≡ notes s c
    same_notes c f e free =
        ap (notes_by t (all_values t) c) e
        ∙ (elim (untouched_run no_stop ⊥ (λ cs ds a b. a) (all_values s) (all_values t) cell c f (notes_untouched c f e free)) [
          | inl g ↦ sym g.1
          | inr g ↦ elim g [ inl w ↦ absurd (right_none (run_of (over s (all_values s)) c f).out w.0) | inr w ↦ absurd (right_none (run_of (over t (all_values t)) c f).out w.0) ]
        ])
        ∙ sym (ap (notes_by s (all_values s) c) (closed.was c f e free))
      where
        cell : (d : CellId) (g : List ℕ) → t.formula d ≡ Some g → affected d ≡ false → IsAlikeOut no_stop ⊥ (told_out d (known (evaluated s d))) (told_out d (known (evaluated t d)))
        cell d g i h = same_out no_stop ⊥ (told_out d (known (evaluated s d))) (told_out d (known (evaluated t d))) (ap (λ w. told_out d (known w)) (sym (same_value d g i h)))

pub unaffected_notes_law : UnaffectedNotesLaw
unaffected_notes_law s t affected ls lt closed c f e free = (same_value s t affected ls lt closed c f e free, same_notes s t affected ls lt closed c f e free)

-- ---- the same by reads

pub reads_noted : (s : Sheet) (c : CellId) → reads s c ≡ reads_of (notes s c)
reads_noted s c = by (s.formula c)
  where
    by : (o : Option (List ℕ)) → reads_by s (all_values s) c o ≡ reads_of (notes_by s (all_values s) c o)
    by None = refl
    by (Some f) = refl

module _ (s t : Sheet) (affected : CellId → Bool) where
  at_note : (q : Read) → IsUntouched s t affected q → IsUntouchedNote s t affected (note.Read q)
  at_note (Cell d) h = h
  at_note (Key u c) h = h.0
  at_note (Rows u) h = ap is_some h

  at_met : (u : List ℕ) (ks : List KeyItem) → s.rows u ≡ t.rows u → AllByRecursion (λ (key : KeyItem). IsUntouched s t affected (Key u key.column)) ks → IsUntouchedMet s t affected u ks
  at_met u ks rows h v w agree =
      matched_same s t affected u v w agree ks rows (all_weaker (λ (key : KeyItem). IsUntouched s t affected (Key u key.column)) (IsSameKind s t affected u) (λ key g. g.0) ks h)
      (λ r. all_weaker (λ (key : KeyItem). IsUntouched s t affected (Key u key.column)) (IsSameKey s t affected u r) (λ key g. inr (inl (g.1 r))) ks h)

  -- a run whose reads are untouched notes nothing that is touched
  pub noted_untouched : (c : CellId) → AllByRecursion (IsUntouched s t affected) (reads s c) → AllByRecursion (IsUntouchedNote s t affected) (notes s c)
  noted_untouched c = by (s.formula c)
    where
      by : (o : Option (List ℕ)) → AllByRecursion (IsUntouched s t affected) (reads_by s (all_values s) c o) → AllByRecursion (IsUntouchedNote s t affected) (notes_by s (all_values s) c o)
      by None h = tt
      by (Some f) h = text_notes (IsUntouched s t affected) (IsUntouchedNote s t affected) at_note (λ u rows. rows) at_met (over s (all_values s)) (row_of c) f h

  pub closed_by_notes : IsClosed s t affected → IsClosedByNotes s t affected
  closed_by_notes closed = record { was = closed.was; kind = closed.kind; untouched = λ c f e free. noted_untouched c (closed.untouched c f e free) }

pub unaffected_law : UnaffectedLaw
unaffected_law s t affected ls lt closed c f e free =
    let same = unaffected_notes_law s t affected ls lt (closed_by_notes s t affected closed) c f e free in
    (same.0, reads_noted t c ∙ ap reads_of same.1 ∙ sym (reads_noted s c))
