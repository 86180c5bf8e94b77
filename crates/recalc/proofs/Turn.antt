-- One attempt at the cell on top of the stack.
use Rattle.std.proofs.Common.{ℕ, Bool, true, false, ◌&&◌, nat_eq, List, [], ◌∷◌, ◌++◌, length, ◌≡◌, ◌⊎◌, inl, inr, refl, sym, ap, ◌∙◌, subst, Option, Some, None, unwrap_or}
use Rattle.std.proofs.lemmas.Bool.{false≢true, true≢false, eqb-true, eq-eqb}
use Rattle.std.specs.Str.{bytes_eq}
use Rattle.std.proofs.lemmas.Slice.Eq.{bytes_eq-Decides}
use Rattle.cell_types.specs.declared.value.ErrKind.{ErrKind}
use Rattle.cell_types.specs.declared.cell.CellId.{CellId}
use Rattle.cell_types.specs.declared.value.CellValue.{CellValue}
use Rattle.cell_types.specs.declared.value.CellValue.TheVariants.{Err}
use Rattle.cell_types.specs.declared.value.ErrKind.TheVariants.{Circular}
use Rattle.cell_types.specs.declared.column_type.ColType.{ColType}
use Rattle.cell_types.specs.declared.column_type.ColType.TheVariants as ty
use Rattle.formula_eval.specs.Reader.{known, needed}
use Rattle.formula_eval.specs.Run.{Stop, circular, need, Out, gives, raises, stops, IsAmong, MayName, reads_of}
use Rattle.formula_eval.specs.Reading.{told_out}
use Rattle.formula_eval.specs.Attempted.{value_of}
use Rattle.formula_eval.specs.Likeness.{StopsBy, IsAlikeOut, IsJoined}
use Rattle.formula_eval.proofs.Named.{may_needed}
use Rattle.formula_eval.proofs.TextLaws.{text_named}
use Rattle.recalc.specs.Sheet.{Sheet, Values, told_by, over, fit_in, finished, row_of, run_of, value_by, eval, evaluated}
use Rattle.recalc.specs.Cells.{same_cell}
use Rattle.recalc.specs.Stack.{IsSheet, IsSound, Waits, IsOpen}
use Rattle.recalc.proofs.Over.{same_out, IsAlikeCell, over_alike, finished_same, finished_stop}
use Rattle.recalc.proofs.Fuel.{none_some}
use Rattle.recalc.proofs.Settled.{value_law, fixed}

abbrev needs : Stop → Type 0
needs circular = ⊥
needs (need cs) = Unit {0}

needs_joined : IsJoined needs
needs_joined cs ds h g = tt

-- an error fits every column
pub fit_error : (k : Option ColType) (e : ErrKind) → fit_in k (Err e) ≡ Err e
fit_error None e = refl
fit_error (Some ty.Any) e = refl
fit_error (Some ty.Text) e = refl
fit_error (Some ty.Int) e = refl
fit_error (Some ty.Bool) e = refl
fit_error (Some ty.Date) e = refl
fit_error (Some (ty.Ref t)) e = refl
fit_error (Some (ty.RefList t)) e = refl

-- what an attempt answers, fitted, is what finishes it
answer_finished : (k : Option ColType) (o : Out CellValue) (v : CellValue) → value_of o ≡ Some v → unwrap_or (finished k o) (Err Circular) ≡ fit_in k v
answer_finished k (gives w) v e = ap (fit_in k) (same e)
  where
    same : Some w ≡ Some v → w ≡ v
    same e = cc
answer_finished k (raises f) v e = sym (fit_error k f) ∙ ap (fit_in k) (same e)
  where
    same : Some (Err f) ≡ Some v → Err f ≡ v
    same e = cc
answer_finished k (stops circular) v e = sym (fit_error k Circular) ∙ ap (fit_in k) (same e)
  where
    same : Some (Err Circular) ≡ Some v → Err Circular ≡ v
    same e = cc
answer_finished k (stops (need cs)) v e = absurd (none_some e)

-- what stops has no value
named_none : (k : Option ColType) (d : CellId) (o : Out CellValue) → MayName d o → finished k o ≡ None
named_none k d (gives v) h = absurd h
named_none k d (raises e) h = absurd h
named_none k d (stops circular) h = refl
named_none k d (stops (need cs)) h = refl

among_part : (d : CellId) (cs ds : List CellId) → IsAmong d (cs ++ ds) → IsAmong d cs ⊎ IsAmong d ds
among_part d [] ds i = inr i
among_part d (c ∷ cs) ds (inl e) = inl (inl e)
among_part d (c ∷ cs) ds (inr i) = elim (among_part d cs ds i) [ inl a ↦ inl (inr a) | inr b ↦ inr b ]

and_both : (a b : Bool) → (a && b) ≡ true → (a ≡ true) × (b ≡ true)
and_both true b e = (refl, e)
and_both false b e = absurd (false≢true e)

pub same_true : (c d : CellId) → same_cell c d ≡ true → c ≡ d
same_true c d e =
    let h = and_both (bytes_eq c.table d.table && bytes_eq c.column d.column) (nat_eq c.row d.row) e in
    let g = and_both (bytes_eq c.table d.table) (bytes_eq c.column d.column) h.0 in
    let p = (bytes_eq-Decides c.table d.table).0 g.0 in
    let q = (bytes_eq-Decides c.column d.column).0 g.1 in
    let r = eqb-true c.row d.row h.1 in
    λ i. record { table = p i; column = q i; row = r i }

pub same_itself : (c : CellId) → same_cell c c ≡ true
same_itself c = rw ((bytes_eq-Decides c.table c.table).1 refl, (bytes_eq-Decides c.column c.column).1 refl, eq-eqb c.row c.row refl) refl

module _ (s : Sheet) (sheet : IsSheet s) (k : Values) (sound : IsSound s k) where
  known_cell : (d : CellId) → IsAlikeCell needs ⊥ s k (eval (length s.cells) s) d
  known_cell d f =
      elim (k d) as (λ o. k d ≡ o → IsAlikeOut needs ⊥ (told_out d (told_by (Some f) (s.base d) o)) (told_out d (told_by (Some f) (s.base d) (eval (length s.cells) s d)))) [
        | None ↦ λ e. inr (inl tt)
        | Some v ↦ λ e. right v (sound d v e) (eval (length s.cells) s d) refl
      ] refl
    where
      right : (v : CellValue) → evaluated s d ≡ v → (o : Option CellValue) → eval (length s.cells) s d ≡ o → IsAlikeOut needs ⊥ (told_out d (known v)) (told_out d (told_by (Some f) (s.base d) o))
      right v e None w = subst (λ u. IsAlikeOut needs ⊥ (told_out d (known u)) (told_out d needed)) (sym (ap (λ o. unwrap_or o (Err Circular)) w) ∙ e) (inl tt)
      right v e (Some u) w = same_out needs ⊥ (told_out d (known v)) (told_out d (known u)) (ap (λ x. told_out d (known x)) (sym e ∙ ap (λ o. unwrap_or o (Err Circular)) w))

  -- an attempt that answers a value answers the right one
  pub attempt_value : (c : CellId) (f : List ℕ) (v : CellValue) → s.formula c ≡ Some f → value_of (run_of (over s k) c f).out ≡ Some v → evaluated s c ≡ fit_in (s.kind c.table c.column) v
  attempt_value c f v e h =
      ap (λ o. unwrap_or o (Err Circular)) (fixed s sheet.listed c ∙ ap (value_by s (eval (length s.cells) s) c) e)
      ∙ (elim (over_alike needs ⊥ s k (eval (length s.cells) s) needs_joined known_cell c f) [
        | inl g ↦ ap (λ o. unwrap_or o (Err Circular)) (sym (finished_same (s.kind c.table c.column) (run_of (over s k) c f).out (run_of (over s (eval (length s.cells) s)) c f).out g.0))
        | inr g ↦ elim g [ inl w ↦ absurd (value_stop (run_of (over s k) c f).out h w.0) | inr w ↦ absurd (none_right (run_of (over s (eval (length s.cells) s)) c f).out w.0) ]
      ])
      ∙ answer_finished (s.kind c.table c.column) (run_of (over s k) c f).out v h
    where
      value_stop : (o : Out CellValue) → value_of o ≡ Some v → StopsBy needs o → ⊥
      value_stop (gives w) e h = h
      value_stop (raises w) e h = h
      value_stop (stops circular) e h = h
      value_stop (stops (need cs)) e h = none_some e

      none_right : (o : Out CellValue) → StopsBy (λ _. ⊥) o → ⊥
      none_right (gives v) h = h
      none_right (raises v) h = h
      none_right (stops v) h = h

  -- an attempt that needs a cell waits for it
  abbrev other : CellId → Stop → Type 0
  other d circular = Unit {0}
  other d (need cs) = IsAmong d cs → ⊥

  other_joined : (d : CellId) → IsJoined (other d)
  other_joined d cs ds h g i = elim (among_part d cs ds i) [ inl a ↦ h a | inr b ↦ g b ]

  named_other : (d : CellId) (o : Out CellValue) → MayName d o → StopsBy (other d) o → ⊥
  named_other d (gives v) h g = h
  named_other d (raises e) h g = h
  named_other d (stops circular) h g = h
  named_other d (stops (need cs)) h g = g h

  waiting_cell : (d : CellId) (n : ℕ) → eval n s d ≡ None → (e : CellId) → IsAlikeCell (other d) (Unit {0}) s k (eval n s) e
  waiting_cell d n none e f =
      elim (k e) as (λ o. k e ≡ o → IsAlikeOut (other d) (Unit {0}) (told_out e (told_by (Some f) (s.base e) o)) (told_out e (told_by (Some f) (s.base e) (eval n s e)))) [
        | None ↦ λ w. elim (same_cell e d) as (λ b. same_cell e d ≡ b → IsAlikeOut (other d) (Unit {0}) (stops (need (e ∷ []))) (told_out e (told_by (Some f) (s.base e) (eval n s e)))) [
          | true ↦ λ t. subst (λ o. IsAlikeOut (other d) (Unit {0}) (stops (need (e ∷ []))) (told_out e (told_by (Some f) (s.base e) o))) (sym (ap (eval n s) (same_true e d t) ∙ none)) (inl tt)
          | false ↦ λ t. inr (inl (λ i. elim i [ inl q ↦ true≢false (sym (subst (λ x. same_cell e x ≡ true) q (same_itself e)) ∙ t) | inr a ↦ a ]))
        ] refl
        | Some v ↦ λ w. elim (eval n s e) as (λ o. eval n s e ≡ o → IsAlikeOut (other d) (Unit {0}) (told_out e (known v)) (told_out e (told_by (Some f) (s.base e) o))) [
          | None ↦ λ z. inr (inr tt)
          | Some u ↦ λ z. same_out (other d) (Unit {0}) (told_out e (known v)) (told_out e (known u)) (ap (λ x. told_out e (known x)) (sym (sound e v w) ∙ value_law s sheet.listed e u n z))
        ] refl
      ] refl

  pub attempt_waits : (c : CellId) (f : List ℕ) (d : CellId) → s.formula c ≡ Some f → MayName d (run_of (over s k) c f).out → Waits s c d
  attempt_waits c f d e h n none =
      ap (value_by s (eval n s) c) e
      ∙ (elim (over_alike (other d) (Unit {0}) s k (eval n s) (other_joined d) (waiting_cell d n none) c f) [
        | inl g ↦ sym (finished_same (s.kind c.table c.column) (run_of (over s k) c f).out (run_of (over s (eval n s)) c f).out g.0) ∙ named_none (s.kind c.table c.column) d (run_of (over s k) c f).out h
        | inr g ↦ elim g [ inl w ↦ absurd (named_other d (run_of (over s k) c f).out h w.0) | inr w ↦ finished_stop (λ _. Unit {0}) (s.kind c.table c.column) (run_of (over s (eval n s)) c f).out w.0 ]
      ])

  pub attempt_open : (c : CellId) (f : List ℕ) (d : CellId) → MayName d (run_of (over s k) c f).out → IsOpen s k d
  attempt_open c f d h = opened (s.formula d) refl (k d) refl (may_needed (over s k) (reads_of (run_of (over s k) c f).notes) d (run_of (over s k) c f).out (text_named (over s k) (row_of c) f) h).0
    where
      opened : (o : Option (List ℕ)) → s.formula d ≡ o → (p : Option CellValue) → k d ≡ p → told_by (s.formula d) (s.base d) (k d) ≡ needed → IsOpen s k d
      opened None e p g w = absurd (sheet.told d (sym (ap (λ o. told_by o (s.base d) (k d)) e) ∙ w))
      opened (Some f) e None g w = ((f, e), g)
      opened (Some f) e (Some v) g w = absurd (told_some (sym (ap (λ o. told_by o (s.base d) (k d)) e ∙ ap (λ o. told_by (Some f) (s.base d) o) g) ∙ w))
        where
          told_some : known v ≡ needed → ⊥
          told_some q = cc
