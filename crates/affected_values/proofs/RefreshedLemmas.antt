-- Cells evaluated one after the other.
use Rattle.std.proofs.Common.{ℕ, ◌≤◌, Bool, true, false, cond, List, [], ◌∷◌, length, ◌≡◌, refl, sym, ap, ◌∙◌, subst, Option, Some, None, unwrap_or}
use Rattle.std.proofs.lemmas.Bool.{false≢true}
use Rattle.std.specs.List.{AllByRecursion}
use Rattle.std.specs.Option.{is_some}
use Rattle.cell_types.specs.declared.cell.CellId.{CellId}
use Rattle.cell_types.specs.declared.value.CellValue.{CellValue}
use Rattle.doc_model.specs.Document.{Document}
use Rattle.recalc.specs.declared.kept.KeptTable.{KeptTable}
use Rattle.recalc.specs.Cells.{same_cell}
use Rattle.recalc.specs.Evaluated.{formula_at, sheet_of}
use Rattle.recalc.specs.Kept.{IsEvaluated, IsFurther, IsKeptOf, IsSettled, held_at}
use Rattle.recalc.specs.Sheet.{evaluated}
use Rattle.recalc.specs.Stack.{IsSound, on}
use Rattle.recalc.proofs.Progress.{EachOf, each_all, known_value}
use Rattle.recalc.proofs.Turn.{same_true}
use Rattle.affected_values.specs.declared.taking.HeldValue.{HeldValue}
use Rattle.affected_values.specs.Taken.{IsHeldBut, IsHeldWhere, IsRightBut, IsTaken, LeadsBack, taken_of}

abbrev pub IsHeldOf : Document → List KeptTable → HeldValue → Type 0
IsHeldOf s ks h = IsHeldWhere s ks h.cell

-- what is known stays known
pub held_stays : (s : Document) (old new : List KeptTable) → IsFurther s old new → (h : HeldValue) → IsHeldOf s old h → IsHeldOf s new h
held_stays s old new further h known there = further.stays h.cell (known there)

-- each cell that was taken is known
each_taken : (s : Document) (ks : List KeptTable) (taken : List HeldValue) → AllByRecursion (IsHeldOf s ks) taken → (c : CellId) → is_some (taken_of taken c) ≡ true → IsHeldWhere s ks c
each_taken s ks [] all c e = absurd (false≢true e)
each_taken s ks (h ∷ taken) all c e = by_cell (each_taken s ks taken all.1 c) (same_cell h.cell c) refl e
  where
    by_cell : (is_some (taken_of taken c) ≡ true → IsHeldWhere s ks c) → (b : Bool) → same_cell h.cell c ≡ b → is_some (cond b (Some h.value) (taken_of taken c)) ≡ true → IsHeldWhere s ks c
    by_cell later true same e = subst (IsHeldWhere s ks) (same_true h.cell c same) all.0
    by_cell later false same e = later e

-- so they are once all of the list are
pub taken_known : (s : Document) (ks : List KeptTable) (taken : List HeldValue) (n : ℕ) → length taken ≤ n → EachOf (IsHeldOf s ks) taken n → (c : CellId) → is_some (taken_of taken c) ≡ true → IsHeldWhere s ks c
taken_known s ks taken n le all = each_taken s ks taken (each_all (IsHeldOf s ks) taken n le all)

-- so all cells are
pub all_refreshed : (s : Document) (old new : List KeptTable) (taken : List HeldValue) → IsHeldBut s old taken → IsFurther s old new → ((c : CellId) → is_some (taken_of taken c) ≡ true → IsHeldWhere s new c) → IsEvaluated s new
all_refreshed s old new taken others further known = record {
  of_document = further.settled.of_document;
  values = λ c f e. known_value s new further.settled c (cases c (is_some (taken_of taken c)) refl (ap is_some e));
}
  where
    cases : (c : CellId) (b : Bool) → is_some (taken_of taken c) ≡ b → is_some (formula_at s c) ≡ true → is_some (held_at s new c) ≡ true
    cases c true e there = known c e there
    cases c false e there = further.stays c (others c e there)

-- ---- values taken out, cells evaluated, and values put back

none≢some : (v : CellValue) → None ≡ Some v → ⊥
none≢some v e = cc

module _ (s : Document) (old now : List KeptTable) (cells : List CellId) (taken : List HeldValue) (out : IsTaken cells taken (held_at s old) (held_at s now)) (right : IsRightBut s old cells) where
  left : (c : CellId) → on cells c ≡ false → held_at s now c ≡ held_at s old c
  left c e = out.out c ∙ ap (λ b. cond b None (held_at s old c)) e

  pub sound_left : IsSound (sheet_of s) (held_at s now)
  sound_left c v h = by (on cells c) refl
    where
      by : (b : Bool) → on cells c ≡ b → evaluated (sheet_of s) c ≡ v
      by true e = absurd (none≢some v (sym (out.out c ∙ ap (λ b. cond b None (held_at s old c)) e) ∙ h))
      by false e = right.right c v e (sym (left c e) ∙ h)

  pub settled_left : IsKeptOf s now → IsSettled s now
  settled_left kept = record { of_document = kept; sound = sound_left }

  pub held_left : IsHeldBut s now taken
  held_left c e there =
      let other : on cells c ≡ false = sym (out.each c) ∙ e in
      ap is_some (left c other) ∙ right.known c other there

  module _ (new : List KeptTable) (further : IsFurther s now new) where
    -- what was not taken out is what it was
    same_held : (c : CellId) → is_some (held_at s now c) ≡ true → held_at s new c ≡ held_at s now c
    same_held c h = by (held_at s now c) refl h (held_at s new c) refl (further.stays c h)
      where
        by : (o : Option CellValue) → held_at s now c ≡ o → is_some o ≡ true → (p : Option CellValue) → held_at s new c ≡ p → is_some p ≡ true → held_at s new c ≡ held_at s now c
        by None e i p f j = absurd (false≢true i)
        by (Some v) e i None f j = absurd (false≢true j)
        by (Some v) e i (Some w) f j = f ∙ ap (λ x. Some x) (sym (further.settled.sound c w f) ∙ sound_left c v e) ∙ sym e

    pub leads_back : LeadsBack s taken new old
    leads_back c there = by (taken_of taken c) refl (out.back c)
      where
        by : (o : Option (Option CellValue)) → taken_of taken c ≡ o → unwrap_or o (held_at s now c) ≡ held_at s old c → unwrap_or o (held_at s new c) ≡ held_at s old c
        by None e h = same_held c (held_left c (ap is_some e) there) ∙ h
        by (Some w) e h = h
