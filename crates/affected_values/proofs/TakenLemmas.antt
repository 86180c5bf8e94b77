-- Values taken out one after the other, and put back in the other order.
use Rattle.std.proofs.Common.{Bool, true, false, cond, ◌||◌, List, [], ◌∷◌, ◌++◌, ◌≡◌, refl, sym, ap, ◌∙◌, subst, Option, Some, None, unwrap_or}
use Rattle.std.proofs.lemmas.List.Folds.{list_any-append}
use Rattle.std.specs.Option.{is_some, option_or}
use Rattle.cell_types.specs.declared.cell.CellId.{CellId}
use Rattle.cell_types.specs.declared.value.CellValue.{CellValue}
use Rattle.recalc.specs.Cells.{same_cell}
use Rattle.recalc.specs.Sheet.{Values}
use Rattle.recalc.specs.Stack.{on}
use Rattle.recalc.proofs.Turn.{same_true}
use Rattle.affected_values.specs.declared.taking.HeldValue.{HeldValue}
use Rattle.affected_values.specs.Taken.{IsTaken, taken_of}

taken_snoc : (taken : List HeldValue) (h : HeldValue) (c : CellId) → taken_of (taken ++ h ∷ []) c ≡ option_or (taken_of taken c) (cond (same_cell h.cell c) (Some h.value) None)
taken_snoc [] h c = refl
taken_snoc (g ∷ taken) h c =
    elim (same_cell g.cell c) as (λ b. cond b (Some g.value) (taken_of (taken ++ h ∷ []) c) ≡ option_or (cond b (Some g.value) (taken_of taken c)) (cond (same_cell h.cell c) (Some h.value) None)) [
      | true ↦ refl
      | false ↦ taken_snoc taken h c
    ]

or_false : (b : Bool) → (b || false) ≡ b
or_false true = refl
or_false false = refl

on_snoc : (cells : List CellId) (x c : CellId) → on (cells ++ x ∷ []) c ≡ (on cells c || same_cell x c)
on_snoc cells x c = list_any-append (λ d. same_cell d c) cells (x ∷ []) ∙ ap (λ b. on cells c || b) (or_false (same_cell x c))

-- some of the first cells are taken, these are left
pub record IsTaking (first cells : List CellId) (taken : List HeldValue) (old now : Values) : Type 0 where
  pub gone : (c : CellId) → now c ≡ cond (is_some (taken_of taken c)) None (old c)
  pub all : (c : CellId) → (on cells c || is_some (taken_of taken c)) ≡ on first c
  pub back : (c : CellId) → unwrap_or (taken_of taken c) (now c) ≡ old c

pub taking_start : (cells : List CellId) (taken : List HeldValue) (k : Values) → taken ≡ [] → IsTaking cells cells taken k k
taking_start cells taken k none =
    subst (λ l. IsTaking cells cells l k k) (sym none) (record { gone = λ c. refl; all = λ c. or_false (on cells c); back = λ c. refl })

pub taking_end : (first cells : List CellId) (taken : List HeldValue) (old now : Values) → cells ≡ [] → IsTaking first cells taken old now → IsTaken first taken old now
taking_end first cells taken old now none h = record {
  out = λ c. h.gone c ∙ ap (λ b. cond b None (old c)) (cells_taken c);
  each = cells_taken;
  back = h.back;
}
  where
    cells_taken : (c : CellId) → is_some (taken_of taken c) ≡ on first c
    cells_taken c = ap (λ l. on l c || is_some (taken_of taken c)) (sym none) ∙ h.all c

module _ (first cells : List CellId) (x : CellId) (taken : List HeldValue) (old now : Values) (h : IsTaking first (cells ++ x ∷ []) taken old now)
    (v : Option CellValue) (was : v ≡ now x) (j : Values) (put : (c : CellId) → j c ≡ cond (same_cell x c) None (now c)) where
  abbrev held : HeldValue
  held = record { cell = x; value = v }

  gone_by : (c : CellId) (o : Option (Option CellValue)) (b : Bool) → now c ≡ cond (is_some o) None (old c) → cond b None (now c) ≡ cond (is_some (option_or o (cond b (Some v) None))) None (old c)
  gone_by c (Some w) true e = refl
  gone_by c (Some w) false e = e
  gone_by c None true e = refl
  gone_by c None false e = e

  all_by : (c : CellId) (o : Option (Option CellValue)) (a b : Bool) → ((a || b) || is_some o) ≡ on first c → (a || is_some (option_or o (cond b (Some v) None))) ≡ on first c
  all_by c o true b e = e
  all_by c (Some w) false true e = e
  all_by c (Some w) false false e = e
  all_by c None false true e = e
  all_by c None false false e = e

  back_by : (c : CellId) (o : Option (Option CellValue)) (b : Bool) → same_cell x c ≡ b → unwrap_or o (now c) ≡ old c → unwrap_or (option_or o (cond b (Some v) None)) (cond b None (now c)) ≡ old c
  back_by c (Some w) b same e = e
  back_by c None true same e = was ∙ ap now (same_true x c same) ∙ e
  back_by c None false same e = e

  pub taking_next : IsTaking first cells (taken ++ held ∷ []) old j
  taking_next = record {
    gone = λ c. put c ∙ gone_by c (taken_of taken c) (same_cell x c) (h.gone c) ∙ ap (λ o. cond (is_some o) None (old c)) (sym (taken_snoc taken held c));
    all = λ c. ap (λ o. on cells c || is_some o) (taken_snoc taken held c)
        ∙ all_by c (taken_of taken c) (on cells c) (same_cell x c) (ap (λ b. b || is_some (taken_of taken c)) (sym (on_snoc cells x c)) ∙ h.all c);
    back = λ c. ap (λ o. unwrap_or o (j c)) (taken_snoc taken held c) ∙ ap (unwrap_or (option_or (taken_of taken c) (cond (same_cell x c) (Some v) None))) (put c)
        ∙ back_by c (taken_of taken c) (same_cell x c) refl (h.back c);
  }

-- putting the last one back
pub back_next : (taken : List HeldValue) (h : HeldValue) (now j : Values) (c : CellId) → j c ≡ cond (same_cell h.cell c) h.value (now c)
    → unwrap_or (taken_of taken c) (j c) ≡ unwrap_or (taken_of (taken ++ h ∷ []) c) (now c)
back_next taken h now j c put =
    by_last (taken_of taken c) (same_cell h.cell c) put ∙ ap (λ o. unwrap_or o (now c)) (sym (taken_snoc taken h c))
  where
    by_last : (o : Option (Option CellValue)) (b : Bool) → j c ≡ cond b h.value (now c) → unwrap_or o (j c) ≡ unwrap_or (option_or o (cond b (Some h.value) None)) (now c)
    by_last (Some w) b e = refl
    by_last None true e = e
    by_last None false e = e
