-- The turns of whole evaluation.
use Rattle.std.proofs.Common.{◌<◌, true, false, cond, not, ◌&&◌, List, [], ◌∷◌, ◌++◌, ◌≡◌, refl, sym, ap, ◌∙◌, subst, Option, Some, None, Result, Ok, Err as Fails, OnOk}
use Rattle.std.proofs.lemmas.Bool.{true≢false}
use Rattle.std.specs.Option.{is_some}
use Rattle.cell_types.specs.declared.cell.CellId.{CellId}
use Rattle.cell_types.specs.declared.value.CellValue.{CellValue}
use Rattle.cell_types.specs.declared.value.CellValue.TheVariants.{Err}
use Rattle.cell_types.specs.declared.value.ErrKind.TheVariants.{Circular}
use Rattle.recalc.specs.Sheet.{Sheet, Values, evaluated}
use Rattle.recalc.specs.Cells.{same_cell}
use Rattle.recalc.specs.Stack.{IsChain, IsSheet, IsSound, Waits, IsOpen, AreOpen, IsWorking, on, is_fresh, work}
use Rattle.recalc.specs.Turn.{IsTurn, IsSettling, StaysKnown}
use Rattle.recalc.proofs.Moves.{top_open, put_working, put_handled, put_work, push_on, push_working, push_handled, push_work, circular_top}

module _ (s : Sheet) (sheet : IsSheet s) (k : Values) (stack front : List CellId) (top : CellId) (is : stack ≡ front ++ top ∷ []) (w : IsWorking s k stack) where
  pub turn_open : IsOpen s k top
  turn_open = top_open s sheet k front top (subst (λ l. AreOpen s k l) is w.each_open)

  pub turn_value : (v : CellValue) (j : Values) → evaluated s top ≡ v → ((c : CellId) → j c ≡ cond (same_cell top c) (Some v) (k c)) → IsTurn s k stack j front
  turn_value v j e puts = record {
    working = put_working s sheet k j top v puts front (subst (λ l. IsWorking s k l) is w) e;
    less = subst (λ l. work s j front < work s k l) (sym is) (put_work s sheet k j top v puts front (subst (λ l. AreOpen s k l) is w.each_open));
    handled = λ c h. put_handled s sheet k j top v puts front c (subst (λ l. is_fresh k l c ≡ false) is h);
  }

  pub turn_circular : (d : CellId) (j : Values) → Waits s top d → on (front ++ top ∷ []) d ≡ true → ((c : CellId) → j c ≡ cond (same_cell top c) (Some (Err Circular)) (k c)) → IsTurn s k stack j front
  turn_circular d j waits here puts = turn_value (Err Circular) j (circular_top s front top d (subst (λ l. IsChain s l) is w.chain) waits here) puts

  pub turn_push : (d : CellId) (pushed next : List CellId) → Waits s top d → IsOpen s k d → on (front ++ top ∷ []) d ≡ false
      → pushed ≡ front ++ top ∷ [] → next ≡ pushed ++ d ∷ [] → IsTurn s k stack k next
  turn_push d pushed next waits opened off p n = subst (λ l. IsTurn s k stack k l) (sym (n ∙ ap (λ l. l ++ d ∷ []) p)) (subst (λ l. IsTurn s k l k ((front ++ top ∷ []) ++ d ∷ [])) (sym is) (record {
    working = push_working s sheet k front top d (subst (λ l. IsWorking s k l) is w) waits opened off;
    less = push_work s sheet k (front ++ top ∷ []) d opened off;
    handled = push_handled s sheet k (front ++ top ∷ []) d;
  }))

pub on_ok : {A E : Type 0} (P Q : Type 0) (r : Result A E) → (P → Q) → OnOk r P → OnOk r Q
on_ok P Q (Ok x) h p = h p
on_ok P Q (Fails e) h p = tt

-- what is known stays known
pub put_stays : (k j : Values) (c : CellId) (v : CellValue) → ((d : CellId) → j d ≡ cond (same_cell c d) (Some v) (k d)) → StaysKnown k j
put_stays k j c v puts d h = ap is_some (puts d) ∙ elim (same_cell c d) as (λ b. is_some (cond b (Some v) (k d)) ≡ true) [ true ↦ refl | false ↦ h ]

fresh_none : (k : Values) (c : CellId) → is_fresh k [] c ≡ false → is_some (k c) ≡ true
fresh_none k c e = parts (k c) e
  where
    parts : (o : Option CellValue) → (not (is_some o) && true) ≡ false → is_some o ≡ true
    parts None e = absurd (true≢false e)
    parts (Some v) e = refl

module _ (s : Sheet) (first : Values) (cell : CellId) where
  pub settling_start : IsSheet s → IsSound s first → IsOpen s first cell → (stack : List CellId) → stack ≡ cell ∷ [] → IsSettling s first cell first stack
  settling_start sheet sound opened stack is = subst (λ l. IsSettling s first cell first l) (sym is) (record {
    working = record { sound = sound; each_open = (opened, refl, tt); chain = tt };
    here = push_on s sheet first [] cell;
    stays = λ c h. push_handled s sheet first [] cell c h;
  })

  pub settling_turn : (j i : Values) (stack next : List CellId) → IsSettling s first cell j stack → IsTurn s j stack i next → IsSettling s first cell i next
  settling_turn j i stack next w t = record { working = t.working; here = t.handled cell w.here; stays = λ c h. t.handled c (w.stays c h) }

  pub settling_done : (j : Values) (stack : List CellId) → stack ≡ [] → IsSettling s first cell j stack → is_some (j cell) ≡ true
  settling_done j stack e w = fresh_none j cell (subst (λ l. is_fresh j l cell ≡ false) e w.here)

  pub settling_stays : (j : Values) (stack : List CellId) → stack ≡ [] → IsSettling s first cell j stack → StaysKnown first j
  settling_stays j stack e w c h = fresh_none j c (subst (λ l. is_fresh j l c ≡ false) e (w.stays c (ap (λ b. not b && true) h)))
