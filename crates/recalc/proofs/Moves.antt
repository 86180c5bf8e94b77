-- What pushing a cell, and finishing the one on top, do to the stack and to the work that is left.
use Rattle.std.proofs.Common.{ℕ, zero, suc, ◌+◌, ◌≤◌, ◌<◌, Bool, true, false, cond, not, ◌&&◌, ◌||◌, List, [], ◌∷◌, ◌++◌, length, ◌≡◌, ◌⊎◌, inl, inr, refl, sym, ap, ◌∙◌, subst, Option, Some, None, arith, unwrap_or}
use Rattle.std.proofs.lemmas.Bool.{false≢true, true≢false}
use Rattle.std.specs.Option.{is_some}
use Rattle.cell_types.specs.declared.cell.CellId.{CellId}
use Rattle.cell_types.specs.declared.value.CellValue.{CellValue}
use Rattle.cell_types.specs.declared.value.CellValue.TheVariants.{Err}
use Rattle.cell_types.specs.declared.value.ErrKind.TheVariants.{Circular}
use Rattle.recalc.specs.Sheet.{Sheet, Values, IsIn, eval, evaluated}
use Rattle.recalc.specs.Cells.{same_cell}
use Rattle.recalc.specs.Stack.{IsSheet, IsSound, Waits, IsChain, IsOpen, AreOpen, IsWorking, on, count, is_open, is_fresh, work}
use Rattle.recalc.proofs.Fuel.{none_some}
use Rattle.recalc.proofs.Settled.{count_more, count_same}
use Rattle.recalc.proofs.Turn.{same_true, same_itself}

pub count_less : (p q : CellId → Bool) (cs : List CellId) (c : CellId) → IsIn c cs → ((d : CellId) → p d ≡ true → q d ≡ true) → p c ≡ false → q c ≡ true → count p cs < count q cs
count_less p q cs c i h e f = elim (split (count p cs) (count q cs) (count_more p q cs h)) [
  | inl s ↦ absurd (false≢true (sym e ∙ count_same p q cs h s c i ∙ f))
  | inr l ↦ l
]
  where
    split : (a b : ℕ) → a ≤ b → (a ≡ b) ⊎ (a < b)
    split a b h = grind arith

or_false : (a b : Bool) → (a || b) ≡ false → (a ≡ false) × (b ≡ false)
or_false true b e = absurd (true≢false e)
or_false false b e = (refl, e)

or_both : (a b : Bool) → a ≡ false → b ≡ false → (a || b) ≡ false
or_both true b e f = absurd (true≢false e)
or_both false b e f = f

pub on_append : (cs ds : List CellId) (c : CellId) → on (cs ++ ds) c ≡ (on cs c || on ds c)
on_append [] ds c = refl
on_append (d ∷ cs) ds c = elim (same_cell d c) as (λ b. (b || on (cs ++ ds) c) ≡ ((b || on cs c) || on ds c)) [ true ↦ refl | false ↦ on_append cs ds c ]

or_nothing : (b : Bool) → (b || false) ≡ b
or_nothing true = refl
or_nothing false = refl

-- neither known nor on the stack
fresh_parts : (k : Values) (stack : List CellId) (c : CellId) → is_fresh k stack c ≡ true → (k c ≡ None) × (on stack c ≡ false)
fresh_parts k stack c e = parts (k c) (on stack c) e
  where
    parts : (o : Option CellValue) (b : Bool) → (not (is_some o) && not b) ≡ true → (o ≡ None) × (b ≡ false)
    parts None true e = absurd (false≢true e)
    parts None false e = (refl, refl)
    parts (Some v) b e = absurd (false≢true e)

fresh_both : (k : Values) (stack : List CellId) (c : CellId) → k c ≡ None → on stack c ≡ false → is_fresh k stack c ≡ true
fresh_both k stack c e f = ap (λ o. not (is_some o) && not (on stack c)) e ∙ ap (λ b. not b) f

not_fresh : (a b : Bool) → (b ≡ true → a ≡ true) → a ≡ false → b ≡ false
not_fresh a true h e = absurd (true≢false (sym (h refl) ∙ e))
not_fresh a false h e = refl

in_cells : (s : Sheet) → IsSheet s → (k : Values) (c : CellId) → IsOpen s k c → IsIn c s.cells
in_cells s sheet k c h = sheet.listed c h.0.0 h.0.1

module _ (s : Sheet) (sheet : IsSheet s) where
  -- pushing
  push_fresh : (k : Values) (stack : List CellId) (d c : CellId) → is_fresh k (stack ++ d ∷ []) c ≡ true → is_fresh k stack c ≡ true
  push_fresh k stack d c e =
      let h = fresh_parts k (stack ++ d ∷ []) c e in
      fresh_both k stack c h.0 (or_false (on stack c) (on (d ∷ []) c) (sym (on_append stack (d ∷ []) c) ∙ h.1)).0

  pub push_handled : (k : Values) (stack : List CellId) (d c : CellId) → is_fresh k stack c ≡ false → is_fresh k (stack ++ d ∷ []) c ≡ false
  push_handled k stack d c e = not_fresh (is_fresh k stack c) (is_fresh k (stack ++ d ∷ []) c) (push_fresh k stack d c) e

  pub push_on : (k : Values) (stack : List CellId) (d : CellId) → is_fresh k (stack ++ d ∷ []) d ≡ false
  push_on k stack d = not_fresh false (is_fresh k (stack ++ d ∷ []) d) (λ e. absurd (true≢false (sym here ∙ (fresh_parts k (stack ++ d ∷ []) d e).1))) refl
    where
      here : on (stack ++ d ∷ []) d ≡ true
      here = on_append stack (d ∷ []) d ∙ ap (λ b. on stack d || (b || false)) (same_itself d) ∙ always (on stack d)
        where
          always : (b : Bool) → (b || true) ≡ true
          always true = refl
          always false = refl

  pub push_work : (k : Values) (stack : List CellId) (d : CellId) → IsOpen s k d → on stack d ≡ false → work s k (stack ++ d ∷ []) < work s k stack
  push_work k stack d opened off =
      right (count (is_open k) s.cells) (count (is_fresh k (stack ++ d ∷ [])) s.cells) (count (is_fresh k stack) s.cells)
      (count_less (is_fresh k (stack ++ d ∷ [])) (is_fresh k stack) s.cells d (in_cells s sheet k d opened) (push_fresh k stack d) (push_on k stack d) (fresh_both k stack d opened.1 off))
    where
      right : (a b c : ℕ) → b < c → a + b < a + c
      right a b c h = omega arith

  push_open : (k : Values) (stack : List CellId) (d : CellId) → AreOpen s k stack → IsOpen s k d → on stack d ≡ false → AreOpen s k (stack ++ d ∷ [])
  push_open k [] d all opened off = (opened, refl, tt)
  push_open k (c ∷ cs) d all opened off =
      let parts = or_false (same_cell c d) (on cs d) off in
      (all.0, on_append cs (d ∷ []) c ∙ or_both (on cs c) (on (d ∷ []) c) all.1 (or_both (same_cell d c) false (flip c d parts.0) refl), push_open k cs d all.2 opened parts.1)
    where
      flip : (c d : CellId) → same_cell c d ≡ false → same_cell d c ≡ false
      flip c d e = not_fresh false (same_cell d c) (λ t. absurd (true≢false (sym (subst (λ x. same_cell x d ≡ true) (same_true d c t) (same_itself d)) ∙ e))) refl

  push_chain : (front : List CellId) (c d : CellId) → IsChain s (front ++ c ∷ []) → Waits s c d → IsChain s ((front ++ c ∷ []) ++ d ∷ [])
  push_chain [] c d chain waits = (waits, tt)
  push_chain (b ∷ []) c d chain waits = (chain.0, (waits, tt))
  push_chain (a ∷ b ∷ front) c d chain waits = (chain.0, push_chain (b ∷ front) c d chain.1 waits)

  pub push_working : (k : Values) (front : List CellId) (c d : CellId) → IsWorking s k (front ++ c ∷ []) → Waits s c d → IsOpen s k d → on (front ++ c ∷ []) d ≡ false
      → IsWorking s k ((front ++ c ∷ []) ++ d ∷ [])
  push_working k front c d w waits opened off = record {
    sound = w.sound;
    each_open = push_open k (front ++ c ∷ []) d w.each_open opened off;
    chain = push_chain front c d w.chain waits;
  }

  pub top_open : (k : Values) (front : List CellId) (top : CellId) → AreOpen s k (front ++ top ∷ []) → IsOpen s k top
  top_open k [] top all = all.0
  top_open k (c ∷ cs) top all = top_open k cs top all.2

  -- finishing
  module _ (k j : Values) (top : CellId) (v : CellValue) (puts : (c : CellId) → j c ≡ cond (same_cell top c) (Some v) (k c)) where
    put_sound : IsSound s k → evaluated s top ≡ v → IsSound s j
    put_sound sound e c u h = elim (same_cell top c) as (λ b. same_cell top c ≡ b → evaluated s c ≡ u) [
      | true ↦ λ t. subst (λ x. evaluated s x ≡ v) (same_true top c t) e ∙ some_same (sym (ap (λ b. cond b (Some v) (k c)) t) ∙ sym (puts c) ∙ h)
      | false ↦ λ t. sound c u (sym (ap (λ b. cond b (Some v) (k c)) t) ∙ sym (puts c) ∙ h)
    ] refl
      where
        some_same : Some v ≡ Some u → v ≡ u
        some_same e = cc

    put_other : (c : CellId) → same_cell top c ≡ false → j c ≡ k c
    put_other c t = puts c ∙ ap (λ b. cond b (Some v) (k c)) t

    put_none : (c : CellId) → j c ≡ None → (same_cell top c ≡ false) × (k c ≡ None)
    put_none c h = elim (same_cell top c) as (λ b. same_cell top c ≡ b → (same_cell top c ≡ false) × (k c ≡ None)) [
      | true ↦ λ t. absurd (none_some (sym h ∙ puts c ∙ ap (λ b. cond b (Some v) (k c)) t))
      | false ↦ λ t. (t, sym (put_other c t) ∙ h)
    ] refl

    pub put_open : (front : List CellId) → AreOpen s k (front ++ top ∷ []) → AreOpen s j front
    put_open [] all = tt
    put_open (c ∷ cs) all =
        let parts = or_false (on cs c) (on (top ∷ []) c) (sym (on_append cs (top ∷ []) c) ∙ all.1) in
        ((all.0.0, put_other c (sym (or_nothing (same_cell top c)) ∙ parts.1) ∙ all.0.1), parts.0, put_open cs all.2)

    put_chain : (front : List CellId) → IsChain s (front ++ top ∷ []) → IsChain s front
    put_chain [] chain = tt
    put_chain (c ∷ []) chain = tt
    put_chain (c ∷ d ∷ ds) chain = (chain.0, put_chain (d ∷ ds) chain.1)

    pub put_working : (front : List CellId) → IsWorking s k (front ++ top ∷ []) → evaluated s top ≡ v → IsWorking s j front
    put_working front w e = record { sound = put_sound w.sound e; each_open = put_open front w.each_open; chain = put_chain front w.chain }

    put_fresh : (front : List CellId) (c : CellId) → is_fresh j front c ≡ true → is_fresh k (front ++ top ∷ []) c ≡ true
    put_fresh front c e =
        let h = fresh_parts j front c e in
        let g = put_none c h.0 in
        fresh_both k (front ++ top ∷ []) c g.1 (on_append front (top ∷ []) c ∙ or_both (on front c) (on (top ∷ []) c) h.1 (or_both (same_cell top c) false g.0 refl))

    pub put_handled : (front : List CellId) (c : CellId) → is_fresh k (front ++ top ∷ []) c ≡ false → is_fresh j front c ≡ false
    put_handled front c e = not_fresh (is_fresh k (front ++ top ∷ []) c) (is_fresh j front c) (put_fresh front c) e

    pub put_work : (front : List CellId) → AreOpen s k (front ++ top ∷ []) → work s j front < work s k (front ++ top ∷ [])
    put_work front all =
        sums (count (is_open j) s.cells) (count (is_open k) s.cells) (count (is_fresh j front) s.cells) (count (is_fresh k (front ++ top ∷ [])) s.cells)
        (count_less (is_open j) (is_open k) s.cells top (in_cells s sheet k top (top_open k front top all))
        (λ d e. ap (λ o. not (is_some o)) (put_none d (open_none (j d) e)).1)
        (ap (λ o. not (is_some o)) (puts top ∙ ap (λ b. cond b (Some v) (k top)) (same_itself top)))
        (ap (λ o. not (is_some o)) (top_open k front top all).1))
        (count_more (is_fresh j front) (is_fresh k (front ++ top ∷ [])) s.cells (put_fresh front))
      where
        sums : (a b c d : ℕ) → a < b → c ≤ d → a + c < b + d
        sums a b c d h g = omega arith

        open_none : (o : Option CellValue) → not (is_some o) ≡ true → o ≡ None
        open_none None e = refl
        open_none (Some u) e = absurd (false≢true e)

-- where the top waits for a cell of the stack, each cell of the stack is circular
module _ (s : Sheet) where
  none_below : (n : ℕ) (front : List CellId) (top : CellId) → IsChain s (front ++ top ∷ [])
      → ((c : CellId) → IsIn c (front ++ top ∷ []) → eval n s c ≡ None) → eval (suc n) s top ≡ None
      → (c : CellId) → IsIn c (front ++ top ∷ []) → eval (suc n) s c ≡ None
  none_below n [] top chain before last c (inl e) = subst (λ x. eval (suc n) s x ≡ None) e last
  none_below n [] top chain before last c (inr i) = absurd i
  none_below n (b ∷ []) top chain before last c (inl e) = subst (λ x. eval (suc n) s x ≡ None) e (chain.0 n (before top (inr (inl refl))))
  none_below n (b ∷ []) top chain before last c (inr i) = none_below n [] top chain.1 (λ d h. before d (inr h)) last c i
  none_below n (a ∷ b ∷ front) top chain before last c (inl e) = subst (λ x. eval (suc n) s x ≡ None) e (chain.0 n (before b (inr (inl refl))))
  none_below n (a ∷ b ∷ front) top chain before last c (inr i) = none_below n (b ∷ front) top chain.1 (λ d h. before d (inr h)) last c i

  pub never_any : (front : List CellId) (top d : CellId) → IsChain s (front ++ top ∷ []) → Waits s top d → IsIn d (front ++ top ∷ []) → (n : ℕ) (c : CellId) → IsIn c (front ++ top ∷ []) → eval n s c ≡ None
  never_any front top d chain waits here zero c i = refl
  never_any front top d chain waits here (suc n) c i =
      none_below n front top chain (never_any front top d chain waits here n) (waits n (never_any front top d chain waits here n d here)) c i

  pub on_in : (stack : List CellId) (d : CellId) → on stack d ≡ true → IsIn d stack
  on_in [] d e = absurd (false≢true e)
  on_in (c ∷ cs) d e = elim (same_cell c d) as (λ b. same_cell c d ≡ b → IsIn d (c ∷ cs)) [
    | true ↦ λ t. inl (same_true c d t)
    | false ↦ λ t. inr (on_in cs d (sym (ap (λ b. b || on cs d) t) ∙ e))
  ] refl

  last_in : (front : List CellId) (top : CellId) → IsIn top (front ++ top ∷ [])
  last_in [] top = inl refl
  last_in (c ∷ cs) top = inr (last_in cs top)

  pub circular_top : (front : List CellId) (top d : CellId) → IsChain s (front ++ top ∷ []) → Waits s top d → on (front ++ top ∷ []) d ≡ true → evaluated s top ≡ Err Circular
  circular_top front top d chain waits e =
      ap (λ o. unwrap_or o (Err Circular)) (never_any front top d chain waits (on_in (front ++ top ∷ []) d e) (length s.cells) top (last_in front top))
