-- As much fuel as there are formula cells is enough.
use mathlib.Core.Path.{fun_ext}
use Rattle.std.proofs.Common.{ℕ, zero, suc, ◌+◌, ◌≤◌, Bool, true, false, List, [], ◌∷◌, length, ◌≡◌, ◌⊎◌, inl, inr, refl, sym, ap, ◌∙◌, subst, Option, Some, None, arith, unwrap_or}
use Rattle.std.specs.Option.{is_some}
use Rattle.cell_types.specs.declared.cell.CellId.{CellId}
use Rattle.cell_types.specs.declared.value.CellValue.TheVariants.{Err}
use Rattle.cell_types.specs.declared.value.ErrKind.TheVariants.{Circular}
use Rattle.recalc.specs.Sheet.{Sheet, IsIn, IsListed, step, value_by, eval}
use Rattle.recalc.specs.Stack.{one, count}
use Rattle.recalc.specs.SheetLaws.{SettledLaw, ValueLaw}
use Rattle.recalc.proofs.Settles.{settles}
use Rattle.recalc.proofs.Fuel.{fuel_one, fuel_law}

pub count_length : (p : CellId → Bool) (cs : List CellId) → count p cs ≤ length cs
count_length p [] = omega arith
count_length p (c ∷ cs) = elim (p c) as (λ b. one b + count p cs ≤ suc (length cs)) [ true ↦ omega (arith, count_length p cs) | false ↦ omega (arith, count_length p cs) ]

pub count_more : (p q : CellId → Bool) (cs : List CellId) → ((c : CellId) → p c ≡ true → q c ≡ true) → count p cs ≤ count q cs
count_more p q [] h = omega arith
count_more p q (c ∷ cs) h =
    elim (p c) as (λ b. p c ≡ b → one b + count p cs ≤ one (q c) + count q cs) [
      | true ↦ λ e. rw (h c e) (omega (arith, count_more p q cs h))
      | false ↦ λ e. omega (arith, count_more p q cs h)
    ] refl

count_step : (b d : Bool) (m n : ℕ) → m ≤ n → (b ≡ true → d ≡ true) → one b + m ≡ one d + n → (b ≡ d) × (m ≡ n)
count_step true true m n l h e = (refl, omega arith)
count_step true false m n l h e = absurd (false_true (h refl))
  where
    false_true : false ≡ true → ⊥
    false_true e = cc
count_step false true m n l h e = absurd (omega arith)
count_step false false m n l h e = (refl, omega arith)

-- where no more pass, the same pass
pub count_same : (p q : CellId → Bool) (cs : List CellId) → ((c : CellId) → p c ≡ true → q c ≡ true) → count p cs ≡ count q cs → (c : CellId) → IsIn c cs → p c ≡ q c
count_same p q [] h e c i = absurd i
count_same p q (d ∷ ds) h e c i =
    let r = count_step (p d) (q d) (count p ds) (count q ds) (count_more p q ds h) (h d) e in
    elim i [ inl w ↦ subst (λ x. p x ≡ q x) w r.0 | inr w ↦ count_same p q ds h r.1 c w ]

some_true : {X : Type 0} (o : Option X) → is_some o ≡ true → (x : X) × (o ≡ Some x)
some_true None e = absurd (no e)
  where
    no : false ≡ true → ⊥
    no e = cc
some_true (Some x) e = (x, refl)

some_more : {X : Type 0} (o p : Option X) → ((x : X) → o ≡ Some x → p ≡ Some x) → is_some o ≡ true → is_some p ≡ true
some_more o p h e = let x = some_true o e in ap is_some (h x.0 x.1)

some_same : {X : Type 0} (o p : Option X) → ((x : X) → o ≡ Some x → p ≡ Some x) → is_some o ≡ is_some p → o ≡ p
some_same None None h e = refl
some_same None (Some x) h e = absurd (no e)
  where
    no : false ≡ true → ⊥
    no e = cc
some_same (Some x) p h e = sym (h x refl)

module _ (s : Sheet) (listed : IsListed s) where
  -- how many formula cells have a value
  known_at : ℕ → ℕ
  known_at n = count (λ c. is_some (eval n s c)) s.cells

  -- where no more cells get a value, no value changes
  same_values : (n : ℕ) → count (λ c. is_some (eval n s c)) s.cells ≡ count (λ c. is_some (eval (suc n) s c)) s.cells → eval n s ≡ eval (suc n) s
  same_values n e = fun_ext each
    where
      more : (c : CellId) → is_some (eval n s c) ≡ true → is_some (eval (suc n) s c) ≡ true
      more c t = some_more (eval n s c) (eval (suc n) s c) (λ v f. fuel_one n s c v f) t

      each : (c : CellId) → eval n s c ≡ eval (suc n) s c
      each c =
          elim (s.formula c) as (λ o. s.formula c ≡ o → eval n s c ≡ eval (suc n) s c) [
            | None ↦ λ f. outside n c f ∙ sym (outside (suc n) c f)
            | Some g ↦ λ f. some_same (eval n s c) (eval (suc n) s c) (λ v. fuel_one n s c v) (count_same (λ d. is_some (eval n s d)) (λ d. is_some (eval (suc n) s d)) s.cells more e c (listed c g f))
          ] refl
        where
          outside : (m : ℕ) (c : CellId) → s.formula c ≡ None → eval m s c ≡ None
          outside zero c f = refl
          outside (suc m) c f = ap (value_by s (eval m s) c) f

  -- from as much fuel as there are formula cells on, no step changes anything
  pub settled : (n : ℕ) → length s.cells ≤ n → eval n s ≡ eval (suc n) s
  settled = settles (step s) (λ n. eval n s) (λ n. refl) (λ k. count (λ c. is_some (k c)) s.cells) (length s.cells)
      (λ n. count_length (λ c. is_some (eval n s c)) s.cells)
      (λ n. count_more (λ c. is_some (eval n s c)) (λ c. is_some (eval (suc n) s c)) s.cells (λ c t. some_more (eval n s c) (eval (suc n) s c) (λ v f. fuel_one n s c v f) t))
      same_values

  pub settled_from : (n : ℕ) → length s.cells ≤ n → eval n s ≡ eval (length s.cells) s
  settled_from zero l = ap (λ i. eval i s) (sym (le_zero (length s.cells) l))
    where
      le_zero : (m : ℕ) → m ≤ 0 → m ≡ 0
      le_zero m h = omega arith
  settled_from (suc n) l = elim (split (length s.cells) n l) [ inl p ↦ ap (λ i. eval i s) (sym p) | inr q ↦ sym (settled n q) ∙ settled_from n q ]
    where
      split : (m n : ℕ) → m ≤ suc n → (m ≡ suc n) ⊎ (m ≤ n)
      split m n h = grind arith

pub settled_law : SettledLaw
settled_law s listed c v n e =
    elim (split n (length s.cells)) [
      | inl l ↦ fuel_law s c v n (length s.cells) l e
      | inr l ↦ subst (λ k. k c ≡ Some v) (settled_from s listed n l) e
    ]
  where
    split : (m n : ℕ) → (m ≤ n) ⊎ (n ≤ m)
    split m n = grind arith

pub value_law : ValueLaw
value_law s listed c v n e = ap (λ o. unwrap_or o (Err Circular)) (settled_law s listed c v n e)

-- the evaluated cells are those of one step over themselves
pub fixed : (s : Sheet) → IsListed s → (c : CellId) → eval (length s.cells) s c ≡ step s (eval (length s.cells) s) c
fixed s listed c = ap (λ k. k c) (settled s listed (length s.cells) (omega arith))
