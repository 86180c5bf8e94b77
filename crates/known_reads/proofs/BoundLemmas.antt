-- The bound on attempts falls as values come.
use Rattle.std.proofs.Common.{ℕ, zero, suc, ◌+◌, ◌≤◌, ◌<◌, Bool, true, false, cond, not, nat_eq, ◌||◌, List, [], ◌∷◌, ◌++◌, length, length-append, filter, ◌≡◌, inl, inr, refl, sym, ap, ◌∙◌, subst, Some, arith}
use Rattle.std.proofs.lemmas.Bool.{false≢true, true≢false}
use Rattle.std.proofs.lemmas.List.Recursion.{is_sum_by}
use Rattle.std.specs.List.{sum_by}
use Rattle.std.specs.Option.{is_some}
use Rattle.cell_types.specs.declared.cell.CellId.{CellId}
use Rattle.cell_types.specs.declared.value.CellValue.{CellValue}
use Rattle.cell_types.specs.declared.value.CellValue.TheVariants.{Err}
use Rattle.cell_types.specs.declared.value.ErrKind.TheVariants.{Circular}
use Rattle.recalc.specs.Cells.{same_cell}
use Rattle.recalc.specs.Sheet.{IsIn, Sheet, Values, evaluated}
use Rattle.recalc.specs.Stack.{AreOpen, IsOpen, count, is_open, one}
use Rattle.recalc.proofs.Turn.{same_itself}
use Rattle.affected_cells.specs.Bound.{attempt_bound, names}
use Rattle.recalc.specs.Turn.{StaysKnown}
use Rattle.known_reads.specs.Attempts.{IsNaming, IsSpent, IsWithin, attempts_of, due, height, is_circular, most_attempts, open_attempts, open_bound}
use Rattle.known_reads.specs.Beside.{Beside}
use Rattle.known_reads.specs.Recorded.{HasOpen, open_count}
use Rattle.known_reads.proofs.CountLemmas.{open_before}

-- ---- sums over the cells that pass a test

abbrev total : (CellId → ℕ) → List CellId → ℕ
total w [] = 0
total w (c ∷ cs) = w c + total w cs

is_total : (w : CellId → ℕ) (cs : List CellId) → total w cs ≡ sum_by w cs
is_total w cs = is_sum_by (total w) w refl (λ c cs. refl) cs

is_count : (r : CellId → Bool) (cs : List CellId) → count r cs ≡ total (λ c. one (r c)) cs
is_count r [] = refl
is_count r (c ∷ cs) = ap (λ n. one (r c) + n) (is_count r cs)

total_less : (w v : CellId → ℕ) → ((c : CellId) → w c ≤ v c) → (cs : List CellId) → total w cs ≤ total v cs
total_less w v h [] = omega arith
total_less w v h (c ∷ cs) = omega (arith, h c, total_less w v h cs)

-- all pass a test that always passes
all_pass : (cs : List CellId) → filter (λ _. true) cs ≡ cs
all_pass [] = refl
all_pass (c ∷ cs) = ap (λ ds. c ∷ ds) (all_pass cs)

-- where each weighs 1 at least
total_some : (w : CellId → ℕ) → ((c : CellId) → 1 ≤ w c) → (p : CellId → Bool) (cs : List CellId) → count p cs ≤ total w (filter p cs)
total_some w h p [] = omega arith
total_some w h p (c ∷ cs) = let rest = total_some w h p cs in elim (p c) as (λ b. one b + count p cs ≤ total w (cond b (c ∷ filter p cs) (filter p cs))) [
  | true ↦ omega (arith, rest, h c)
  | false ↦ omega (arith, rest)
]

-- one of those that pass a test passes another
count_some : (r p : CellId → Bool) (d : CellId) → r d ≡ true → p d ≡ true → (cs : List CellId) → IsIn d cs → 1 ≤ count r (filter p cs)
count_some r p d named here [] i = absurd i
count_some r p d named here (c ∷ cs) (inl e) = by (p c) (ap p e ∙ here)
  where
    by : (b : Bool) → b ≡ true → 1 ≤ count r (cond b (c ∷ filter p cs) (filter p cs))
    by true g = let first = ap one (ap r e ∙ named) in omega (arith, first)
    by false g = absurd (false≢true g)
count_some r p d named here (c ∷ cs) (inr i) = by (count_some r p d named here cs i) (p c)
  where
    by : 1 ≤ count r (filter p cs) → (b : Bool) → 1 ≤ count r (cond b (c ∷ filter p cs) (filter p cs))
    by rest true = omega (arith, rest)
    by rest false = rest

-- fewer cells pass the first test
module _ (p q : CellId → Bool) (sub : (c : CellId) → p c ≡ true → q c ≡ true) where
  total_sub : (w : CellId → ℕ) (cs : List CellId) → total w (filter p cs) ≤ total w (filter q cs)
  total_sub w [] = omega arith
  total_sub w (c ∷ cs) = by (total_sub w cs) (p c) refl (q c) refl
    where
      by : total w (filter p cs) ≤ total w (filter q cs) → (a : Bool) → p c ≡ a → (b : Bool) → q c ≡ b → total w (cond a (c ∷ filter p cs) (filter p cs)) ≤ total w (cond b (c ∷ filter q cs) (filter q cs))
      by rest true e true f = omega (arith, rest)
      by rest true e false f = absurd (true≢false (sym (sub c e) ∙ f))
      by rest false e true f = omega (arith, rest)
      by rest false e false f = rest

  count_sub : (r : CellId → Bool) (cs : List CellId) → count r (filter p cs) ≤ count r (filter q cs)
  count_sub r cs = rw (is_count r (filter p cs), is_count r (filter q cs)) (total_sub (λ c. one (r c)) cs)

  -- one that passes the second and not the first
  module _ (top : CellId) (out : p top ≡ false) (was : q top ≡ true) where
    total_loss : (w : CellId → ℕ) (cs : List CellId) → IsIn top cs → total w (filter p cs) + w top ≤ total w (filter q cs)
    total_loss w [] i = absurd i
    total_loss w (c ∷ cs) (inl e) = by (total_sub w cs) (p c) (ap p e ∙ out) (q c) (ap q e ∙ was)
      where
        by : total w (filter p cs) ≤ total w (filter q cs) → (a : Bool) → a ≡ false → (b : Bool) → b ≡ true → total w (cond a (c ∷ filter p cs) (filter p cs)) + w top ≤ total w (cond b (c ∷ filter q cs) (filter q cs))
        by rest true g b f = absurd (true≢false g)
        by rest false g true f = let here = ap w e in omega (arith, rest, here)
        by rest false g false f = absurd (false≢true f)
    total_loss w (c ∷ cs) (inr i) = by (total_loss w cs i) (p c) refl (q c) refl
      where
        by : total w (filter p cs) + w top ≤ total w (filter q cs) → (a : Bool) → p c ≡ a → (b : Bool) → q c ≡ b
            → total w (cond a (c ∷ filter p cs) (filter p cs)) + w top ≤ total w (cond b (c ∷ filter q cs) (filter q cs))
        by rest true e true f = omega (arith, rest)
        by rest true e false f = absurd (true≢false (sym (sub c e) ∙ f))
        by rest false e true f = omega (arith, rest)
        by rest false e false f = rest

    count_loss : (r : CellId → Bool) → r top ≡ true → (cs : List CellId) → IsIn top cs → count r (filter p cs) + 1 ≤ count r (filter q cs)
    count_loss r h cs i =
        let less = total_loss (λ c. one (r c)) cs i in
        let here = ap one h in
        let first = is_count r (filter p cs) in
        let second = is_count r (filter q cs) in
        omega (arith, less, here, first, second)

-- one cell that passes weighs less
total_less_at : (p : CellId → Bool) (w v : CellId → ℕ) → ((c : CellId) → w c ≤ v c) → (at : CellId) → p at ≡ true → w at + 1 ≤ v at → (cs : List CellId) → IsIn at cs → total w (filter p cs) + 1 ≤ total v (filter p cs)
total_less_at p w v h at here less [] i = absurd i
total_less_at p w v h at here less (c ∷ cs) (inl e) = by (total_less w v h (filter p cs)) (p c) (ap p e ∙ here)
  where
    by : total w (filter p cs) ≤ total v (filter p cs) → (a : Bool) → a ≡ true → total w (cond a (c ∷ filter p cs) (filter p cs)) + 1 ≤ total v (cond a (c ∷ filter p cs) (filter p cs))
    by rest true g = let one = ap w e in let two = ap v e in omega (arith, rest, less, one, two)
    by rest false g = absurd (false≢true g)
total_less_at p w v h at here less (c ∷ cs) (inr i) = by (total_less_at p w v h at here less cs i) (p c)
  where
    by : total w (filter p cs) + 1 ≤ total v (filter p cs) → (a : Bool) → total w (cond a (c ∷ filter p cs) (filter p cs)) + 1 ≤ total v (cond a (c ∷ filter p cs) (filter p cs))
    by rest true = let more = h c in omega (arith, rest, more)
    by rest false = rest

-- ---- the bound

module _ (s : Sheet) (cells : List CellId) where
  -- for each cell 1, and one for each of these that it names
  abbrev weight : List CellId → CellId → ℕ
  weight ds c = 1 + count (names s c) ds

  as_bound : (ds : List CellId) → attempt_bound s ds ≡ total (weight ds) ds
  as_bound ds = sym (is_total (weight ds) ds)

  -- what the bound for fewer cells is
  pub bound_less : (p q : CellId → Bool) → ((c : CellId) → p c ≡ true → q c ≡ true) → attempt_bound s (filter p cells) ≤ attempt_bound s (filter q cells)
  bound_less p q sub =
      let one = total_less (weight (filter p cells)) (weight (filter q cells)) (λ c. let n = count_sub p q sub (names s c) cells in omega (arith, n)) (filter p cells) in
      let two = total_sub p q sub (weight (filter q cells)) cells in
      let first = as_bound (filter p cells) in
      let second = as_bound (filter q cells) in
      omega (arith, one, two, first, second)

  module _ (p q : CellId → Bool) (sub : (c : CellId) → p c ≡ true → q c ≡ true) (top : CellId) (out : p top ≡ false) (was : q top ≡ true) (i : IsIn top cells) where
    -- a cell less, with the cells that it names
    pub bound_loss : attempt_bound s (filter p cells) + 1 + count (names s top) (filter q cells) ≤ attempt_bound s (filter q cells)
    bound_loss =
        let one = total_less (weight (filter p cells)) (weight (filter q cells)) (λ c. let n = count_sub p q sub (names s c) cells in omega (arith, n)) (filter p cells) in
        let two = total_loss p q sub top out was (weight (filter q cells)) cells i in
        let first = as_bound (filter p cells) in
        let second = as_bound (filter q cells) in
        omega (arith, one, two, first, second)

    -- so where a cell that stays names it
    pub bound_loss_below : (below : CellId) → p below ≡ true → IsIn below cells → names s below top ≡ true → attempt_bound s (filter p cells) + 2 + count (names s top) (filter q cells) ≤ attempt_bound s (filter q cells)
    bound_loss_below below here j named =
        let less = count_loss p q sub top out was (names s below) named cells i in
        let one = total_less_at p (weight (filter p cells)) (weight (filter q cells)) (λ c. let n = count_sub p q sub (names s c) cells in omega (arith, n)) below here (omega (arith, less)) cells j in
        let two = total_loss p q sub top out was (weight (filter q cells)) cells i in
        let first = as_bound (filter p cells) in
        let second = as_bound (filter q cells) in
        omega (arith, one, two, first, second)

  -- each cell takes one at least
  pub count_bound : (p : CellId → Bool) → count p cells ≤ attempt_bound s (filter p cells)
  count_bound p =
      let few = total_some (weight (filter p cells)) (λ c. omega arith) p cells in
      let first = as_bound (filter p cells) in
      omega (arith, few, first)

  -- all of them
  pub bound_all : (p : CellId → Bool) → attempt_bound s (filter p cells) ≤ attempt_bound s cells
  bound_all p = subst (λ l. attempt_bound s (filter p cells) ≤ attempt_bound s l) (all_pass cells) (bound_less p (λ _. true) (λ c h. refl))

-- ---- attempts at each cell

module _ (s : Sheet) (cells : List CellId) where
  as_most : (cs : List CellId) → most_attempts s cs ≡ total (attempts_of s) cs
  as_most cs = sym (is_total (attempts_of s) cs)

  most_loss : (p q : CellId → Bool) → ((c : CellId) → p c ≡ true → q c ≡ true) → (top : CellId) → p top ≡ false → q top ≡ true → IsIn top cells → most_attempts s (filter p cells) + attempts_of s top ≤ most_attempts s (filter q cells)
  most_loss p q sub top out was i =
      let less = total_loss p q sub top out was (attempts_of s) cells i in
      let first = as_most (filter p cells) in
      let second = as_most (filter q cells) in
      omega (arith, less, first, second)

  most_some : (p : CellId → Bool) → count p cells ≤ most_attempts s (filter p cells)
  most_some p =
      let few = total_some (attempts_of s) (λ c. omega arith) p cells in
      let first = as_most (filter p cells) in
      omega (arith, few, first)

  pub most_all : (p : CellId → Bool) → most_attempts s (filter p cells) ≤ most_attempts s cells
  most_all p =
      let less = total_sub p (λ _. true) (λ c h. refl) (attempts_of s) cells in
      let first = as_most (filter p cells) in
      let second = as_most cells in
      let same = ap (total (attempts_of s)) (all_pass cells) in
      omega (arith, less, first, second, same)

-- ---- the stack

pub height_snoc : (front : List CellId) (top : CellId) → height (front ++ top ∷ []) ≡ length front
height_snoc [] top = refl
height_snoc (c ∷ cs) top = let more = length-append cs (top ∷ []) in omega (arith, more)

pub height_some : (stack : List CellId) → 0 < length stack → height stack + 1 ≡ length stack
height_some [] h = absurd (omega (arith, h))
height_some (c ∷ cs) h = omega arith

-- what is not 0 is more
pub some_left : (n : ℕ) (b : Bool) → b ≡ nat_eq n 0 → b ≡ false → 0 < n
some_left zero b e h = absurd (true≢false (sym e ∙ h))
some_left (suc m) b e h = omega arith

-- a stack is at most one higher than its front
height_low : (front : List CellId) → length front ≤ height front + 1
height_low [] = omega arith
height_low (c ∷ cs) = omega arith

module _ (s : Sheet) where
  pub naming_front : (front : List CellId) (top : CellId) → IsNaming s (front ++ top ∷ []) → IsNaming s front
  naming_front [] top h = tt
  naming_front (c ∷ []) top h = tt
  naming_front (c ∷ d ∷ ds) top h = (h.0, naming_front (d ∷ ds) top h.1)

  pub naming_push : (front : List CellId) (top d : CellId) → IsNaming s (front ++ top ∷ []) → names s top d ≡ true → IsNaming s ((front ++ top ∷ []) ++ d ∷ [])
  naming_push [] top d h named = (named, tt)
  naming_push (b ∷ []) top d h named = (h.0, (named, tt))
  naming_push (a ∷ b ∷ front) top d h named = (h.0, naming_push (b ∷ front) top d h.1 named)

not_either : (a : Bool) → (a || false) ≡ false → a ≡ false
not_either true e = e
not_either false e = refl

module _ (s : Sheet) (k : Values) (top : CellId) where
  -- the cell below the top
  below_of : (c : CellId) (cs : List CellId) → AreOpen s k ((c ∷ cs) ++ top ∷ []) → IsNaming s ((c ∷ cs) ++ top ∷ []) → (b : CellId) × IsOpen s k b × (same_cell top b ≡ false) × (names s b top ≡ true)
  below_of c [] all naming = (c, all.0, not_either (same_cell top c) all.1, naming.0)
  below_of c (d ∷ ds) all naming = below_of d ds all.2 naming.1

-- a value that is put
module _ (s : Sheet) (k j : Values) (top : CellId) (v : CellValue) (puts : (c : CellId) → j c ≡ cond (same_cell top c) (Some v) (k c)) (opened : IsOpen s k top) where
  fewer : (c : CellId) → is_open j c ≡ true → is_open k c ≡ true
  fewer c h = by (same_cell top c) (sym (ap (λ o. not (is_some o)) (puts c)) ∙ h)
    where
      by : (b : Bool) → not (is_some (cond b (Some v) (k c))) ≡ true → not (is_some (k c)) ≡ true
      by true e = absurd (false≢true e)
      by false e = e

  pub put_bound : (cells : List CellId) → HasOpen s k cells → (front : List CellId) → AreOpen s k (front ++ top ∷ []) → IsNaming s (front ++ top ∷ []) → open_bound s j cells + 1 + length front + count (names s top) (filter (is_open k) cells) ≤ open_bound s k cells + height front
  put_bound cells has front all naming = by front all naming
    where
      out : is_open j top ≡ false
      out = ap (λ o. not (is_some o)) (puts top ∙ ap (λ b. cond b (Some v) (k top)) (same_itself top))

      was : is_open k top ≡ true
      was = ap (λ o. not (is_some o)) opened.1

      by : (front : List CellId) → AreOpen s k (front ++ top ∷ []) → IsNaming s (front ++ top ∷ []) → open_bound s j cells + 1 + length front + count (names s top) (filter (is_open k) cells) ≤ open_bound s k cells + height front
      by [] all naming = let less = bound_loss s cells (is_open j) (is_open k) fewer top out was (has top opened) in omega (arith, less)
      by (c ∷ cs) all naming =
          let b = below_of s k top c cs all naming in
          let less = bound_loss_below s cells (is_open j) (is_open k) fewer top out was (has top opened) b.0
          (ap (λ o. not (is_some o)) (puts b.0 ∙ ap (λ q. cond q (Some v) (k b.0)) b.2 ∙ b.1.1)) (has b.0 b.1) b.3 in
          omega (arith, less)

  put_most : (cells : List CellId) → HasOpen s k cells → open_attempts s j cells + attempts_of s top ≤ open_attempts s k cells
  put_most cells has = most_loss s cells (is_open j) (is_open k) fewer top
      (ap (λ o. not (is_some o)) (puts top ∙ ap (λ b. cond b (Some v) (k top)) (same_itself top))) (ap (λ o. not (is_some o)) opened.1) (has top opened)

  -- what one attempt comes to that gives a cell its value
  pub put_spent : (front stack : List CellId) → stack ≡ front ++ top ∷ [] → AreOpen s k stack → IsNaming s stack
      → (old new : ℕ) → new ≤ old + 1 → IsSpent s k stack old j front new
  put_spent front stack is all naming old new step = subst (λ l. IsSpent s k l old j front new) (sym is) (record {
    twice = λ cells has. let less = put_most cells has in let high = height_snoc front top in let low = height_low front in omega (arith, less, high, low, step);
    named = λ cells has. let less = put_bound cells has front (subst (AreOpen s k) is all) (subst (IsNaming s) is naming) in let high = height_snoc front top in omega (arith, less, high, step);
  })

  -- the same where the cell is circular, for it names an open one, and has one attempt more
  pub close_spent : evaluated s top ≡ Err Circular → (d : CellId) → IsOpen s k d → names s top d ≡ true → (front stack : List CellId) → stack ≡ front ++ top ∷ [] → AreOpen s k stack → IsNaming s stack
      → (old new : ℕ) → new ≤ old + 2 → IsSpent s k stack old j front new
  close_spent circular d waits named front stack is all naming old new step = subst (λ l. IsSpent s k l old j front new) (sym is) (record {
    twice = λ cells has. let less = put_most cells has in let third = ap (λ w. one (is_circular w)) circular in let high = height_snoc front top in let low = height_low front in omega (arith, less, third, high, low, step);
    named = λ cells has.
        let less = put_bound cells has front (subst (AreOpen s k) is all) (subst (IsNaming s) is naming) in
        let more = count_some (names s top) (is_open k) d named (ap (λ o. not (is_some o)) waits.1) cells (has d waits) in
        let high = height_snoc front top in omega (arith, less, more, high, step);
  })

-- what one attempt comes to that puts a cell on the stack
pub push_spent : (s : Sheet) (k : Values) (front stack pushed next : List CellId) (top d : CellId) → stack ≡ front ++ top ∷ [] → pushed ≡ front ++ top ∷ [] → next ≡ pushed ++ d ∷ []
    → (old new : ℕ) → new ≤ old + 1 → IsSpent s k stack old k next new
push_spent s k front stack pushed next top d is p n old new step =
    let first = ap height is ∙ height_snoc front top in
    let second = ap height n ∙ height_snoc pushed d in
    let longer = ap length p ∙ length-append front (top ∷ []) in
    record { twice = λ cells has. omega (arith, first, second, longer, step); named = λ cells has. omega (arith, first, second, longer, step) }

pub spent_none : (s : Sheet) (k : Values) (stack : List CellId) (n : ℕ) → height stack ≡ 0 → IsSpent s k [] n k stack n
spent_none s k stack n flat = record { twice = λ cells has. omega (arith, flat); named = λ cells has. omega (arith, flat) }

pub spent_next : (s : Sheet) (k j i : Values) (a b c : List CellId) (old mid new : ℕ) → StaysKnown k j → IsSpent s k a old j b mid → IsSpent s j b mid i c new → IsSpent s k a old i c new
spent_next s k j i a b c old mid new stays one two = record {
  twice = λ cells has. let first = one.twice cells has in let second = two.twice cells (open_before s k j stays cells has) in omega (arith, first, second);
  named = λ cells has. let first = one.named cells has in let second = two.named cells (open_before s k j stays cells has) in omega (arith, first, second);
}

pub spent_within : (s : Sheet) (k j : Values) (stack : List CellId) (old new : ℕ) → height stack ≡ 0 → IsSpent s k [] old j stack new → IsWithin s k old new
spent_within s k j stack old new flat h = record {
  twice = λ cells has. let first = h.twice cells has in omega (arith, first, flat);
  named = λ cells has. let first = h.named cells has in omega (arith, first, flat);
}

-- less what the stale cells will take
pub due_within : (s : Sheet) (k : Values) (old new : ℕ) (known : Beside) → IsWithin s k old (due new known) → IsWithin s k old new
due_within s k old new known h = record {
  twice = λ cells has. let first = h.twice cells has in omega (arith, first);
  named = λ cells has. let first = h.named cells has in omega (arith, first);
}

-- one attempt more at a stack of open cells
pub spent_err : (s : Sheet) (k j : Values) (stack : List CellId) (old mid new : ℕ) → StaysKnown k j → 0 < length stack → ((cells : List CellId) → HasOpen s j cells → length stack ≤ open_count j cells)
    → IsSpent s k [] old j stack mid → new ≤ mid + 1 → IsWithin s k old new
spent_err s k j stack old mid new stays some few h step = record {
  twice = λ cells has. let first = h.twice cells has in let high = height_some stack some in let least = few cells (open_before s k j stays cells has) in let more = most_some s cells (is_open j) in omega (arith, first, high, least, more, step);
  named = λ cells has. let first = h.named cells has in let high = height_some stack some in let least = few cells (open_before s k j stays cells has) in let more = count_bound s cells (is_open j) in omega (arith, first, high, least, more, step);
}

pub within_next : (s : Sheet) (k j : Values) (old mid new : ℕ) → StaysKnown k j → IsSpent s k [] old j [] mid → IsWithin s j mid new → IsWithin s k old new
within_next s k j old mid new stays one two = record {
  twice = λ cells has. let first = one.twice cells has in let second = two.twice cells (open_before s k j stays cells has) in omega (arith, first, second);
  named = λ cells has. let first = one.named cells has in let second = two.named cells (open_before s k j stays cells has) in omega (arith, first, second);
}
