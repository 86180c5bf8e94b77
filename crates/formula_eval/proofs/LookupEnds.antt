-- How a lookup in the program comes to what its run says.
use Rattle.std.proofs.Common.{ℕ, Bool, true, false, cond, List, [], ◌∷◌, ◌++◌, ◌≡◌, refl, sym, ap, ◌∙◌, subst, Result, Ok, Err, append_assoc}
use Rattle.std.proofs.lemmas.List.{append-nil}
use Rattle.cell_types.specs.declared.cell.KeyItem.{KeyItem}
use Rattle.formula_eval.specs.declared.note.Note.{Note}
use Rattle.formula_eval.specs.declared.note.Note.TheVariants as note
use Rattle.cell_types.specs.declared.value.CellValue.{CellValue}
use Rattle.cell_types.specs.declared.value.ErrKind.{ErrKind}
use Rattle.formula_parse.specs.declared.operator.LookupKind.{LookupKind}
use Rattle.formula_eval.specs.declared.halt.Halt.{Halt}
use Rattle.formula_eval.specs.declared.halt.Halt.TheVariants as halt
use Rattle.formula_eval.specs.Reader.{Reader}
use Rattle.formula_eval.specs.Run.{Stop, circular, Out, gives, raises, stops, Run, done, after, onward, seq, collect, MayName}
use Rattle.formula_eval.specs.Lookup.{KeyForm, columns_of, keyed, item_runs, matched, met, opened, looked_up, found, found_out, given}
use Rattle.formula_parse.specs.declared.operator.BinaryOp.{BinaryOp}
use Rattle.formula_eval.specs.Operator.{combined, is_decided, operated}
use Rattle.formula_eval.specs.Halted.{ComesAs, Comes, IsOut, WithRight}
use Rattle.formula_eval.proofs.Collects.{onward_names}
use Rattle.formula_eval.proofs.Lookups.{IsEven, looked_up-parts}

module _ {A B : Type 0} where
  -- a run that gives, and what follows
  pub seq_gives : (a : Run A) (k : A → Run B) (v : A) (l m : List Note) → after l a ≡ record { out = gives v; notes = m } → after l (seq a k) ≡ after m (k v)
  seq_gives a k v l m e =
      ap (λ (o : Out A). after l (onward o a.notes k)) (ap (λ (r : Run A). r.out) e)
      ∙ ap (λ (rs : List Note). record { out = (k v).out; notes = rs }) (sym (append_assoc l a.notes (k v).notes))
      ∙ ap (λ (rs : List Note). record { out = (k v).out; notes = rs ++ (k v).notes }) (ap (λ (r : Run A). r.notes) e)

  pub seq_raises : (a : Run A) (k : A → Run B) (e : ErrKind) (l m : List Note) → after l a ≡ record { out = raises e; notes = m } → after l (seq a k) ≡ record { out = raises e; notes = m }
  seq_raises a k e l m h =
      ap (λ (o : Out A). after l (onward o a.notes k)) (ap (λ (r : Run A). r.out) h)
      ∙ ap (λ (rs : List Note). record { out = raises e; notes = rs }) (ap (λ (r : Run A). r.notes) h)

  pub seq_stops : (a : Run A) (k : A → Run B) (s : Stop) (l m : List Note) → after l a ≡ record { out = stops s; notes = m } → after l (seq a k) ≡ record { out = stops s; notes = m }
  seq_stops a k s l m h =
      ap (λ (o : Out A). after l (onward o a.notes k)) (ap (λ (r : Run A). r.out) h)
      ∙ ap (λ (rs : List Note). record { out = stops s; notes = rs }) (ap (λ (r : Run A). r.notes) h)

  -- a halt of the first is one of both
  pub seq_halts : {X Y : Type 0} (view : X → A) (seen : Y → B) (h : Halt) (a : Run A) (k : A → Run B) (l m : List Note) → ComesAs view (Err h) l m a → ComesAs seen (Err h) l m (seq a k)
  seq_halts view seen (halt.Raised e) a k l m c = seq_raises a k e l m c
  seq_halts view seen halt.Circular a k l m c = seq_stops a k circular l m c
  seq_halts view seen (halt.Need d) a k l m c = let named = onward_names d a.out a.notes k c.0 in (named.0, ap (λ (n : List Note). l ++ n) named.1 ∙ c.1)
  seq_halts view seen halt.NoMemory a k l m c = tt

  -- what follows, with all notes before it
  abbrev ended : (A → Run B) → Out A → List Note → Run B
  ended k (gives v) l = after l (k v)
  ended k (raises e) l = record { out = raises e; notes = l }
  ended k (stops s) l = record { out = stops s; notes = l }

  after_onward : (k : A → Run B) (l m : List Note) (o : Out A) → after l (onward o m k) ≡ ended k o (l ++ m)
  after_onward k l m (gives v) = ap (λ (rs : List Note). record { out = (k v).out; notes = rs }) (sym (append_assoc l m (k v).notes))
  after_onward k l m (raises e) = refl
  after_onward k l m (stops s) = refl

  -- what follows two runs that are the same with the notes before them
  pub seq_same : (a b : Run A) (k : A → Run B) (l m : List Note) → after l a ≡ after m b → after l (seq a k) ≡ after m (seq b k)
  seq_same a b k l m e =
      after_onward k l a.notes a.out ∙ ap (λ (r : Run A). ended k r.out r.notes) e ∙ sym (after_onward k m b.notes b.out)

module _ {A X : Type 0} (view : X → A) where
  pub comes_same : (r : Result X Halt) (a b : Run A) (l m n : List Note) → after l a ≡ after m b → ComesAs view r m n b → ComesAs view r l n a
  comes_same (Ok v) a b l m n e c = e ∙ c
  comes_same (Err (halt.Raised d)) a b l m n e c = e ∙ c
  comes_same (Err halt.Circular) a b l m n e c = e ∙ c
  comes_same (Err (halt.Need d)) a b l m n e c = (subst (λ (x : Run A). MayName d x.out) (sym e) c.0, ap (λ (x : Run A). x.notes) e ∙ c.1)
  comes_same (Err halt.NoMemory) a b l m n e c = tt

-- an outcome alone
out_comes : (r : Result CellValue Halt) (o : Out CellValue) (n : List Note) → IsOut r o → Comes r n n (done o)
out_comes (Ok v) o n h = λ i. record { out = h i; notes = append-nil n i }
out_comes (Err (halt.Raised e)) o n h = λ i. record { out = h i; notes = append-nil n i }
out_comes (Err halt.Circular) o n h = λ i. record { out = h i; notes = append-nil n i }
out_comes (Err (halt.Need d)) o n h = (h, append-nil n)
out_comes (Err halt.NoMemory) o n h = tt

-- an operator whose right operand is wanted
module _ (o : BinaryOp) (a b : Run CellValue) (v : CellValue) where
  abbrev on_right : Run CellValue
  on_right = seq b (λ w. done (operated o v w))

  right_ends : (r right : Result CellValue Halt) (m n : List Note) → Comes right m n b → WithRight r right (operated o v) → Comes r m n on_right
  right_ends r (Ok w) m n c h = comes_same (λ (u : CellValue). u) r on_right (done (operated o v w)) m n n (seq_gives b (λ w. done (operated o v w)) w m n c) (out_comes r (operated o v w) n h)
  right_ends r (Err g) m n c h = subst (λ (s : Result CellValue Halt). Comes s m n on_right) (sym h) (seq_halts (λ (u : CellValue). u) (λ (u : CellValue). u) g b (λ w. done (operated o v w)) m n c)

  pub combined_ends : (r right : Result CellValue Halt) (old m n : List Note) → after old a ≡ record { out = gives v; notes = m } → is_decided o v ≡ false → Comes right m n b → WithRight r right (operated o v) → Comes r old n (combined o a b)
  combined_ends r right old m n e f c h =
      comes_same (λ (u : CellValue). u) r (combined o a b) on_right old m n
      (seq_gives a (λ u. cond (is_decided o u) (done (gives u)) (seq b (λ w. done (operated o u w)))) v old m e ∙ ap (λ (q : Bool). after m (cond q (done (gives v)) on_right)) f)
      (right_ends r right m n c h)

module _ (rd : Reader) (t : List ℕ) where
  -- what a lookup gives of the rows that meet its keys
  pub found_ends : (k : LookupKind) (ks : List KeyItem) (r : Result CellValue Halt) (old new : List Note) → new ≡ old ++ note.Met t ks ∷ [] → IsOut r (found_out k t (matched rd t ks)) → Comes r old new (given k t (met rd t ks))
  found_ends k ks r old new e h = ends r (matched rd t ks) h
    where
      whole : (o : Out (List ℕ)) → after old (given k t (record { out = o; notes = note.Met t ks ∷ [] })) ≡ record { out = found_out k t o; notes = new }
      whole (gives rs) = λ i. record { out = gives (found k t rs); notes = sym e i }
      whole (raises d) = λ i. record { out = raises d; notes = sym e i }
      whole (stops s) = λ i. record { out = stops s; notes = sym e i }

      ends : (r : Result CellValue Halt) (o : Out (List ℕ)) → IsOut r (found_out k t o) → Comes r old new (given k t (record { out = o; notes = note.Met t ks ∷ [] }))
      ends (Ok v) o h = whole o ∙ ap (λ (p : Out CellValue). record { out = p; notes = new }) h
      ends (Err (halt.Raised d)) o h = whole o ∙ ap (λ (p : Out CellValue). record { out = p; notes = new }) h
      ends (Err halt.Circular) o h = whole o ∙ ap (λ (p : Out CellValue). record { out = p; notes = new }) h
      ends (Err (halt.Need d)) o h = (subst (λ (x : Run CellValue). MayName d x.out) (sym (whole o)) h, ap (λ (x : Run CellValue). x.notes) (whole o))
      ends (Err halt.NoMemory) o h = tt

  module _ (k : LookupKind) (fs : List KeyForm) (runs : List (Run CellValue)) (even : IsEven fs runs) where
    abbrev after_opening : Bool → Run (List ℕ)
    after_opening b = seq (collect (item_runs fs runs)) (λ ks. met rd t ks)

    -- the whole lookup
    pub lookup_ends : (r : Result CellValue Halt) (ks : List KeyItem) (old m n p : List Note)
        → after old (opened rd t (columns_of fs)) ≡ record { out = gives true; notes = m }
        → after m (collect (item_runs fs runs)) ≡ record { out = gives ks; notes = n }
        → Comes r n p (given k t (met rd t ks))
        → Comes r old p (given k t (looked_up rd t fs runs))
    lookup_ends r ks old m n p e g h =
        let whole : after old (looked_up rd t fs runs) ≡ after n (met rd t ks) =
        ap (λ (x : Run (List ℕ)). after old x) (sym (looked_up-parts rd t fs runs even))
        ∙ seq_gives (opened rd t (columns_of fs)) after_opening true old m e
        ∙ seq_gives (collect (item_runs fs runs)) (λ js. met rd t js) ks m n g in
        comes_same (λ v. v) r (given k t (looked_up rd t fs runs)) (given k t (met rd t ks)) old n p
        (seq_same (looked_up rd t fs runs) (met rd t ks) (λ qs. done (gives (found k t qs))) old n whole) h

    -- a halt before the values
    pub opening_halts : {X Y : Type 0} (view : X → Bool) (seen : Y → CellValue) (h : Halt) (old m : List Note)
        → ComesAs view (Err h) old m (opened rd t (columns_of fs)) → ComesAs seen (Err h) old m (given k t (looked_up rd t fs runs))
    opening_halts view seen h old m c =
        seq_halts (λ (rs : List ℕ). rs) seen h (looked_up rd t fs runs) (λ qs. done (gives (found k t qs))) old m
        (seq_halts view (λ (rs : List ℕ). rs) h (opened rd t (columns_of fs)) (λ b. seq (collect runs) (λ vs. met rd t (keyed fs vs))) old m c)

    -- a halt in the values
    pub items_halt : (old m : List Note) → after old (opened rd t (columns_of fs)) ≡ record { out = gives true; notes = m }
        → {X Y : Type 0} (view : X → List KeyItem) (seen : Y → CellValue) (h : Halt) (n : List Note)
        → ComesAs view (Err h) m n (collect (item_runs fs runs)) → ComesAs seen (Err h) old n (given k t (looked_up rd t fs runs))
    items_halt old m e view seen h n c =
        subst (λ (x : Run (List ℕ)). ComesAs seen (Err h) old n (given k t x)) (looked_up-parts rd t fs runs even)
        (seq_halts (λ (qs : List ℕ). qs) seen h (seq (opened rd t (columns_of fs)) after_opening) (λ qs. done (gives (found k t qs))) old n
        (comes_same (λ (qs : List ℕ). qs) (Err h) (seq (opened rd t (columns_of fs)) after_opening) (seq (collect (item_runs fs runs)) (λ ks. met rd t ks)) old m n
        (seq_gives (opened rd t (columns_of fs)) after_opening true old m e)
        (seq_halts view (λ (qs : List ℕ). qs) h (collect (item_runs fs runs)) (λ ks. met rd t ks) m n c)))
