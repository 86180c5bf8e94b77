-- A lookup in three parts: what comes before the keys' values, the keys, and the rows that meet them.
use Rattle.std.proofs.Common.{ℕ, List, [], ◌∷◌, ◌++◌, ◌≡◌, refl, sym, ap, ◌∙◌}
use Rattle.std.proofs.lemmas.List.{append-nil}
use Rattle.cell_types.specs.declared.cell.KeyItem.{KeyItem}
use Rattle.formula_eval.specs.declared.note.Note.{Note}
use Rattle.cell_types.specs.declared.value.CellValue.{CellValue}
use Rattle.formula_eval.specs.Reader.{Reader}
use Rattle.formula_eval.specs.Run.{Out, gives, raises, stops, Run, done, onward, seq, collect}
use Rattle.formula_eval.specs.Lookup.{KeyForm, columns_of, keyed, item_run, item_runs, met, opened, looked_up}

-- as many runs as keys
abbrev pub IsEven : List KeyForm → List (Run CellValue) → Type 0
IsEven [] [] = Unit {0}
IsEven [] (a ∷ rest) = ⊥
IsEven (f ∷ fs) [] = ⊥
IsEven (f ∷ fs) (a ∷ rest) = IsEven fs rest

-- the keys with their values, one after the other
items-one : (f : KeyForm) (fs : List KeyForm) (o : Out CellValue) (l : List Note) (c : Out (List CellValue)) (m : List Note)
    → onward (onward o l (λ v. done (gives (record { column = f.column; value = v; contains = f.contains })))).out (onward o l (λ (v : CellValue). done {A = KeyItem} (gives (record { column = f.column; value = v; contains = f.contains })))).notes (λ (k : KeyItem). onward (onward c m (λ (vs : List CellValue). done (gives (keyed fs vs)))).out (onward c m (λ (vs : List CellValue). done {A = List KeyItem} (gives (keyed fs vs)))).notes (λ ks. done {A = List KeyItem} (gives (k ∷ ks))))
    ≡ onward (onward o l (λ (v : CellValue). onward c m (λ (vs : List CellValue). done {A = List CellValue} (gives (v ∷ vs))))).out (onward o l (λ (v : CellValue). onward c m (λ (vs : List CellValue). done {A = List CellValue} (gives (v ∷ vs))))).notes (λ ws. done {A = List KeyItem} (gives (keyed (f ∷ fs) ws)))
items-one f fs (gives v) l (gives vs) m = λ i. record { out = gives (keyed (f ∷ fs) (v ∷ vs)); notes = two i }
  where
    two : (l ++ []) ++ ((m ++ []) ++ []) ≡ (l ++ (m ++ [])) ++ []
    two = ap (λ (k : List Note). k ++ ((m ++ []) ++ [])) (append-nil l) ∙ ap (λ (k : List Note). l ++ k) (append-nil (m ++ [])) ∙ sym (append-nil (l ++ (m ++ [])))
items-one f fs (gives v) l (raises e) m = λ i. record { out = raises e; notes = append-nil l i ++ m }
items-one f fs (gives v) l (stops s) m = λ i. record { out = stops s; notes = append-nil l i ++ m }
items-one f fs (raises e) l c m = refl
items-one f fs (stops s) l c m = refl

pub items-keyed : (fs : List KeyForm) (runs : List (Run CellValue)) → IsEven fs runs → collect (item_runs fs runs) ≡ seq (collect runs) (λ vs. done (gives (keyed fs vs)))
items-keyed [] [] h = refl
items-keyed [] (a ∷ rest) h = absurd h
items-keyed (f ∷ fs) [] h = absurd h
items-keyed (f ∷ fs) (a ∷ rest) h =
    ap (λ (r : Run (List KeyItem)). seq (item_run f a) (λ k. seq r (λ ks. done (gives (k ∷ ks))))) (items-keyed fs rest h)
    ∙ items-one f fs a.out a.notes (collect rest).out (collect rest).notes

module _ (rd : Reader) (t : List ℕ) where
  parts_inner : (fs : List KeyForm) (c : Out (List CellValue)) (m : List Note)
      → onward (onward c m (λ (vs : List CellValue). done {A = List KeyItem} (gives (keyed fs vs)))).out (onward c m (λ (vs : List CellValue). done {A = List KeyItem} (gives (keyed fs vs)))).notes (λ ks. met rd t ks)
      ≡ onward c m (λ vs. met rd t (keyed fs vs))
  parts_inner fs (gives vs) m = λ i. record { out = (met rd t (keyed fs vs)).out; notes = append-nil m i ++ (met rd t (keyed fs vs)).notes }
  parts_inner fs (raises e) m = refl
  parts_inner fs (stops s) m = refl

  -- the three parts
  pub looked_up-parts : (fs : List KeyForm) (runs : List (Run CellValue)) → IsEven fs runs
      → seq (opened rd t (columns_of fs)) (λ b. seq (collect (item_runs fs runs)) (λ ks. met rd t ks)) ≡ looked_up rd t fs runs
  looked_up-parts fs runs h =
      ap (λ (c : Run (List KeyItem)). seq (opened rd t (columns_of fs)) (λ b. seq c (λ ks. met rd t ks))) (items-keyed fs runs h)
      ∙ ap (λ (r : Run (List ℕ)). seq (opened rd t (columns_of fs)) (λ b. r)) (parts_inner fs (collect runs).out (collect runs).notes)
