-- A loop over runs, step by step.
use Rattle.std.proofs.Common.{◌≡◌, List, [], ◌∷◌, ◌++◌, refl, sym, ap, ◌∙◌, subst, append_assoc, Err}
use Rattle.std.proofs.lemmas.List.{append-nil}
use Rattle.cell_types.specs.declared.cell.CellId.{CellId}
use Rattle.formula_eval.specs.declared.note.Note.{Note}
use Rattle.cell_types.specs.declared.value.ErrKind.{ErrKind}
use Rattle.formula_eval.specs.declared.halt.Halt.{Halt}
use Rattle.formula_eval.specs.declared.halt.Halt.TheVariants as halt
use Rattle.formula_eval.specs.Run.{Stop, circular, need, Out, gives, raises, stops, Run, done, after, onward, seq, collect, MayName}
use Rattle.formula_eval.specs.Halted.{ComesAs, front_of, fronted}

module _ {A : Type 0} where
  last : (vs : List A) (v : A) (o : Out (List A)) (rs : List Note)
      → fronted vs (onward o rs (λ (ws : List A). done (gives (v ∷ ws)))) ≡ fronted (vs ++ v ∷ []) (record { out = o; notes = rs })
  last vs v (gives ws) rs = λ i. record { out = gives (sym (append_assoc vs (v ∷ []) ws) i); notes = append-nil rs i }
  last vs v (raises e) rs = refl
  last vs v (stops s) rs = refl

  -- a run that gives, and the others
  pub collect_step : (x : Run A) (rest : List (Run A)) (vs : List A) (v : A) (l m : List Note)
      → after l x ≡ record { out = gives v; notes = m }
      → fronted vs (after l (collect (x ∷ rest))) ≡ fronted (vs ++ v ∷ []) (after m (collect rest))
  collect_step x rest vs v l m e =
      let k : A → Run (List A) = λ w. seq (collect rest) (λ ws. done (gives (w ∷ ws))) in
      ap (λ (o : Out A). fronted vs (after l (onward o x.notes k))) (ap (λ (r : Run A). r.out) e)
      ∙ ap (λ (rs : List Note). record { out = front_of vs (k v).out; notes = rs }) (sym (append_assoc l x.notes (k v).notes))
      ∙ ap (λ (rs : List Note). record { out = front_of vs (k v).out; notes = rs ++ (k v).notes }) (ap (λ (r : Run A). r.notes) e)
      ∙ ap (λ (r : Run (List A)). record { out = r.out; notes = m ++ r.notes }) (last vs v (collect rest).out (collect rest).notes)

  -- a run that may name a cell ends what follows
  pub onward_names : {B : Type 0} (d : CellId) (o : Out A) (l : List Note) (k : A → Run B) → MayName d o → MayName d (onward o l k).out × ((onward o l k).notes ≡ l)
  onward_names d (gives v) l k h = absurd h
  onward_names d (raises e) l k h = absurd h
  onward_names d (stops circular) l k h = absurd h
  onward_names d (stops (need cs)) l k h = (h, refl)

  front_names : (d : CellId) (vs : List A) (o : Out (List A)) → MayName d o → MayName d (front_of vs o)
  front_names d vs (gives v) h = h
  front_names d vs (raises e) h = h
  front_names d vs (stops s) h = h

  pub collect_raises : (x : Run A) (rest : List (Run A)) (e : ErrKind) (l m : List Note)
      → after l x ≡ record { out = raises e; notes = m } → after l (collect (x ∷ rest)) ≡ record { out = raises e; notes = m }
  collect_raises x rest e l m h =
      let k : A → Run (List A) = λ w. seq (collect rest) (λ ws. done (gives (w ∷ ws))) in
      ap (λ (o : Out A). after l (onward o x.notes k)) (ap (λ (r : Run A). r.out) h)
      ∙ ap (λ (rs : List Note). record { out = raises e; notes = rs }) (ap (λ (r : Run A). r.notes) h)

  pub collect_stops : (x : Run A) (rest : List (Run A)) (s : Stop) (l m : List Note)
      → after l x ≡ record { out = stops s; notes = m } → after l (collect (x ∷ rest)) ≡ record { out = stops s; notes = m }
  collect_stops x rest s l m h =
      let k : A → Run (List A) = λ w. seq (collect rest) (λ ws. done (gives (w ∷ ws))) in
      ap (λ (o : Out A). after l (onward o x.notes k)) (ap (λ (r : Run A). r.out) h)
      ∙ ap (λ (rs : List Note). record { out = stops s; notes = rs }) (ap (λ (r : Run A). r.notes) h)

  -- a run that halts ends the whole
  pub collect_halts : {X Y : Type 0} (view : X → A) (seen : Y → List A) (h : Halt) (x : Run A) (rest : List (Run A)) (vs : List A) (old l m : List Note) (whole : Run (List A))
      → ComesAs view (Err h) l m x → fronted vs (after l (collect (x ∷ rest))) ≡ after old whole → ComesAs seen (Err h) old m whole
  collect_halts view seen (halt.Raised e) x rest vs old l m whole c w = sym w ∙ ap (fronted vs) (collect_raises x rest e l m c)
  collect_halts view seen halt.Circular x rest vs old l m whole c w = sym w ∙ ap (fronted vs) (collect_stops x rest circular l m c)
  collect_halts view seen (halt.Need d) x rest vs old l m whole c w =
      let k : A → Run (List A) = λ u. seq (collect rest) (λ ws. done (gives (u ∷ ws))) in
      let named = onward_names d x.out x.notes k c.0 in (
        subst (λ (r : Run (List A)). MayName d r.out) w (front_names d vs (onward x.out x.notes k).out named.0),
        ap (λ (r : Run (List A)). r.notes) (sym w) ∙ ap (λ (n : List Note). l ++ n) named.1 ∙ c.1,
      )
  collect_halts view seen halt.NoMemory x rest vs old l m whole c w = tt

  -- none are left
  pub collect_ends : (vs : List A) (l old : List Note) (whole : Run (List A))
      → fronted vs (after l (collect [])) ≡ after old whole → after old whole ≡ record { out = gives vs; notes = l }
  collect_ends vs l old whole w = sym w ∙ (λ i. record { out = gives (append-nil vs i); notes = append-nil l i })

  -- none came before
  pub collect_begins : (l : List Note) (whole : Run (List A)) → fronted [] (after l whole) ≡ after l whole
  collect_begins l whole = begins whole.out (l ++ whole.notes)
    where
      begins : (o : Out (List A)) (rs : List Note) → fronted [] (record { out = o; notes = rs }) ≡ record { out = o; notes = rs }
      begins (gives ws) rs = refl
      begins (raises e) rs = refl
      begins (stops s) rs = refl
