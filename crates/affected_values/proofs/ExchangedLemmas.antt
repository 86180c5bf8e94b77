-- Columns laid beside other rows, one after the other.
use Rattle.std.proofs.Common.{ℕ, zero, suc, Bool, true, false, cond, List, [], ◌∷◌, map, set, length, slice_get, get_or, ◌≡◌, ◌<◌, ◌≤◌, refl, sym, ap, ◌∙◌, subst, Option, Some, None, arith}
use Rattle.std.proofs.lemmas.List.{length-map}
use Rattle.std.proofs.lemmas.Bool.{lt-ltb}
use Rattle.std.proofs.lemmas.List.Folds.{find_at}
use Rattle.std.proofs.lemmas.Option.{slice_get_within}
use Rattle.std.specs.List.{AllByRecursion, find, position, position_or_len}
use Rattle.std.specs.Str.{bytes_eq}
use Rattle.cell_types.specs.declared.value.CellValue.{CellValue}
use Rattle.doc_model.specs.ByIds.{find_id}
use Rattle.doc_model.specs.Rows.{has}
use Rattle.recalc.proofs.PlaceLemmas.{IsFirst, find-first, first_there}
use Rattle.recalc.specs.declared.kept.KeptColumn.{KeptColumn}
use Rattle.recalc.specs.Kept.{held_column, held_in, kept_column_id}
use Rattle.affected_values.specs.Relaid.{AreExchanged, ColumnValues, HasPlaces, IsExchanged, aside_in, places_in}

-- the first columns were exchanged, the others not
abbrev pub AreExchangedTo : (rows others : List ℕ) → ℕ → List KeptColumn → List ColumnValues → List KeptColumn → List ColumnValues → Type 0
AreExchangedTo rows others zero es vs fs ws = (fs ≡ es) × (ws ≡ vs)
AreExchangedTo rows others (suc n) (e ∷ es) (v ∷ vs) (f ∷ fs) (w ∷ ws) = IsExchanged rows others e v f w × AreExchangedTo rows others n es vs fs ws
AreExchangedTo rows others (suc n) es vs fs ws = ⊥

-- what stands at an index
pub item_within : {X : Type 0} (xs : List X) (i : ℕ) (r : X) → i < length xs → r ≡ get_or xs i r → slice_get xs i ≡ Some r
item_within [] i r lt e = absurd (omega (arith, lt))
item_within (x ∷ xs) zero r lt e = ap (λ z. Some z) (sym e)
item_within (x ∷ xs) (suc i) r lt e = item_within xs i r (omega (arith, lt)) e

each_at : {X : Type 0} (P : X → Type 0) (xs : List X) (i : ℕ) (x : X) → AllByRecursion P xs → slice_get xs i ≡ Some x → P x
each_at P [] zero x a h = absurd (cc)
each_at P [] (suc i) x a h = absurd (cc)
each_at P (y ∷ xs) zero x a h = let same : y ≡ x = cc in subst P same a.0
each_at P (y ∷ xs) (suc i) x a h = each_at P xs i x a.1 h

maps_at : {X Y Z : Type 0} (f : X → Z) (g : Y → Z) (xs : List X) (ys : List Y) (i : ℕ) (x : X) (y : Y) → map f xs ≡ map g ys → slice_get xs i ≡ Some x → slice_get ys i ≡ Some y → f x ≡ g y
maps_at f g [] ys i x y e h k = absurd (nothing i h)
  where
    nothing : {X : Type 0} {x : X} (i : ℕ) → slice_get {X = X} [] i ≡ Some x → ⊥
    nothing zero h = cc
    nothing (suc i) h = cc
maps_at f g (a ∷ xs) [] i x y e h k = absurd (cc)
maps_at f g (a ∷ xs) (b ∷ ys) zero x y e h k =
    let is_x : a ≡ x = cc in
    let is_y : b ≡ y = cc in
    let both : f a ≡ g b = cc in
    sym (ap f is_x) ∙ both ∙ ap g is_y
maps_at f g (a ∷ xs) (b ∷ ys) (suc i) x y e h k = let rest : map f xs ≡ map g ys = cc in maps_at f g xs ys i x y rest h k

pub maps_length : {X Y Z : Type 0} (f : X → Z) (g : Y → Z) (xs : List X) (ys : List Y) → map f xs ≡ map g ys → length xs ≡ length ys
maps_length f g xs ys e = sym (length-map xs f) ∙ ap length e ∙ length-map ys g

module _ (rows others : List ℕ) where
  -- the next is as it was
  pub next_same : (n : ℕ) (es : List KeptColumn) (vs : List ColumnValues) (fs : List KeptColumn) (ws : List ColumnValues) → AreExchangedTo rows others n es vs fs ws
      → (slice_get fs n ≡ slice_get es n) × (slice_get ws n ≡ slice_get vs n)
  next_same zero es vs fs ws h = (ap (λ l. slice_get l 0) h.0, ap (λ l. slice_get l 0) h.1)
  next_same (suc n) (e ∷ es) (v ∷ vs) (f ∷ fs) (w ∷ ws) h = next_same n es vs fs ws h.1
  next_same (suc n) [] vs fs ws h = absurd h
  next_same (suc n) (e ∷ es) [] fs ws h = absurd h
  next_same (suc n) (e ∷ es) (v ∷ vs) [] ws h = absurd h
  next_same (suc n) (e ∷ es) (v ∷ vs) (f ∷ fs) [] h = absurd h

  pub lengths_same : (n : ℕ) (es : List KeptColumn) (vs : List ColumnValues) (fs : List KeptColumn) (ws : List ColumnValues) → AreExchangedTo rows others n es vs fs ws
      → (length fs ≡ length es) × (length ws ≡ length vs)
  lengths_same zero es vs fs ws h = (ap length h.0, ap length h.1)
  lengths_same (suc n) (e ∷ es) (v ∷ vs) (f ∷ fs) (w ∷ ws) h = let r = lengths_same n es vs fs ws h.1 in let a : length fs ≡ length es = r.0 in let b : length ws ≡ length vs = r.1 in (omega (arith, a), omega (arith, b))
  lengths_same (suc n) [] vs fs ws h = absurd h
  lengths_same (suc n) (e ∷ es) [] fs ws h = absurd h
  lengths_same (suc n) (e ∷ es) (v ∷ vs) [] ws h = absurd h
  lengths_same (suc n) (e ∷ es) (v ∷ vs) (f ∷ fs) [] h = absurd h

  -- the next column, and the next of the values
  pub next_places : (n : ℕ) (es : List KeptColumn) (vs : List ColumnValues) (fs : List KeptColumn) (ws : List ColumnValues) (e : KeptColumn) → AreExchangedTo rows others n es vs fs ws → slice_get fs n ≡ Some e
      → AllByRecursion (HasPlaces (length rows)) es → HasPlaces (length rows) e
  next_places n es vs fs ws e h here all = each_at (HasPlaces (length rows)) es n e all (sym (next_same n es vs fs ws h).0 ∙ here)

  pub next_aside : (n : ℕ) (es : List KeptColumn) (vs : List ColumnValues) (fs : List KeptColumn) (ws : List ColumnValues) (e : KeptColumn) (v : ColumnValues) → AreExchangedTo rows others n es vs fs ws → slice_get fs n ≡ Some e → slice_get ws n ≡ Some v
      → map (λ v. length v.items) vs ≡ map (λ e. places_in (length others) e.is_formula) es → length v.items ≡ places_in (length others) e.is_formula
  next_aside n es vs fs ws e v h here there all =
      maps_at (λ (v : ColumnValues). length v.items) (λ (e : KeptColumn). places_in (length others) e.is_formula) vs es n v e all (sym (next_same n es vs fs ws h).1 ∙ there) (sym (next_same n es vs fs ws h).0 ∙ here)

  -- one more
  pub exchanged_next : (n : ℕ) (es : List KeptColumn) (vs : List ColumnValues) (fs : List KeptColumn) (ws : List ColumnValues) (e : KeptColumn) (v : ColumnValues) (f : KeptColumn) (w : ColumnValues)
      → AreExchangedTo rows others n es vs fs ws → slice_get fs n ≡ Some e → slice_get ws n ≡ Some v → IsExchanged rows others e v f w
      → AreExchangedTo rows others (suc n) es vs (set fs n f) (set ws n w)
  exchanged_next zero es vs [] ws e v f w h here there x = absurd (cc)
  exchanged_next zero es vs (a ∷ fs) [] e v f w h here there x = absurd (cc)
  exchanged_next zero [] vs (a ∷ fs) (b ∷ ws) e v f w h here there x = absurd (cc)
  exchanged_next zero (c ∷ es) [] (a ∷ fs) (b ∷ ws) e v f w h here there x = absurd (cc)
  exchanged_next zero (c ∷ es) (d ∷ vs) (a ∷ fs) (b ∷ ws) e v f w h here there x =
      let first : a ≡ c = cc in
      let rest : fs ≡ es = cc in
      let second : b ≡ d = cc in
      let others_rest : ws ≡ vs = cc in
      let is_e : a ≡ e = cc in
      let is_v : b ≡ v = cc in
      (subst (λ y. IsExchanged rows others y d f w) (sym is_e ∙ first) (subst (λ y. IsExchanged rows others e y f w) (sym is_v ∙ second) x), (rest, others_rest))
  exchanged_next (suc n) (c ∷ es) (d ∷ vs) (a ∷ fs) (b ∷ ws) e v f w h here there x = (h.0, exchanged_next n es vs fs ws e v f w h.1 here there x)
  exchanged_next (suc n) [] vs fs ws e v f w h here there x = absurd h
  exchanged_next (suc n) (c ∷ es) [] fs ws e v f w h here there x = absurd h
  exchanged_next (suc n) (c ∷ es) (d ∷ vs) [] ws e v f w h here there x = absurd h
  exchanged_next (suc n) (c ∷ es) (d ∷ vs) (a ∷ fs) [] e v f w h here there x = absurd h

  -- all of them
  pub exchanged_all : (n : ℕ) (es : List KeptColumn) (vs : List ColumnValues) (fs : List KeptColumn) (ws : List ColumnValues) → length es ≤ n → n ≤ length es → length vs ≡ length es
      → AreExchangedTo rows others n es vs fs ws → AreExchanged rows others es vs fs ws
  exchanged_all zero (e ∷ es) vs fs ws le ge same h = absurd (omega (arith, le))
  exchanged_all zero [] (v ∷ vs) fs ws le ge same h = absurd (omega (arith, same))
  exchanged_all zero [] [] (f ∷ fs) ws le ge same h = absurd (cc)
  exchanged_all zero [] [] [] (w ∷ ws) le ge same h = absurd (cc)
  exchanged_all zero [] [] [] [] le ge same h = tt
  exchanged_all (suc n) (e ∷ es) (v ∷ vs) (f ∷ fs) (w ∷ ws) le ge same h = (h.0, exchanged_all n es vs fs ws (omega (arith, le)) (omega (arith, ge)) (omega (arith, same)) h.1)
  exchanged_all (suc n) [] vs fs ws le ge same h = absurd h
  exchanged_all (suc n) (e ∷ es) [] fs ws le ge same h = absurd h
  exchanged_all (suc n) (e ∷ es) (v ∷ vs) [] ws le ge same h = absurd h
  exchanged_all (suc n) (e ∷ es) (v ∷ vs) (f ∷ fs) [] le ge same h = absurd h

  -- ---- what is held then

  pub held_after : (es : List KeptColumn) (vs : List ColumnValues) (fs : List KeptColumn) (ws : List ColumnValues) → AreExchanged rows others es vs fs ws → (c : List ℕ) (r : ℕ) → has others r ≡ true
      → held_column others r (find_id kept_column_id c fs) ≡ cond (has rows r) (held_column rows r (find_id kept_column_id c es)) (aside_in (map kept_column_id es) others vs c r)
  held_after [] [] [] [] h c r there = elim (has rows r) as (λ b. ◌≡◌ {A = Option CellValue} None (cond b None None)) [ true ↦ refl | false ↦ refl ]
  held_after (e ∷ es) (v ∷ vs) (f ∷ fs) (w ∷ ws) h c r there =
      ap (λ n. held_column others r (cond (bytes_eq n c) (Some f) (find_id kept_column_id c fs))) h.0.named
      ∙ elim (bytes_eq e.id c) as (λ b. held_column others r (cond b (Some f) (find_id kept_column_id c fs))
      ≡ cond (has rows r) (held_column rows r (cond b (Some e) (find_id kept_column_id c es))) (cond b (held_in others v.items r) (aside_in (map kept_column_id es) others vs c r))) [
        | true ↦ h.0.held r there
        | false ↦ held_after es vs fs ws h.1 c r there
      ]
  held_after [] (v ∷ vs) fs ws h c r there = absurd h
  held_after [] [] (f ∷ fs) ws h c r there = absurd h
  held_after [] [] [] (w ∷ ws) h c r there = absurd h
  held_after (e ∷ es) [] fs ws h c r there = absurd h
  held_after (e ∷ es) (v ∷ vs) [] ws h c r there = absurd h
  held_after (e ∷ es) (v ∷ vs) (f ∷ fs) [] h c r there = absurd h

  pub left_after : (es : List KeptColumn) (vs : List ColumnValues) (fs : List KeptColumn) (ws : List ColumnValues) → AreExchanged rows others es vs fs ws → (c : List ℕ) (r : ℕ) → has rows r ≡ true
      → aside_in (map kept_column_id es) rows ws c r ≡ cond (has others r) (aside_in (map kept_column_id es) others vs c r) (held_column rows r (find_id kept_column_id c es))
  left_after [] [] [] [] h c r there = elim (has others r) as (λ b. ◌≡◌ {A = Option CellValue} None (cond b None None)) [ true ↦ refl | false ↦ refl ]
  left_after (e ∷ es) (v ∷ vs) (f ∷ fs) (w ∷ ws) h c r there =
      elim (bytes_eq e.id c) as (λ b. cond b (held_in rows w.items r) (aside_in (map kept_column_id es) rows ws c r)
      ≡ cond (has others r) (cond b (held_in others v.items r) (aside_in (map kept_column_id es) others vs c r)) (held_column rows r (cond b (Some e) (find_id kept_column_id c es)))) [
        | true ↦ h.0.left_held r there
        | false ↦ left_after es vs fs ws h.1 c r there
      ]
  left_after [] (v ∷ vs) fs ws h c r there = absurd h
  left_after [] [] (f ∷ fs) ws h c r there = absurd h
  left_after [] [] [] (w ∷ ws) h c r there = absurd h
  left_after (e ∷ es) [] fs ws h c r there = absurd h
  left_after (e ∷ es) (v ∷ vs) [] ws h c r there = absurd h
  left_after (e ∷ es) (v ∷ vs) (f ∷ fs) [] h c r there = absurd h

  pub left_places : (es : List KeptColumn) (vs : List ColumnValues) (fs : List KeptColumn) (ws : List ColumnValues) → AreExchanged rows others es vs fs ws
      → map (λ (v : ColumnValues). length v.items) ws ≡ map (λ (e : KeptColumn). places_in (length rows) e.is_formula) es
  left_places [] [] [] [] h = refl
  left_places (e ∷ es) (v ∷ vs) (f ∷ fs) (w ∷ ws) h = λ i. h.0.left_places i ∷ left_places es vs fs ws h.1 i
  left_places [] (v ∷ vs) fs ws h = absurd h
  left_places [] [] (f ∷ fs) ws h = absurd h
  left_places [] [] [] (w ∷ ws) h = absurd h
  left_places (e ∷ es) [] fs ws h = absurd h
  left_places (e ∷ es) (v ∷ vs) [] ws h = absurd h
  left_places (e ∷ es) (v ∷ vs) (f ∷ fs) [] h = absurd h

-- ---- the table

position_none : {X : Type 0} (p : X → Bool) (xs : List X) → position p xs ≡ None → find p xs ≡ None
position_none p xs h = find_at p xs ∙ outside (slice_get xs (position_or_len p xs)) refl
  where
    outside : (o : Option _) → slice_get xs (position_or_len p xs) ≡ o → o ≡ None
    outside None e = refl
    outside (Some x) e = absurd (some_none (sym (ap (λ b. cond b (Some (position_or_len p xs)) None) (lt-ltb (position_or_len p xs) (length xs) (slice_get_within xs (position_or_len p xs) x e))) ∙ h))
      where
        some_none : Some (position_or_len p xs) ≡ None → ⊥
        some_none e = cc

pub no_position : {X : Type 0} (id : X → List ℕ) (c : List ℕ) (xs ys : List X) (x : X) → ys ≡ xs → find_id id c xs ≡ Some x → None ≡ position (λ k. bytes_eq (id k) c) ys → ⊥
no_position id c xs ys x same e h =
    none_some (sym (position_none (λ k. bytes_eq (id k) c) xs (sym (h ∙ ap (position (λ k. bytes_eq (id k) c)) same))) ∙ e)
  where
    none_some : None ≡ Some x → ⊥
    none_some f = cc

pub first_item : {X : Type 0} (id : X → List ℕ) (c : List ℕ) (xs : List X) (x : X) → find_id id c xs ≡ Some x → (i : ℕ) → IsFirst id c xs i → slice_get xs i ≡ Some x
first_item id c xs x e i f =
    let y = first_there id c xs i f in
    y.1 ∙ sym (find-first id xs c i y.0 f y.1).0 ∙ e

-- ---- one column

no_values : (rows : List ℕ) (vs : List (Option CellValue)) (r : ℕ) → length vs ≡ 0 → held_in rows vs r ≡ None
no_values [] vs r e = refl
no_values (q ∷ rows) [] r e = refl
no_values (q ∷ rows) (v ∷ vs) r e = absurd (cc)

-- a data column is left
pub exchanged_data : (rows others : List ℕ) (e : KeptColumn) (v : ColumnValues) → e.is_formula ≡ false → HasPlaces (length rows) e → length v.items ≡ places_in (length others) e.is_formula → IsExchanged rows others e v e v
exchanged_data rows others e v plain places aside = record {
  named = refl;
  ty = refl;
  kind = refl;
  tree = refl;
  places = none ∙ ap (λ b. cond b (length others) 0) (sym plain);
  left_places = none_aside ∙ ap (λ b. cond b (length rows) 0) (sym plain);
  held = λ r h. no_values others e.values.items r none ∙ sym (either (has rows r) r);
  left_held = λ r h. no_values rows v.items r none_aside ∙ sym (either_left (has others r) r);
}
  where
    none : length e.values.items ≡ 0
    none = places ∙ ap (λ b. cond b (length rows) 0) plain

    none_aside : length v.items ≡ 0
    none_aside = aside ∙ ap (λ b. cond b (length others) 0) plain

    either : (b : Bool) (r : ℕ) → cond b (held_in rows e.values.items r) (held_in others v.items r) ≡ None
    either true r = no_values rows e.values.items r none
    either false r = no_values others v.items r none_aside

    either_left : (b : Bool) (r : ℕ) → cond b (held_in others v.items r) (held_in rows e.values.items r) ≡ None
    either_left true r = no_values others v.items r none_aside
    either_left false r = no_values rows e.values.items r none
