-- One more turn of a loop over a list, and what is told of what is made.
use Rattle.std.proofs.Common.{ℕ, ◌+◌, ◌<◌, ◌≤◌, Bool, true, false, cond, List, [], ◌∷◌, ◌++◌, filter, drop, length, min, get_or, ◌≡◌, refl, sym, ap, subst, ◌∙◌, add-one, Option, Some, None, arith}
use Rattle.std.proofs.Math.Seq.{drop-cons}
use Rattle.std.proofs.lemmas.Bool.{false≢true}
use Rattle.std.proofs.lemmas.List.{append_assoc, append-nil, drop_all}
use Rattle.std.specs.Bool.{IsTrue}
use Rattle.std.specs.Option.{MatchOption}
use Rattle.doc_model.specs.declared.column.ColDef.{ColDef}
use Rattle.doc_model.specs.declared.user_action.UserCol.{UserCol}
use Rattle.doc_model.specs.ViewEdits.{if_any}
use Rattle.name_rules.specs.FreeName.{IsFresh, free_name}
use Rattle.user_actions.specs.StepLaws.{AreFresh}
use Rattle.user_actions.specs.Steps.{new_column, new_columns}

-- what is left begins with the next one
pub next_left : {X : Type 0} (xs : List X) (i : ℕ) (d : X) → i < length xs → drop i xs ≡ get_or xs i d ∷ drop (i + 1) xs
next_left xs i d lt = rw (add-one, drop-cons xs i d)

module _ {X : Type 0} (p : X → Bool) (xs : List X) (i : ℕ) (d : X) (ys zs all : List X) (b : Bool) (lt : i < length xs) (is : b ≡ p (get_or xs i d)) (so : ys ++ filter p (drop i xs) ≡ all) where
  step : cond b (ys ++ (get_or xs i d ∷ filter p (drop (i + 1) xs))) (ys ++ filter p (drop (i + 1) xs)) ≡ all
  step = chosen b (p (get_or xs i d)) is ∙ sym (ap (λ l. ys ++ filter p l) (next_left xs i d lt)) ∙ so
    where
      chosen : (b c : Bool) → b ≡ c → cond b (ys ++ (get_or xs i d ∷ filter p (drop (i + 1) xs))) (ys ++ filter p (drop (i + 1) xs)) ≡ ys ++ cond c (get_or xs i d ∷ filter p (drop (i + 1) xs)) (filter p (drop (i + 1) xs))
      chosen true c e = ap (λ c. ys ++ cond c (get_or xs i d ∷ filter p (drop (i + 1) xs)) (filter p (drop (i + 1) xs))) e
      chosen false c e = ap (λ c. ys ++ cond c (get_or xs i d ∷ filter p (drop (i + 1) xs)) (filter p (drop (i + 1) xs))) e

  -- the next one passes the test
  pub filter_taken : (us : List X) → b ≡ true → zs ≡ us → us ≡ ys ++ get_or xs i d ∷ [] → zs ++ filter p (drop (i + 1) xs) ≡ all
  filter_taken us passes same pushed =
      ap (λ l. l ++ filter p (drop (i + 1) xs)) (same ∙ pushed) ∙ append_assoc ys (get_or xs i d ∷ []) (filter p (drop (i + 1) xs))
      ∙ sym (ap (λ c. cond c (ys ++ (get_or xs i d ∷ filter p (drop (i + 1) xs))) (ys ++ filter p (drop (i + 1) xs))) passes) ∙ step

  -- or it does not
  pub filter_left : b ≡ false → zs ≡ ys → zs ++ filter p (drop (i + 1) xs) ≡ all
  filter_left fails same =
      ap (λ l. l ++ filter p (drop (i + 1) xs)) same
      ∙ sym (ap (λ c. cond c (ys ++ (get_or xs i d ∷ filter p (drop (i + 1) xs))) (ys ++ filter p (drop (i + 1) xs))) fails) ∙ step

-- the row of the next column, up to the last row id
pub next_row : (last i row next : ℕ) → next ≡ min (row + 1) 4294967295 → (last + i ≤ 4294967295 → row ≡ last + i) → last + (i + 1) ≤ 4294967295 → next ≡ last + (i + 1)
next_row last i row next is before fits =
    let at : row ≡ last + i = before (omega (arith, fits)) in
    is ∙ omega (arith, at, fits)

pub fits_next : (last i n : ℕ) → i < n → last + n ≤ 4294967295 → last + (i + 1) ≤ 4294967295
fits_next last i n lt fits = omega (arith, lt, fits)

module _ (cs : List UserCol) (i : ℕ) (c : UserCol) (taken taken' : List (List ℕ)) (lt : i < length cs) (is : c ≡ get_or cs i c) (more : taken' ≡ taken ++ free_name taken c.id ∷ []) where
  left : drop i cs ≡ c ∷ drop (i + 1) cs
  left = next_left cs i c lt ∙ ap (λ c. c ∷ drop (i + 1) cs) (sym is)

  -- one more column
  pub columns_more : (last row : ℕ) (made made' all : List ColDef) → row ≡ last + (i + 1) → made' ≡ made ++ new_column taken row c ∷ [] → made ++ new_columns taken (last + i) (drop i cs) ≡ all → made' ++ new_columns taken' (last + (i + 1)) (drop (i + 1) cs) ≡ all
  columns_more last row made made' all next pushed so =
      let at : row ≡ last + i + 1 = omega (arith, next) in
      ap (λ l. l ++ new_columns taken' (last + (i + 1)) (drop (i + 1) cs)) pushed
      ∙ append_assoc made (new_column taken row c ∷ []) (new_columns taken' (last + (i + 1)) (drop (i + 1) cs))
      ∙ ap (λ r. made ++ (new_column taken r c ∷ new_columns taken' (last + (i + 1)) (drop (i + 1) cs))) at
      ∙ ap (λ t. made ++ (new_column taken (last + i + 1) c ∷ new_columns t (last + (i + 1)) (drop (i + 1) cs))) more
      ∙ ap (λ r. made ++ (new_column taken (last + i + 1) c ∷ new_columns (taken ++ free_name taken c.id ∷ []) r (drop (i + 1) cs))) (sym next ∙ at)
      ∙ sym (ap (λ l. made ++ new_columns taken (last + i) l) left) ∙ so

  pub fresh_more : IsFresh taken c.id → AreFresh taken' (drop (i + 1) cs) → AreFresh taken (drop i cs)
  fresh_more fresh rest = subst (AreFresh taken) (sym left) (fresh, subst (λ t. AreFresh t (drop (i + 1) cs)) more rest)

-- nothing is left
pub columns_done : (cs : List UserCol) (i row : ℕ) (taken : List (List ℕ)) (made all : List ColDef) → length cs ≤ i → made ++ new_columns taken row (drop i cs) ≡ all → made ≡ all
columns_done cs i row taken made all le so = sym (append-nil made) ∙ sym (ap (λ l. made ++ new_columns taken row l) (drop_all i cs le)) ∙ so

pub fresh_done : (cs : List UserCol) (i : ℕ) (taken : List (List ℕ)) → length cs ≤ i → AreFresh taken (drop i cs)
fresh_done cs i taken le = subst (AreFresh taken) (sym (drop_all i cs le)) tt

-- what is told of an option, told otherwise
pub otherwise : {X : Type 0} (o : Option X) (P P' : Type 0) (Q Q' : X → Type 0) → (P → P') → ((x : X) → Q x → Q' x) → MatchOption o P Q → MatchOption o P' Q'
otherwise None P P' Q Q' none some h = none h
otherwise (Some x) P P' Q Q' none some h = some x h

-- where there is a row, something is done
pub some_row : {X : Type 0} (rows : List ℕ) (x : X) → (rows ≡ [] → IsTrue false) → if_any rows x ≡ x ∷ []
some_row [] x h = absurd (false≢true (h refl))
some_row (r ∷ rows) x h = refl
