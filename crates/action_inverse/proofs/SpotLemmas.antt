-- Where a column goes in a list by ids, found from the front.
use Rattle.std.proofs.Common.{ℕ, zero, suc, ◌+◌, ◌<◌, ◌≤◌, List, [], ◌∷◌, ◌++◌, length, get_or, take, drop, set, ◌≡◌, refl, sym, ap, ◌∙◌, add-one, append_assoc, drop-cons, drop_of_length-le, subst, arith}
use Rattle.std.specs.declared.cmp.Ordering.TheVariants.{Less, Equal, Greater}
use Rattle.std.proofs.lemmas.List.{take_more}
use Rattle.std.proofs.lemmas.Map.Text.{is_eq-slice_cmp}
use Rattle.std.specs.List.{insert}
use Rattle.std.specs.Str.{bytes_eq}
use Rattle.std.specs.Ordering.{nat_cmp, is_lt, is_eq}
use Rattle.std.specs.Cmp.Lexicographic.{slice_cmp}
use Rattle.doc_model.specs.declared.column.CellColumn.{CellColumn}
use Rattle.doc_model.specs.ByIds.{precedes, put_by_id}
use Rattle.doc_model.specs.Records.{given_id}
use Rattle.doc_model.proofs.Choices.{cond_true, cond_false}

opened : (ks : List CellColumn) (i : ℕ) (y : CellColumn) → i < length ks → y ≡ get_or ks i y → drop i ks ≡ y ∷ drop (i + 1) ks
opened ks i y h e = drop-cons ks i y h ∙ ap (λ x. x ∷ drop (suc i) ks) (sym e) ∙ ap (λ n. y ∷ drop n ks) (sym (add-one i))

set_parts : (ks : List CellColumn) (i : ℕ) (k : CellColumn) → i < length ks → set ks i k ≡ take i ks ++ k ∷ drop (i + 1) ks
set_parts [] i k h = absurd (omega arith)
set_parts (q ∷ ks) zero k h = refl
set_parts (q ∷ ks) (suc i) k h =
    ap (λ l. q ∷ l) (set_parts ks i k (omega arith))
    ∙ ap (λ n. q ∷ (take i ks ++ k ∷ drop n ks)) (add-one i)
    ∙ ap (λ n. q ∷ (take i ks ++ k ∷ drop n (q ∷ ks))) (sym (add-one (suc i)))

-- the columns before the index precede the column
abbrev pub IsPast : CellColumn → List CellColumn → ℕ → Type 0
IsPast k ks i = take i ks ++ put_by_id given_id k (drop i ks) ≡ put_by_id given_id k ks

module _ (k : CellColumn) (ks : List CellColumn) (i : ℕ) (y : CellColumn) (within : i < length ks) (is : y ≡ get_or ks i y) (past : IsPast k ks i) where
  at : put_by_id given_id k ks ≡ take i ks ++ put_by_id given_id k (y ∷ drop (i + 1) ks)
  at = sym past ∙ ap (λ l. take i ks ++ put_by_id given_id k l) (opened ks i y within is)

  pub goes_before : slice_cmp nat_cmp k.id y.id ≡ Less → insert ks i k ≡ put_by_id given_id k ks
  goes_before e =
      sym (at
      ∙ ap (λ l. take i ks ++ l) (cond_true (precedes k.id y.id) (k ∷ y ∷ drop (i + 1) ks) _ (ap is_lt e))
      ∙ ap (λ l. take i ks ++ k ∷ l) (sym (opened ks i y within is)))

  pub stands_at : slice_cmp nat_cmp k.id y.id ≡ Equal → set ks i k ≡ put_by_id given_id k ks
  stands_at e =
      sym (at
      ∙ ap (λ l. take i ks ++ l) (
      cond_false (precedes k.id y.id) (k ∷ y ∷ drop (i + 1) ks) _ (ap is_lt e)
      ∙ cond_true (bytes_eq k.id y.id) (k ∷ drop (i + 1) ks) _ (sym (is_eq-slice_cmp k.id y.id) ∙ ap is_eq e))
      ∙ sym (set_parts ks i k within))

  pub goes_on : slice_cmp nat_cmp k.id y.id ≡ Greater → IsPast k ks (i + 1)
  goes_on e =
      ap (λ l. l ++ put_by_id given_id k (drop (i + 1) ks)) (take_more ks i y within ∙ ap (λ x. take i ks ++ x ∷ []) (sym is))
      ∙ append_assoc (take i ks) (y ∷ []) (put_by_id given_id k (drop (i + 1) ks))
      ∙ ap (λ l. take i ks ++ l) (sym (
      cond_false (precedes k.id y.id) (k ∷ y ∷ drop (i + 1) ks) _ (ap is_lt e)
      ∙ cond_false (bytes_eq k.id y.id) (k ∷ drop (i + 1) ks) _ (sym (is_eq-slice_cmp k.id y.id) ∙ ap is_eq e)))
      ∙ sym at

pub goes_last : (k : CellColumn) (ks : List CellColumn) (i : ℕ) → length ks ≤ i → i ≤ length ks → IsPast k ks i → insert ks (length ks) k ≡ put_by_id given_id k ks
goes_last k ks i low high past =
    let end : i ≡ length ks = omega arith in
    let none : drop i ks ≡ [] = drop_of_length-le ks low in
    subst (λ n. insert ks n k ≡ put_by_id given_id k ks) end
    (ap (λ l. take i ks ++ k ∷ l) none ∙ sym (ap (λ l. take i ks ++ put_by_id given_id k l) none) ∙ past)
