-- Rows that a set takes.
use Rattle.std.proofs.Common.{ℕ, ◌+◌, ◌<◌, ◌≤◌, Bool, eqb, ltb, true, false, cond, ◌||◌, List, drop, length, get_or, ◌≡◌, refl, sym, ap, ◌∙◌, arith}
use Rattle.std.proofs.lemmas.Bool.{eqb-true, eqb-false, ltb-true, ltb-false}
use Rattle.std.specs.Cmp.{nat_cmp_is}
use Rattle.std.specs.Ordering.{is_eq, nat_cmp}
use Rattle.std.specs.declared.cmp.Ordering.TheVariants.{Less, Equal, Greater}
use Rattle.doc_model.specs.Rows.{has}
use Rattle.user_actions.proofs.LoopLemmas.{next_left}

-- equal numbers compare so
cmp_eq : (x y : ℕ) → is_eq (nat_cmp x y) ≡ eqb x y
cmp_eq x y =
    elim (eqb x y) as (λ b. eqb x y ≡ b → is_eq (nat_cmp x y) ≡ b) [
      | true ↦ λ is. ap is_eq (sym (nat_cmp_is x y Equal (eqb-true x y is)))
      | false ↦ λ isnt. elim (ltb x y) as (λ b. ltb x y ≡ b → is_eq (nat_cmp x y) ≡ false) [
        | true ↦ λ below. ap is_eq (sym (nat_cmp_is x y Less (ltb-true x y below)))
        | false ↦ λ past.
            let le : y ≤ x = ltb-false x y past in
            let apart : x ≡ y → ⊥ = eqb-false x y isnt in
            let above : y < x = grind (arith, le, apart) in
            ap is_eq (sym (nat_cmp_is x y Greater above))
      ] refl
    ] refl

seen_or : (e old rest : Bool) → (cond e true old || rest) ≡ (old || (e || rest))
seen_or true true rest = refl
seen_or true false rest = refl
seen_or false true rest = refl
seen_or false false rest = refl

-- a row that a set takes is in it, beside those that are to come
pub gone_more : (rows : List ℕ) (i q : ℕ) → i < length rows → (old new : Bool) → new ≡ cond (is_eq (nat_cmp (get_or rows i 0) q)) true old → (old || has (drop i rows) q) ≡ has rows q → (new || has (drop (i + 1) rows) q) ≡ has rows q
gone_more rows i q lt old new is so =
    ap (λ b. b || has (drop (i + 1) rows) q) (is ∙ ap (λ b. cond b true old) (cmp_eq (get_or rows i 0) q))
    ∙ seen_or (eqb (get_or rows i 0) q) old (has (drop (i + 1) rows) q)
    ∙ sym (ap (λ l. old || has l q) (next_left rows i 0 lt)) ∙ so
