-- Texts in parts, and lists of names.
use Rattle.std.proofs.Common.{◌≡◌, ◌∙◌, ap, refl, sym, ℕ, suc, ◌<◌, ◌≤◌, ◌==◌, arith, Bool, true, false, ◌&&◌, cond, nat_le, List, [], ◌∷◌, ◌++◌, length, get_or, Some, None}
use Rattle.std.specs.List.{list_all}
use Rattle.std.proofs.lemmas.Bool.{eqb-true}
use Rattle.std.proofs.lemmas.Grind.{common_steps}
use Rattle.cell_types.specs.NameRule.{is_name}
use Rattle.renamed_resources.specs.NameLists.{are_names, parts_of, put_first}

differs : (x : ℕ) → (x ≡ 44 → ⊥) → (x == 44) ≡ false
differs x apart = by (x == 44) refl
  where
    by : (b : Bool) → (x == 44) ≡ b → (x == 44) ≡ false
    by true e = absurd (apart (eqb-true x 44 e))
    by false e = e

-- a text without commas is its one part
pub parts_alone : (xs : List ℕ) → ((i : ℕ) → i < length xs → get_or xs i 0 ≡ 44 → ⊥) → parts_of xs ≡ xs ∷ []
parts_alone [] apart = refl
parts_alone (x ∷ xs) apart =
    ap (λ (b : Bool). cond b ([] ∷ parts_of xs) (put_first x (parts_of xs))) (differs x (apart 0 (omega arith)))
    ∙ ap (put_first x) (parts_alone xs (λ i l. apart (suc i) (omega arith)))

-- what stands before the first comma is the first part
pub parts_before : (xs ys : List ℕ) → ((i : ℕ) → i < length xs → get_or xs i 0 ≡ 44 → ⊥) → parts_of (xs ++ 44 ∷ ys) ≡ xs ∷ parts_of ys
parts_before [] ys apart = refl
parts_before (x ∷ xs) ys apart =
    ap (λ (b : Bool). cond b ([] ∷ parts_of (xs ++ 44 ∷ ys)) (put_first x (parts_of (xs ++ 44 ∷ ys)))) (differs x (apart 0 (omega arith)))
    ∙ ap (put_first x) (parts_before xs ys (λ i l. apart (suc i) (omega arith)))

pub too_many : (names : List (List ℕ)) (p : List ℕ) (ps : List (List ℕ)) → 255 ≤ length names → are_names (names ++ p ∷ ps) ≡ false
too_many names p ps many =
    let long : nat_le (length (names ++ p ∷ ps)) 255 ≡ false = grind (arith, common_steps) in
    ap (λ (b : Bool). b && list_all is_name (names ++ p ∷ ps)) long

-- there is always a first part
pub parts_some : (text : List ℕ) → (p : List ℕ) × (ps : List (List ℕ)) × (parts_of text ≡ p ∷ ps)
parts_some [] = ([], [], refl)
parts_some (c ∷ cs) = by (parts_some cs) (c == 44) refl
  where
    by : ((p : List ℕ) × (ps : List (List ℕ)) × (parts_of cs ≡ p ∷ ps)) → (b : Bool) → (c == 44) ≡ b → (p : List ℕ) × (ps : List (List ℕ)) × (parts_of (c ∷ cs) ≡ p ∷ ps)
    by rest true e = ([], parts_of cs, ap (λ (b : Bool). cond b ([] ∷ parts_of cs) (put_first c (parts_of cs))) e)
    by rest false e =
        (c ∷ rest.0, rest.1, ap (λ (b : Bool). cond b ([] ∷ parts_of cs) (put_first c (parts_of cs))) e ∙ ap (put_first c) rest.2)

-- more than 255 parts are no list of names
pub passed_over : (text : List ℕ) (names : List (List ℕ)) (rest : List ℕ) → parts_of text ≡ names ++ parts_of rest → 255 ≤ length names → None ≡ cond (are_names (parts_of text)) (Some (parts_of text)) None
passed_over text names rest before many =
    let first = parts_some rest in
    let whole = before ∙ ap (λ (ps : List (List ℕ)). names ++ ps) first.2 in
    sym (ap (λ (b : Bool). cond b (Some (parts_of text)) None) (ap are_names whole ∙ too_many names first.0 first.1 many))
