-- Where columns go, and what is left of a list from its end.
use Rattle.std.proofs.Common.{ℕ, true, false, cond, List, [], ◌∷◌, ◌+◌, ◌-◌, drop, get_or, length, ◌≡◌, ◌<◌, ◌≤◌, ap, ◌∙◌, ltb, arith}
use Rattle.doc_model.specs.declared.column.ColDef.{ColDef}
use Rattle.doc_model.specs.Indexes.{column_index}
use Rattle.row_tables.proofs.Walks.{drop_read}

pub index_within : (row : ℕ) (cs : List ColDef) → column_index row cs ≤ length cs
index_within row [] = omega arith
index_within row (d ∷ cs) =
    let later : column_index row cs ≤ length cs = index_within row cs in
    elim (ltb row d.row) as (λ b. cond b 0 (column_index row cs + 1) ≤ length (d ∷ cs)) [ true ↦ omega arith | false ↦ omega arith ]

-- one more from the end
pub drop_back : {X : Type 0} (xs : List X) (passed : ℕ) (x : X) → passed < length xs → x ≡ get_or xs (length xs - 1 - passed) x → drop (length xs - (passed + 1)) xs ≡ x ∷ drop (length xs - passed) xs
drop_back xs passed x l e =
    let here : length xs - 1 - passed ≡ length xs - (passed + 1) = omega arith in
    drop_read xs (length xs - (passed + 1)) x (omega arith) (e ∙ ap (λ i. get_or xs i x) here)
    ∙ ap (λ i. x ∷ drop i xs) (let next : length xs - (passed + 1) + 1 ≡ length xs - passed = omega arith in next)
