-- Where the descriptions of columns go.
use Rattle.std.specs.Prelude.{ℕ, Bool, false, ◌+◌, cond, nat_le, nat_eq, List, [], ◌∷◌, map, Some, None, slice_get}
use Rattle.doc_model.specs.declared.column.ColDef.{ColDef}
use Rattle.doc_model.specs.Schema.{Described, described_row, put_described}

-- the first one whose row is not below, or the end
abbrev pub described_index : ℕ → List Described → ℕ
described_index row [] = 0
described_index row (e ∷ es) = cond (nat_le row (described_row e)) 0 (described_index row es + 1)

-- whether one of that row stands at the index
abbrev pub stands_at : ℕ → ℕ → List Described → Bool
stands_at row index es =
    elim (slice_get es index) [ None ↦ false | Some e ↦ nat_eq (described_row e) row ]

-- the columns of one table
abbrev pub columns_of : ℕ → List ColDef → List Described
columns_of parent columns =
    map (λ (d : ColDef). let e : Described = record { parent = parent; column = d } in e) columns

-- the columns put into their places among those that stand, the last one first
abbrev pub put_all : List Described → List Described → List Described
put_all [] sorted = sorted
put_all (e ∷ es) sorted = put_described e (put_all es sorted)
