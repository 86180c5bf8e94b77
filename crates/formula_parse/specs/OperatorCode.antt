-- The numbers of operators, constants and kinds of lookups, and back.
use Rattle.std.specs.Prelude.{ℕ, ◌≡◌, [], ◌∷◌, refl, get_or}
use Rattle.formula_parse.specs.declared.operator.BinaryOp.{BinaryOp}
use Rattle.formula_parse.specs.declared.operator.BinaryOp.TheVariants as op
use Rattle.formula_parse.specs.declared.operator.PrefixOp.{PrefixOp}
use Rattle.formula_parse.specs.declared.operator.PrefixOp.TheVariants as pre
use Rattle.formula_parse.specs.declared.operator.Constant.{Constant}
use Rattle.formula_parse.specs.declared.operator.Constant.TheVariants as con
use Rattle.formula_parse.specs.declared.operator.LookupKind.{LookupKind}
use Rattle.formula_parse.specs.declared.operator.LookupKind.TheVariants as kind

-- the number of an operator between operands
abbrev pub op_number : BinaryOp → ℕ
op_number op.Or = 0
op_number op.And = 1
op_number op.Equal = 2
op_number op.NotEqual = 3
op_number op.Less = 4
op_number op.AtMost = 5
op_number op.More = 6
op_number op.AtLeast = 7
op_number op.In = 8
op_number op.NotIn = 9
op_number op.Is = 10
op_number op.IsNot = 11
op_number op.Add = 12
op_number op.Subtract = 13
op_number op.Multiply = 14
op_number op.Divide = 15
op_number op.Remainder = 16

-- the one with the number
abbrev pub op_at : ℕ → BinaryOp
op_at n =
    get_or (op.Or ∷ op.And ∷ op.Equal ∷ op.NotEqual ∷ op.Less ∷ op.AtMost ∷ op.More ∷ op.AtLeast
    ∷ op.In ∷ op.NotIn ∷ op.Is ∷ op.IsNot ∷ op.Add ∷ op.Subtract ∷ op.Multiply ∷ op.Divide
    ∷ op.Remainder ∷ []) n op.Or

-- which is the one that has it
pub op_back : (o : BinaryOp) → op_at (op_number o) ≡ o
op_back op.Or = refl
op_back op.And = refl
op_back op.Equal = refl
op_back op.NotEqual = refl
op_back op.Less = refl
op_back op.AtMost = refl
op_back op.More = refl
op_back op.AtLeast = refl
op_back op.In = refl
op_back op.NotIn = refl
op_back op.Is = refl
op_back op.IsNot = refl
op_back op.Add = refl
op_back op.Subtract = refl
op_back op.Multiply = refl
op_back op.Divide = refl
op_back op.Remainder = refl

-- the number of an operator in front
abbrev pub pre_number : PrefixOp → ℕ
pre_number pre.Not = 0
pre_number pre.Negate = 1

-- the one with the number
abbrev pub pre_at : ℕ → PrefixOp
pre_at n = get_or (pre.Not ∷ pre.Negate ∷ []) n pre.Not

-- which is the one that has it
pub pre_back : (o : PrefixOp) → pre_at (pre_number o) ≡ o
pre_back pre.Not = refl
pre_back pre.Negate = refl

-- the number of a constant
abbrev pub con_number : Constant → ℕ
con_number con.True = 0
con_number con.False = 1
con_number con.None = 2
con_number con.Rec = 3

-- the one with the number
abbrev pub con_at : ℕ → Constant
con_at n = get_or (con.True ∷ con.False ∷ con.None ∷ con.Rec ∷ []) n con.True

-- which is the one that has it
pub con_back : (o : Constant) → con_at (con_number o) ≡ o
con_back con.True = refl
con_back con.False = refl
con_back con.None = refl
con_back con.Rec = refl

-- the number of a kind of lookup
abbrev pub kind_number : LookupKind → ℕ
kind_number kind.Records = 0
kind_number kind.One = 1

-- the one with the number
abbrev pub kind_at : ℕ → LookupKind
kind_at n = get_or (kind.Records ∷ kind.One ∷ []) n kind.Records

-- which is the one that has it
pub kind_back : (k : LookupKind) → kind_at (kind_number k) ≡ k
kind_back kind.Records = refl
kind_back kind.One = refl
