-- What holds of values on a desk.
use Rattle.std.specs.Prelude.{ℕ, ◌≤◌, ◌≡◌, List, [], ◌∷◌, length}
use Rattle.cell_types.specs.TextBound.{text_bound}
use Rattle.value_ops.specs.Joined.{joined_list_bound}
use Rattle.acl_formula.specs.declared.operand.Operand.{Operand}
use Rattle.acl_formula.specs.declared.operand.Operand.TheVariants as operand
use Rattle.acl_formula.specs.declared.operand.Part.{Part}
use Rattle.acl_formula.specs.declared.operand.Part.TheVariants as part
use Rattle.acl_formula.specs.Desk.{between, joined, items_in}

-- none of the parts is an item
abbrev pub ArePieces : List Part → Type 0
ArePieces [] = Unit {0}
ArePieces (part.Piece t ∷ ps) = ArePieces ps
ArePieces (part.Item v ∷ ps) = ⊥
ArePieces (part.Items is ∷ ps) = ⊥

-- a text of some bytes lies between two places, the second one not behind a bound
abbrev pub LiesIn : List Part → ℕ → ℕ → ℕ → ℕ → Type 0
LiesIn desk bound from to len =
    (from ≤ to) × (to ≤ bound) × (len ≡ length (joined (between from to desk)))
    × (len ≤ text_bound) × ArePieces (between from to desk)

-- it may be an item, and its text lies before the bound
abbrev pub IsGoodItem : List Part → ℕ → Operand → Type 0
IsGoodItem desk bound (operand.Joined from to len) = LiesIn desk bound from to len
IsGoodItem desk bound (operand.Set s) = ⊥
IsGoodItem desk bound (operand.List is) = ⊥
IsGoodItem desk bound (operand.Listed from to len) = ⊥
IsGoodItem desk bound operand.Censored = ⊥
IsGoodItem desk bound _ = Unit {0}

-- a part's item is one
abbrev pub IsGoodPart : List Part → ℕ → Part → Type 0
IsGoodPart desk bound (part.Piece t) = Unit {0}
IsGoodPart desk bound (part.Item v) = IsGoodItem desk bound v
IsGoodPart desk bound (part.Items is) = Unit {0}

-- so are all
abbrev pub AreGood : List Part → ℕ → List Part → Type 0
AreGood desk bound [] = Unit {0}
AreGood desk bound (p ∷ ps) = IsGoodPart desk bound p × AreGood desk bound ps

-- a list of some items lies between two places
abbrev pub IsList : List Part → ℕ → ℕ → ℕ → Type 0
IsList desk from to len =
    (from ≤ to) × (to ≤ length desk) × (len ≡ length (items_in desk (between from to desk)))
    × (len ≤ joined_list_bound) × AreGood desk to (between from to desk)

-- what was joined is on the desk, whole
abbrev pub IsGood : List Part → Operand → Type 0
IsGood desk (operand.Joined from to len) = LiesIn desk (length desk) from to len
IsGood desk (operand.Listed from to len) = IsList desk from to len
IsGood desk _ = Unit {0}

-- it lies on no desk
abbrev pub IsLent : Operand → Type 0
IsLent (operand.Joined from to len) = ⊥
IsLent (operand.Listed from to len) = ⊥
IsLent _ = Unit {0}

-- its parts stand from one place on
abbrev pub StartsAt : ℕ → Operand → Type 0
StartsAt at (operand.Joined from to len) = from ≡ at
StartsAt at (operand.Listed from to len) = from ≡ at
StartsAt at _ = Unit {0}

-- where the parts of a value end
abbrev pub end_of : ℕ → Operand → ℕ
end_of at (operand.Joined from to len) = to
end_of at (operand.Listed from to len) = to
end_of at _ = at

-- it is put down between two places, where it is a text or a list
abbrev pub IsDown : List Part → ℕ → ℕ → Operand → Type 0
IsDown desk at end (operand.Text t) = between at end desk ≡ part.Piece t ∷ []
IsDown desk at end (operand.List is) = between at end desk ≡ part.Items is ∷ []
IsDown desk at end (operand.Joined from to len) = (from ≡ at) × (to ≡ end)
IsDown desk at end (operand.Listed from to len) = (from ≡ at) × (to ≡ end)
IsDown desk at end _ = Unit {0}
