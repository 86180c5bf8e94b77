-- Values where they lie: a text or list that was joined is a range of parts of a desk, and what is
-- large is lent.
use Rattle.std.specs.Prelude.{ℕ, ◌-◌, List, [], ◌∷◌, ◌++◌, take, drop}
use Rattle.cell_types.specs.declared.value.CellItem.{CellItem}
use Rattle.cell_types.specs.declared.value.CellItem.TheVariants as item
use Rattle.cell_types.specs.declared.value.CellValue.{CellValue}
use Rattle.cell_types.specs.declared.value.CellValue.TheVariants as value
use Rattle.acl_formula.specs.declared.operand.Operand.{Operand}
use Rattle.acl_formula.specs.declared.operand.Operand.TheVariants as operand
use Rattle.acl_formula.specs.declared.operand.Part.{Part}
use Rattle.acl_formula.specs.declared.operand.Part.TheVariants as part

-- the parts from one place on, up to another
abbrev pub between : ℕ → ℕ → List Part → List Part
between from to desk = take (to - from) (drop from desk)

-- the text of a piece
abbrev pub piece_of : Part → List ℕ
piece_of (part.Piece t) = t.now
piece_of (part.Item v) = []
piece_of (part.Items is) = []

-- the text that the pieces among some parts make
abbrev pub joined : List Part → List ℕ
joined [] = []
joined (p ∷ ps) = piece_of p ++ joined ps

-- a value as an item of a list; what may be none is Null
abbrev pub item_in : List Part → Operand → CellItem
item_in desk (operand.Int n) = item.Int n
item_in desk (operand.Bool b) = item.Bool b
item_in desk (operand.Date n) = item.Date n
item_in desk (operand.Rec r) = item.Rec r.now
item_in desk (operand.Text t) = item.Text t.now
item_in desk (operand.Joined from to len) = item.Text (joined (between from to desk))
item_in desk _ = item.Null

-- the items that a part stands for
abbrev pub items_of_part : List Part → Part → List CellItem
items_of_part desk (part.Piece t) = []
items_of_part desk (part.Item v) = item_in desk v ∷ []
items_of_part desk (part.Items is) = is.now

-- the list that the items among some parts make
abbrev pub items_in : List Part → List Part → List CellItem
items_in desk [] = []
items_in desk (p ∷ ps) = items_of_part desk p ++ items_in desk ps

-- the value that lies so
abbrev pub seen : List Part → Operand → CellValue
seen desk operand.Null = value.Null
seen desk (operand.Int n) = value.Int n
seen desk (operand.Bool b) = value.Bool b
seen desk (operand.Date n) = value.Date n
seen desk (operand.Rec r) = value.Rec r.now
seen desk (operand.Set s) = value.RecSet s.now
seen desk (operand.Text t) = value.Text t.now
seen desk (operand.Joined from to len) = value.Text (joined (between from to desk))
seen desk (operand.List is) = value.List is.now
seen desk (operand.Listed from to len) = value.List (items_in desk (between from to desk))
seen desk operand.Censored = value.Censored

-- the same of a value that lies on no desk
abbrev pub lent : Operand → CellValue
lent v = seen [] v
