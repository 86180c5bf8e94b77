-- The text or list of a value where it lies.
use Rattle.std.specs.Prelude.{ℕ, ◌≡◌, Bool, true, false, List, length, Option, Some, None}
use Rattle.cell_types.specs.declared.value.CellItem.{CellItem}
use Rattle.acl_formula.specs.declared.operand.Operand.{Operand}
use Rattle.acl_formula.specs.declared.operand.Operand.TheVariants as operand
use Rattle.acl_formula.specs.declared.operand.Part.{Part}
use Rattle.acl_formula.specs.Desk.{between, joined, items_in}
use Rattle.acl_formula.specs.DeskRules.{AreGood}

-- the text of a value, where it is one
abbrev pub text_in : List Part → Operand → Option (List ℕ)
text_in desk (operand.Text t) = Some t.now
text_in desk (operand.Joined from to len) = Some (joined (between from to desk))
text_in desk _ = None

-- the list of a value, where it is one
abbrev pub list_in : List Part → Operand → Option (List CellItem)
list_in desk (operand.List is) = Some is.now
list_in desk (operand.Listed from to len) = Some (items_in desk (between from to desk))
list_in desk _ = None

-- it is a text
abbrev pub IsText : Operand → Type 0
IsText (operand.Text t) = Unit {0}
IsText (operand.Joined from to len) = Unit {0}
IsText _ = ⊥

-- it is a list
abbrev pub IsListed : Operand → Type 0
IsListed (operand.List is) = Unit {0}
IsListed (operand.Listed from to len) = Unit {0}
IsListed _ = ⊥

-- whether it may be an item of a list
abbrev pub is_item : Operand → Bool
is_item (operand.Set s) = false
is_item (operand.List is) = false
is_item (operand.Listed from to len) = false
is_item operand.Censored = false
is_item _ = true

-- the parts are those of the text, and the number is its bytes
abbrev pub ShowsText : List Part → ℕ → Option (List ℕ) → Type 0
ShowsText parts len o = (o ≡ Some (joined parts)) × (len ≡ length (joined parts))

-- the parts are those of the list, and the number is its items
abbrev pub ShowsList : List Part → List Part → ℕ → Option (List CellItem) → Type 0
ShowsList desk parts len o =
    (o ≡ Some (items_in desk parts)) × (len ≡ length (items_in desk parts))
    × AreGood desk (length desk) parts
