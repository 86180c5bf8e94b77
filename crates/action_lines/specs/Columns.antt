-- The columns of a record action, as an object.
use Rattle.std.specs.Prelude.{◌≡◌, ℕ, List, [], ◌∷◌, ◌++◌, Bool, true, nat_eq, length, Option, Some, None, if◌then◌else◌}
use Rattle.std.specs.Ordering.{nat_cmp, is_lt}
use Rattle.std.specs.Cmp.Lexicographic.{slice_cmp}
use Rattle.serde_json.specs.Data.{Data, Members, no_members, member}
use Rattle.serde_json.specs.Find.{as_object}
use Rattle.cell_types.specs.declared.value.CellValue.{CellValue}
use Rattle.doc_model.specs.declared.user_action.UserColumn.{UserColumn}
use Rattle.action_lines.specs.Steps.{◌>>=◌}
use Rattle.action_lines.specs.Items.{given_from, AreGiven}
use Rattle.action_lines.specs.Values.{IsValue}
use Rattle.action_lines.specs.ReadValues.{value_from}

-- the name comes after the one before, if there is one
abbrev pub is_after : Option (List ℕ) → List ℕ → Bool
is_after None name = true
is_after (Some before) name = is_lt (slice_cmp nat_cmp before name)

-- the JSON of so many values of a column: one value, or an array of values
abbrev pub AreCells : Bool → ℕ → List CellValue → Data → Type 0
AreCells single count vs d = AreGiven IsValue single vs d × (nat_eq (length vs) count ≡ true)

-- a column with its values
abbrev pub filled : List ℕ → List CellValue → UserColumn
filled name vs = record { id = name; values = vs }

-- the members are these columns, in order and without repeats, each with so many values
pub data AreColumns (single : Bool) (count : ℕ)
    : Option (List ℕ) → List UserColumn → Members → Type 0 where
  none : {before : Option (List ℕ)} → AreColumns single count before [] no_members
  more : {before : Option (List ℕ)} {name : List ℕ} {vs : List CellValue} {d : Data}
      {cs : List UserColumn} {ms : Members}
      → is_after before name ≡ true → AreCells single count vs d
      → AreColumns single count (Some name) cs ms
      → AreColumns single count before (filled name vs ∷ cs) (member name d ms)

-- ---- reading

unfoldable pub cells_from : Bool → ℕ → Data → Option (List CellValue)
cells_from single count d =
    given_from value_from single d >>= λ vs. if nat_eq (length vs) count then Some vs else None

-- the column of a member, behind the one before
unfoldable pub filled_from : Bool → ℕ → Option (List ℕ) → List ℕ → Data → Option UserColumn
filled_from single count before name d =
    if is_after before name then (cells_from single count d >>= λ vs. Some (filled name vs))
    else None

-- the columns read so far, and those of the members behind the one before
abbrev pub columns_onto : Bool → ℕ → List UserColumn → Option (List ℕ) → Members
    → Option (List UserColumn)
columns_onto single count done before no_members = Some done
columns_onto single count done before (member name d ms) =
    filled_from single count before name d
    >>= λ c. columns_onto single count (done ++ c ∷ []) (Some name) ms

abbrev pub columns_from : Bool → ℕ → Members → Option (List UserColumn)
columns_from single count ms = columns_onto single count [] None ms

-- the columns of an object
unfoldable pub columns_in : Bool → ℕ → Data → Option (List UserColumn)
columns_in single count d = as_object d >>= λ ms. columns_from single count ms
