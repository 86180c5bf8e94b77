-- What records say of columns, as objects.
use Rattle.std.specs.Prelude.{◌≡◌, ℕ, List, codes, Bool, true, ◌&&◌, Option, Some, None, if◌then◌else◌}
use Rattle.serde_json.specs.Data.{Data, boolean, string, object, Members, no_members, member}
use Rattle.serde_json.specs.Find.{as_object, as_bool}
use Rattle.cell_types.specs.declared.column_type.ColType.{ColType}
use Rattle.cell_types.specs.declared.column_type.ColType.TheVariants as type
use Rattle.doc_model.specs.declared.column.ColInfo.{ColInfo}
use Rattle.doc_model.specs.declared.column.ColDef.{ColDef}
use Rattle.doc_model.specs.Schema.{type_text}
use Rattle.meta_schema.specs.Decoding.{type_of}
use Rattle.action_lines.specs.Steps.{◌>>=◌}
use Rattle.action_lines.specs.Fields.{field, field_text, is_done}
use Rattle.action_lines.specs.Numbers.{is_row, row_data, row_from}
use Rattle.action_lines.specs.ReadValues.{name_from}
use Rattle.action_lines.specs.Values.{has_name_length}

-- the table that a type refers to has a name of 1 to 64 characters
abbrev pub is_type : ColType → Bool
is_type type.Any = true
is_type type.Text = true
is_type type.Int = true
is_type type.Bool = true
is_type type.Date = true
is_type (type.Ref t) = has_name_length t
is_type (type.RefList t) = has_name_length t

-- {"formula":text,"isFormula":b,"type":text}
abbrev pub info_data : ColInfo → Data
info_data i =
    object (member (codes "formula") (string i.formula)
    (member (codes "isFormula") (boolean i.is_formula)
    (member (codes "type") (string (type_text i.ty)) no_members)))

-- the members behind the id
abbrev pub described_members : ColDef → Members
described_members c =
    member (codes "isFormula") (boolean c.info.is_formula)
    (member (codes "row") (row_data c.row)
    (member (codes "type") (string (type_text c.info.ty)) no_members))

-- {"formula":text,"isFormula":b,"row":n,"type":text}, of a column that is named beside it
abbrev pub added_data : ColDef → Data
added_data c = object (member (codes "formula") (string c.info.formula) (described_members c))

-- {"formula":text,"id":text,"isFormula":b,"row":n,"type":text}
abbrev pub column_data : ColDef → Data
column_data c =
    object (member (codes "formula") (string c.info.formula)
    (member (codes "id") (string c.id) (described_members c)))

-- the id is a name, and so is the table of the type; the row is one
abbrev pub is_column : ColDef → Bool
is_column c = (has_name_length c.id && is_row c.row) && is_type c.info.ty

-- the JSON of a column with its id
abbrev pub IsColumn : ColDef → Data → Type 0
IsColumn c d = (is_column c ≡ true) × (d ≡ column_data c)

-- ---- reading

unfoldable pub info_from : Data → Option ColInfo
info_from d = do
  fields ← as_object d
  formula ← field_text (codes "formula") fields
  flag ← field (codes "isFormula") formula.1
  ty ← field_text (codes "type") flag.1
  truth ← as_bool flag.0
  kind ← type_of ty.0
  if is_done ty.1
      then Some (record { ty = kind; is_formula = truth; formula = formula.0 }) else None

-- the column of that formula and that id, of what stands behind the id
unfoldable pub described_from : List ℕ → List ℕ → Members → Option ColDef
described_from formula id ms = do
  flag ← field (codes "isFormula") ms
  place ← field (codes "row") flag.1
  ty ← field_text (codes "type") place.1
  truth ← as_bool flag.0
  n ← row_from place.0
  kind ← type_of ty.0
  if is_done ty.1
      then Some (record {
        id = id;
        info = record { ty = kind; is_formula = truth; formula = formula };
        row = n;
      })
      else None

-- of a column that is named beside it
unfoldable pub added_from : List ℕ → Data → Option ColDef
added_from id d = do
  fields ← as_object d
  formula ← field_text (codes "formula") fields
  described_from formula.0 id formula.1

-- of a column with its id
unfoldable pub column_from : Data → Option ColDef
column_from d = do
  fields ← as_object d
  formula ← field_text (codes "formula") fields
  id ← field_text (codes "id") formula.1
  name ← name_from id.0
  described_from formula.0 name id.1
