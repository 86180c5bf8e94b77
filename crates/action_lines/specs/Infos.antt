-- What is said of a column, as an object.
use Rattle.std.specs.Prelude.{◌≡◌, ℕ, List, codes, Option, Some, None, option_map, if◌then◌else◌}
use Rattle.serde_json.specs.Data.{Data, boolean, string, object, Members, no_members, member}
use Rattle.serde_json.specs.Find.{as_object, as_str, as_bool}
use Rattle.doc_model.specs.declared.user_action.UserCol.{UserCol}
use Rattle.action_lines.specs.Steps.{◌>>=◌}
use Rattle.action_lines.specs.Fields.{field_text, optional, put_front, is_done}

-- the members behind the id; what is not said is left out
abbrev pub info_members : UserCol → Members
info_members c =
    put_front (codes "isFormula") (option_map boolean c.is_formula)
    (put_front (codes "type") (option_map string c.ty) no_members)

-- {"formula":text,"isFormula":b,"type":text}, of a column that is named beside it
abbrev pub info_data : UserCol → Data
info_data c = object (put_front (codes "formula") (option_map string c.formula) (info_members c))

-- {"formula":text,"id":text,"isFormula":b,"type":text}
abbrev pub column_data : UserCol → Data
column_data c =
    object (put_front (codes "formula") (option_map string c.formula)
    (member (codes "id") (string c.id) (info_members c)))

-- the JSON of a column with its id
abbrev pub IsColumn : UserCol → Data → Type 0
IsColumn c d = d ≡ column_data c

-- ---- reading

-- what need not be there is read where it is
abbrev pub maybe : {X : Type 0} → (Data → Option X) → Option Data → Option (Option X)
maybe from None = Some None
maybe from (Some d) = from d >>= λ x. Some (Some x)

-- what the formula, the flag and the type say of the column of that id
unfoldable pub col_from : List ℕ → Option Data → Option Data → Option Data → Option UserCol
col_from id formula is ty =
    maybe as_bool is >>= λ b. maybe as_str formula >>= λ f. maybe as_str ty
    >>= λ t. Some (record { id = id; ty = t; is_formula = b; formula = f })

-- what the formula, the id and the members behind it say
unfoldable pub said_from : Option Data → List ℕ → Members → Option UserCol
said_from formula id ms =
    let is = optional (codes "isFormula") ms in
    let ty = optional (codes "type") is.1 in
    if is_done ty.1 then col_from id formula is.0 ty.0 else None

-- of a column that is named beside it
unfoldable pub info_from : List ℕ → Data → Option UserCol
info_from id d =
    as_object d
    >>= λ ms. said_from (optional (codes "formula") ms).0 id (optional (codes "formula") ms).1

-- of a column with its id
unfoldable pub column_from : Data → Option UserCol
column_from d =
    as_object d >>= λ ms. field_text (codes "id") (optional (codes "formula") ms).1
    >>= λ id. said_from (optional (codes "formula") ms).0 id.0 id.1
