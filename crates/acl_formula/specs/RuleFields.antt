-- What a rule may ask of the user and of the rows; what is not there, and an error, is nothing.
use Rattle.std.specs.Prelude.{ℕ, Bool, ◌||◌, cond, pos, codes, List, [], ◌∷◌, Option, Some, None, bytes_eq}
use Rattle.cell_types.specs.declared.value.CellValue.{CellValue}
use Rattle.cell_types.specs.declared.value.CellValue.TheVariants as value
use Rattle.doc_model.specs.declared.user.User.{User}
use Rattle.formula_parse.specs.Lexemes.{is_id}
use Rattle.acl_formula.specs.RuleRow.{RuleRow}
use Rattle.acl_formula.specs.declared.user_info.Attribute.{Attribute}
use Rattle.acl_formula.specs.declared.user_info.AttributeRow.{AttributeRow}
use Rattle.acl_formula.specs.declared.user_info.NamedCell.{NamedCell}
use Rattle.acl_formula.specs.declared.user_info.UserInfo.{UserInfo}

-- a value that is read: an error is nothing
abbrev pub readable : CellValue → Option CellValue
readable (value.Err e) = None
readable v = Some v

-- a cell that is read
abbrev pub read : Option CellValue → Option CellValue
read None = None
read (Some v) = readable v

-- a row's number as a value
abbrev pub row_id : ℕ → Option CellValue
row_id r = Some (value.Int (pos r))

-- rec.N or newRec.N of a row: its id, or its cell in the column
abbrev pub row_field : RuleRow → List ℕ → Option CellValue
row_field r n = cond (is_id n) (row_id r.id) (read (r.cell n))

-- the same where the row may not be there
abbrev pub field_of : Option RuleRow → List ℕ → Option CellValue
field_of None n = None
field_of (Some r) n = row_field r n

-- a text, or Null where there is none
abbrev pub text_or_null : Option (List ℕ) → CellValue
text_or_null None = value.Null
text_or_null (Some t) = value.Text t

-- user.N of the user's own fields
abbrev pub own_field : User → List ℕ → Option CellValue
own_field u n =
    cond (bytes_eq n (codes "Access")) (Some (text_or_null u.access))
    (cond (bytes_eq n (codes "Email")) (Some (value.Text u.email))
    (cond (bytes_eq n (codes "Name")) (Some (value.Text u.name))
    (cond (bytes_eq n (codes "UserID")) (Some (value.Int u.id)) None)))

-- whether a user has a field of its own of that name
abbrev pub is_own : List ℕ → Bool
is_own n =
    bytes_eq n (codes "Access") || (bytes_eq n (codes "Email")
    || (bytes_eq n (codes "Name") || bytes_eq n (codes "UserID")))

-- the value that stands beside the column
abbrev pub cell_in : List NamedCell → List ℕ → Option CellValue
cell_in [] n = None
cell_in (c ∷ cells) n = cond (bytes_eq c.column n) (Some c.value) (cell_in cells n)

-- a field of the row that an attribute found; where it found none each field is Null
abbrev pub found_field : Option AttributeRow → List ℕ → Option CellValue
found_field None m = Some value.Null
found_field (Some r) m = cond (is_id m) (row_id r.row) (read (cell_in r.cells m))

-- a field of the first attribute of that name
abbrev pub named_field : List Attribute → List ℕ → List ℕ → Option CellValue
named_field [] n m = None
named_field (a ∷ as') n m = cond (bytes_eq a.name n) (found_field a.row m) (named_field as' n m)

-- user.N.M: the user's own fields have no fields
abbrev pub user_field : UserInfo → List ℕ → List ℕ → Option CellValue
user_field u n m = cond (is_own n) None (named_field u.attributes n m)
