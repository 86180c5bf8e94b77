-- Which JSON is a user, and how it is read.
use Rattle.std.specs.Prelude.{◌≡◌, ℕ, List, codes, Bool, true, ◌&&◌, ◌||◌, nat_lt, nat_le, length, Option, Some, None, is_some, option_and_then, if◌then◌else◌}
use Rattle.std.specs.Str.{bytes_eq}
use Rattle.serde_json.specs.Data.{Data, null, boolean, number, string, array, object, member, no_members}
use Rattle.serde_json.specs.Find.{as_object, get_member}
use Rattle.doc_model.specs.declared.user.User.{User}
use Rattle.grist_json.specs.declared.users.UserLine.{UserLine}
use Rattle.grist_json.specs.declared.users.UserLine.TheVariants as line
use Rattle.grist_json.specs.Json.{IsJson, SpellsBy, json_at}
use Rattle.action_lines.specs.Steps.{◌>>=◌}
use Rattle.action_lines.specs.Fields.{field, field_text, is_done}
use Rattle.action_lines.specs.Numbers.{int_data, is_id, id_from}

-- whether the text is an access
abbrev pub is_access : List ℕ → Bool
is_access text =
    bytes_eq text (codes "owners") || bytes_eq text (codes "editors")
    || bytes_eq text (codes "viewers")

-- whether this is no access, or one of the three
abbrev pub is_access_or_none : Option (List ℕ) → Bool
is_access_or_none None = true
is_access_or_none (Some text) = is_access text

-- an access as JSON, where null is no access
abbrev pub access_data : Option (List ℕ) → Data
access_data None = null
access_data (Some text) = string text

-- sizes of a good user
abbrev pub fits : List ℕ → List ℕ → List ℕ → Bool
fits email name token =
    nat_le (length email) 256 && nat_le (length name) 256 && nat_lt 0 (length token)
    && nat_le (length token) 64

-- {"user":{"access":a,"email":text,"id":n,"name":text,"token":text}}
abbrev pub user_data : User → Data
user_data u =
    object (member (codes "user")
    (object (member (codes "access") (access_data u.access)
    (member (codes "email") (string u.email)
    (member (codes "id") (int_data u.id)
    (member (codes "name") (string u.name)
    (member (codes "token") (string u.token) no_members)))))) no_members)

-- the JSON that is a user
abbrev pub IsUser : User → Data → Type 0
IsUser u d =
    (is_access_or_none u.access ≡ true) × (is_id u.id ≡ true) × (fits u.email u.name u.token ≡ true)
    × (d ≡ user_data u)

-- the bytes spell the user
abbrev pub SpellsUser : User → List ℕ → Type 0
SpellsUser = SpellsBy IsUser

-- the JSON is an object with the key `user`
abbrev pub has_user : Data → Bool
has_user d = is_some (option_and_then (get_member (codes "user")) (as_object d))

-- the bytes are the text of an object with the key `user`
abbrev pub IsUserLine : List ℕ → Type 0
IsUserLine bytes = (d : Data) × IsJson bytes d × (has_user d ≡ true)

-- what a line says of a user
abbrev pub Tells : UserLine → List ℕ → Type 0
Tells (line.User u) bytes = SpellsUser u bytes
Tells line.Bad bytes = IsUserLine bytes × ((u : User) → SpellsUser u bytes → ⊥)
Tells line.Other bytes = IsUserLine bytes → ⊥

-- ---- reading

-- the access that the JSON is
abbrev pub access_from : Data → Option (Option (List ℕ))
access_from null = Some None
access_from (boolean b) = None
access_from (number n) = None
access_from (string text) = if is_access text then Some (Some text) else None
access_from (array ds) = None
access_from (object ms) = None

unfoldable pub user_fields : Data → Option User
user_fields d = do
  fields ← as_object d
  given ← field (codes "access") fields
  email ← field_text (codes "email") given.1
  id ← field (codes "id") email.1
  name ← field_text (codes "name") id.1
  token ← field_text (codes "token") name.1
  access ← access_from given.0
  n ← id_from id.0
  if is_done token.1 && fits email.0 name.0 token.0
      then Some (record {
        token = token.0;
        access = access;
        email = email.0;
        name = name.0;
        id = n;
      })
      else None

unfoldable pub user_from : Data → Option User
user_from d = do
  fields ← as_object d
  user ← field (codes "user") fields
  if is_done user.1 then user_fields user.0 else None

abbrev pub user_or_bad : Option User → UserLine
user_or_bad None = line.Bad
user_or_bad (Some u) = line.User u

abbrev pub line_from : Data → UserLine
line_from d = if has_user d then user_or_bad (user_from d) else line.Other

abbrev pub line_or_other : Option Data → UserLine
line_or_other None = line.Other
line_or_other (Some d) = line_from d

-- what the bytes say of a user, as a function
unfoldable pub user_at : List ℕ → UserLine
user_at bytes = line_or_other (json_at bytes)
