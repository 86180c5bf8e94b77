-- Which JSON spells a peek, and how one is read from it.
use Rattle.std.specs.Prelude.{◌≡◌, ℕ, List, codes, Option, Some, None, option_and_then, if◌then◌else◌}
use Rattle.std.specs.Str.{bytes_eq}
use Rattle.serde_json.specs.Data.{Data, object, string, no_members, member}
use Rattle.serde_json.specs.Find.{as_object}
use Rattle.action_lines.specs.Steps.{◌>>=◌}
use Rattle.action_lines.specs.Fields.{field_text, is_done}
use Rattle.grist_json.specs.Json.{json_at, SpellsBy}

-- {"method":"peekTable","table":text}
abbrev pub peek_data : List ℕ → Data
peek_data table =
    object (member (codes "method") (string (codes "peekTable"))
    (member (codes "table") (string table) no_members))

-- the JSON that spells a peek at a table
abbrev pub IsPeek : List ℕ → Data → Type 0
IsPeek table d = d ≡ peek_data table

-- the bytes spell a peek at the table
abbrev pub SpellsPeek : List ℕ → List ℕ → Type 0
SpellsPeek = SpellsBy IsPeek

-- the table of a peek, read member by member in the order of the keys
unfoldable pub peek_from : Data → Option (List ℕ)
peek_from d = do
  fields ← as_object d
  method ← field_text (codes "method") fields
  table ← field_text (codes "table") method.1
  if is_done table.1
      then (if bytes_eq method.0 (codes "peekTable") then Some table.0 else None) else None

-- the table that the bytes ask to peek at, as a function
unfoldable pub peek_at : List ℕ → Option (List ℕ)
peek_at bytes = option_and_then peek_from (json_at bytes)
