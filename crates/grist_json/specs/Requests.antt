-- Which JSON spells a request.
use Rattle.std.specs.Prelude.{◌≡◌, ℕ, true, List, codes, Option, Some, None, Result, Ok, Err, option_and_then}
use Rattle.serde_json.specs.Data.{Data, number, unsigned, object, string, no_members, member}
use Rattle.doc_model.specs.declared.request.Request.{Request}
use Rattle.doc_model.specs.declared.request.Request.TheVariants.{Bad, TooLong, Open, Apply, Undo, Sync, Fetch, Rename, Close, Gone}
use Rattle.grist_json.specs.declared.requests.ReadFault.{ReadFault}
use Rattle.grist_json.specs.declared.requests.ReadFault.TheVariants.{BadLine, NoMemory}
use Rattle.grist_json.specs.Json.{json_at, SpellsBy}
use Rattle.action_lines.specs.Actions.{AreActions}
use Rattle.grist_json.specs.Reading.{is_whole, request_from}

-- {"method":"openDoc","token":text}
abbrev pub open_data : List ℕ → Data
open_data token =
    object (member (codes "method") (string (codes "openDoc"))
    (member (codes "token") (string token) no_members))

-- {"method":word}
abbrev pub bare_data : List ℕ → Data
bare_data word = object (member (codes "method") (string word) no_members)

-- {"actions":[action,..],"method":"applyUserActions"}
abbrev pub apply_data : Data → Data
apply_data actions =
    object (member (codes "actions") actions
    (member (codes "method") (string (codes "applyUserActions")) no_members))

-- {"bundle":n,"method":"undo"}
abbrev pub undo_data : ℕ → Data
undo_data bundle =
    object (member (codes "bundle") (number (unsigned bundle))
    (member (codes "method") (string (codes "undo")) no_members))

-- {"method":"fetchTable","table":text}
abbrev pub fetch_data : List ℕ → Data
fetch_data table =
    object (member (codes "method") (string (codes "fetchTable"))
    (member (codes "table") (string table) no_members))

-- {"column":text,"method":"renameColumn","new":text,"table":text}
abbrev pub rename_data : (table column new : List ℕ) → Data
rename_data table column new =
    object (member (codes "column") (string column)
    (member (codes "method") (string (codes "renameColumn"))
    (member (codes "new") (string new)
    (member (codes "table") (string table) no_members))))

-- the JSON that spells a request
abbrev pub IsRequest : Request → Data → Type 0
IsRequest (Open token) d = d ≡ open_data token
IsRequest (Apply actions) d = (list : Data) × AreActions actions list × (d ≡ apply_data list)
IsRequest Sync d = d ≡ bare_data (codes "sync")
IsRequest Close d = d ≡ bare_data (codes "closeDoc")
IsRequest Bad d = ⊥
IsRequest TooLong d = ⊥
IsRequest (Undo bundle) d = (is_whole bundle ≡ true) × (d ≡ undo_data bundle)
IsRequest (Fetch table) d = d ≡ fetch_data table
IsRequest (Rename table column new) d = d ≡ rename_data table column new
IsRequest Gone d = ⊥

-- the bytes spell the request
abbrev pub Spells : Request → List ℕ → Type 0
Spells = SpellsBy IsRequest

-- the request that the bytes spell, as a function
unfoldable pub request_at : List ℕ → Option Request
request_at bytes = option_and_then request_from (json_at bytes)

-- what was read of the bytes, unless memory was wanting
abbrev pub IsRead : Result Request ReadFault → Option Request → Type 0
IsRead (Ok r) found = found ≡ Some r
IsRead (Err BadLine) found = found ≡ None
IsRead (Err NoMemory) found = Unit {0}
