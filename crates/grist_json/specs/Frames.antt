-- Which JSON is a frame, and how it is read.
use Rattle.std.specs.Prelude.{◌≡◌, ◌⊎◌, ℕ, List, codes, true, Option, Some, None, option_and_then, unwrap_or, if◌then◌else◌}
use Rattle.serde_json.specs.Data.{Data, object, string, member, no_members}
use Rattle.serde_json.specs.Find.{as_object}
use Rattle.cell_types.specs.NameRule.{is_name}
use Rattle.doc_model.specs.declared.request.Request.{Request}
use Rattle.doc_model.specs.declared.request.Request.TheVariants.{Bad}
use Rattle.grist_json.specs.declared.frames.Frame.{Frame}
use Rattle.grist_json.specs.Json.{SpellsBy, json_at}
use Rattle.action_lines.specs.Steps.{◌>>=◌}
use Rattle.action_lines.specs.Fields.{field, field_text, is_done}
use Rattle.grist_json.specs.Requests.{IsRequest}
use Rattle.grist_json.specs.Reading.{request_from}

-- {"line":value,"session":name}
abbrev pub frame_data : Data → List ℕ → Data
frame_data line session =
    object (member (codes "line") line (member (codes "session") (string session) no_members))

-- what the value of a frame asks for: a request that it spells, or else nothing that can be
-- answered
abbrev pub Asks : Request → Data → Type 0
Asks request line =
    IsRequest request line ⊎ ((request ≡ Bad) × ((other : Request) → IsRequest other line → ⊥))

-- the JSON that is a frame
abbrev pub IsFrame : Frame → Data → Type 0
IsFrame frame d =
    (line : Data) × (d ≡ frame_data line frame.session) × (is_name frame.session ≡ true)
    × Asks frame.request line

-- the bytes spell the frame
abbrev pub SpellsFrame : Frame → List ℕ → Type 0
SpellsFrame = SpellsBy IsFrame

-- ---- reading

abbrev pub request_or_bad : Data → Request
request_or_bad line = unwrap_or (request_from line) Bad

-- the frame of a value
abbrev pub frame_of : List ℕ → Data → Frame
frame_of session line = record { session = session; request = request_or_bad line }

unfoldable pub frame_from : Data → Option Frame
frame_from d = do
  fields ← as_object d
  line ← field (codes "line") fields
  session ← field_text (codes "session") line.1
  if is_done session.1
      then (if is_name session.0 then Some (frame_of session.0 line.0) else None) else None

-- the frame that the bytes spell, as a function
unfoldable pub frame_at : List ℕ → Option Frame
frame_at bytes = option_and_then frame_from (json_at bytes)
