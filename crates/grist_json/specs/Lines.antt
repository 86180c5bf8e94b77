-- The lines that are printed. Crates above speak of them by these words alone.
use Rattle.std.specs.Prelude.{◌≡◌, ◌<◌, ℕ, List, ◌++◌, codes}
use Rattle.json.specs.Lex.{tokens}
use Rattle.json.specs.Print.{print, quoted}
use Rattle.serde_json.specs.Data.{Data, depth, object, no_members, member}
use Rattle.serde_json.specs.Read.{max_depth}
use Rattle.serde_json.specs.Written.{IsInOrder, compact_text}
use Rattle.doc_model.specs.declared.verdict.Verdict.{Verdict}
use Rattle.doc_model.specs.declared.view.ViewAction.{ViewAction}
use Rattle.grist_json.specs.Actions.{actions_data}
use Rattle.grist_json.specs.Json.{IsJson}
use Rattle.grist_json.specs.Replies.{number_data, verdict_data}

-- the line is the compact text of this JSON, and nests so that it may stand in a frame
pub record IsPrinted (line : List ℕ) (d : Data) : Type 0 where
  pub compact : line ≡ print (tokens line)
  pub order : IsInOrder line d
  pub reads : IsJson line d
  pub shallow : depth d < max_depth

-- the line of a reply: the sorted compact text of its JSON
unfoldable pub reply_text : Verdict → List ℕ
reply_text v = compact_text (verdict_data v)

-- {"actions":[..],"seq":n}
abbrev pub stream_data : ℕ → List ViewAction → Data
stream_data n actions =
    object (member (codes "actions") (actions_data actions)
    (member (codes "seq") (number_data n) no_members))

-- the line that tells the changes of a view
unfoldable pub stream_text : ℕ → List ViewAction → List ℕ
stream_text n actions = compact_text (stream_data n actions)

-- what stands before the number in each line that tells these changes
unfoldable pub stream_front : List ViewAction → List ℕ
stream_front actions =
    codes "{\"actions\":" ++ compact_text (actions_data actions) ++ codes ",\"seq\":"

-- a line in its frame: {"line":line,"session":name}
unfoldable pub frame_text : List ℕ → List ℕ → List ℕ
frame_text line session =
    codes "{\"line\":" ++ line ++ codes ",\"session\":" ++ quoted session ++ codes "}"
