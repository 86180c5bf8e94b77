-- Laws of lines.
use Rattle.std.specs.Prelude.{◌≡◌, ℕ, List}
use Rattle.serde_json.specs.Data.{Data}
use Rattle.serde_json.specs.Written.{compact_text}
use Rattle.doc_model.specs.declared.request.Request.{Request}
use Rattle.doc_model.specs.declared.user.User.{User}
use Rattle.grist_json.specs.declared.frames.Frame.{Frame}
use Rattle.grist_json.specs.Requests.{Spells}
use Rattle.grist_json.specs.Frames.{frame_data, SpellsFrame}
use Rattle.grist_json.specs.Lines.{frame_text}
use Rattle.grist_json.specs.Users.{SpellsUser}

-- bytes spell at most one request, frame and user
pub record OneReading : Type 0 where
  pub request : (bytes : List ℕ) (r q : Request) → Spells r bytes → Spells q bytes → r ≡ q
  pub frame : (bytes : List ℕ) (f g : Frame) → SpellsFrame f bytes → SpellsFrame g bytes → f ≡ g
  pub user : (bytes : List ℕ) (u v : User) → SpellsUser u bytes → SpellsUser v bytes → u ≡ v

-- the compact text of some JSON, in its frame, is the compact text of the frame
abbrev pub FrameLaw : Type 0
FrameLaw =
    (d : Data) (session : List ℕ)
    → frame_text (compact_text d) session ≡ compact_text (frame_data d session)
