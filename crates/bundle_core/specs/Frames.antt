-- What is written of a history.
use Rattle.std.specs.Prelude.{ℕ, List, [], ◌∷◌, ◌++◌}
use Rattle.doc_model.specs.declared.entry.Entry.{Entry}
use Rattle.doc_model.specs.declared.user.User.{User}
use Rattle.grist_json.specs.Lines.{frame_text}
use Rattle.bundle_core.specs.State.{State, given, step}

-- each line in a frame of the session, with its newline
abbrev pub framed : List ℕ → List (List ℕ) → List ℕ
framed session [] = []
framed session (l ∷ ls) = frame_text l session ++ 10 ∷ framed session ls

-- the lines that are given at the entries of a history, in frames
abbrev pub frames : List User → State → List Entry → List ℕ
frames users st [] = []
frames users st (e ∷ es) = framed e.session (given users st e) ++ frames users (step users st e) es
