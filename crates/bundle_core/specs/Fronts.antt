-- What the stream lines of many sessions share.
use Rattle.std.specs.Prelude.{ℕ, List, [], ◌∷◌, Option, Some, None}
use Rattle.doc_model.specs.declared.view.ViewAction.{ViewAction}
use Rattle.grist_json.specs.Lines.{stream_front}

-- the front of the lines that tell these actions; none where there are none
abbrev pub front_of : List ViewAction → Option (List ℕ)
front_of [] = None
front_of (a ∷ as') = Some (stream_front (a ∷ as'))
