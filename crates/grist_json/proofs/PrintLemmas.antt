-- What is printed of a frame.
use Rattle.std.proofs.Common.{◌≡◌, ◌<◌, ℕ, List, ◌∷◌, ◌++◌, codes, refl, sym, ap, ◌∙◌, append_assoc}
use Rattle.json.specs.Lex.{tokens}
use Rattle.json.specs.Print.{print, quoted}
use Rattle.serde_json.specs.Data.{Data, depth}
use Rattle.serde_json.specs.Read.{max_depth}
use Rattle.serde_json.specs.Written.{IsInOrder, compact_text, outline}
use Rattle.serde_json.proofs.OnLiterals.{serde_json_on_literals}
use Rattle.grist_json.specs.Frames.{frame_data}
use Rattle.grist_json.specs.Json.{IsJson}
use Rattle.grist_json.specs.Lines.{IsPrinted, frame_text}

pub quoted-line : quoted (codes "line") ≡ codes "\"line\""
unfolding serde_json_on_literals
quoted-line = refl

pub quoted-session : quoted (codes "session") ≡ codes "\"session\""
unfolding serde_json_on_literals
quoted-session = refl

-- the parts of a frame, grouped from the left and from the right
pub parts : (start line middle name end : List ℕ) → start ++ line ++ middle ++ name ++ end ≡ start ++ (line ++ (middle ++ (name ++ end)))
parts start line middle name end =
    append_assoc (start ++ line ++ middle) name end ∙ append_assoc (start ++ line) middle (name ++ end) ∙ append_assoc start line (middle ++ (name ++ end))

pub frame_text-compact_text : (d : Data) (session : List ℕ) → frame_text (compact_text d) session ≡ compact_text (frame_data d session)
unfolding frame_text
frame_text-compact_text d session =
    parts (codes "{\"line\":") (compact_text d) (codes ",\"session\":") (quoted session) (codes "}")
    ∙ ap (λ q. 123 ∷ (q ++ 58 ∷ (compact_text d ++ (codes ",\"session\":" ++ (quoted session ++ codes "}"))))) (sym quoted-line)
    ∙ ap (λ q. 123 ∷ (quoted (codes "line") ++ 58 ∷ (compact_text d ++ 44 ∷ (q ++ 58 ∷ (quoted session ++ codes "}"))))) (sym quoted-session)

-- what is printed of a value that JSON stands for
pub printed : (line text : List ℕ) (old new : Data) → line ≡ text → text ≡ print (tokens text) → IsInOrder text old → old ≡ new → IsJson line new → depth new < max_depth → IsPrinted line new
printed line text old new is compact order same reads shallow = record {
  compact = is ∙ compact ∙ ap (λ t. print (tokens t)) (sym is);
  order = (order.0, ap tokens is ∙ order.1, order.2 ∙ ap outline same);
  reads = reads;
  shallow = shallow;
}
