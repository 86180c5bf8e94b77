-- A stream line is its front, its number and a brace.
use Rattle.std.proofs.Common.{◌≡◌, ℕ, List, ◌∷◌, ◌++◌, codes, refl, sym, ap, ◌∙◌, append_assoc}
use Rattle.std.specs.Fmt.{decimal}
use Rattle.json.specs.Print.{quoted}
use Rattle.serde_json.proofs.OnLiterals.{serde_json_on_literals}
use Rattle.serde_json.specs.Written.{compact_text}
use Rattle.doc_model.specs.declared.view.ViewAction.{ViewAction}
use Rattle.grist_json.specs.Actions.{actions_data}
use Rattle.grist_json.specs.Lines.{stream_front, stream_text}

quoted-actions : quoted (codes "actions") ≡ codes "\"actions\""
unfolding serde_json_on_literals
quoted-actions = refl

quoted-seq : quoted (codes "seq") ≡ codes "\"seq\""
unfolding serde_json_on_literals
quoted-seq = refl

pub numbered : (n : ℕ) (actions : List ViewAction) → stream_front actions ++ decimal n ++ codes "}" ≡ stream_text n actions
unfolding stream_front stream_text
numbered n actions =
    let told = compact_text (actions_data actions) in
    let between = codes ",\"seq\":" in
    ap (λ rest. codes "{\"actions\":" ++ rest) (append_assoc (told ++ between) (decimal n) (codes "}") ∙ append_assoc told between (decimal n ++ codes "}"))
    ∙ ap (λ q. 123 ∷ (q ++ 58 ∷ (told ++ (between ++ (decimal n ++ codes "}"))))) (sym quoted-actions)
    ∙ ap (λ q. 123 ∷ (quoted (codes "actions") ++ 58 ∷ (told ++ 44 ∷ (q ++ 58 ∷ (decimal n ++ codes "}"))))) (sym quoted-seq)
