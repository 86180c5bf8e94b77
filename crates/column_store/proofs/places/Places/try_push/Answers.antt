use Rattle.std.proofs.Common.{List, ℕ, Bool, false, [], ◌∷◌, ◌++◌, map, ◌≡◌, ◌∙◌, sym, ap, string_bytes, if◌then◌else◌}
use Rattle.std.specs.List.{list_any}
use Rattle.std.specs.Str.{bytes_eq}
use Rattle.doc_model.proofs.Choices.{not_true}
use Rattle.column_store.proofs.NameLaws.{map_last}
use Rattle.column_store.proofs.places.Places.try_push.Goals as goal

pub returns : goal.returns
returns c = λ yes.
    let made : string_bytes c.in-Ok.text ≡ c.args.id.now = c.in-Ok.ensures.ok ∙ c.as_str.ensures.value in
    let absent : list_any (λ k. bytes_eq (string_bytes c.in-Ok.text) (string_bytes k)) c.self.inside.names.keys ≡ false
    = not_true (list_any (λ k. bytes_eq (string_bytes c.in-Ok.text) (string_bytes k)) c.self.inside.names.keys) (sym c.in-Ok-insert.ensures.added ∙ yes) in
    ap (map string_bytes) (c.in-Ok-insert.ensures.keys ∙ ap (λ (b : Bool). if b then c.self.inside.names.keys else c.self.inside.names.keys ++ c.in-Ok.text ∷ []) absent)
    ∙ map_last string_bytes c.self.inside.names.keys c.in-Ok.text
    ∙ ap (λ (names : List (List ℕ)). names ++ string_bytes c.in-Ok.text ∷ []) c.self.view_is
    ∙ ap (λ (name : List ℕ). c.args.self.now ++ name ∷ []) made
