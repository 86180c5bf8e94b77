-- The bytes of a text in which a new name stands in the places of marked words.
use Rattle.std.specs.Prelude.{ℕ, Bool, List, [], ◌∷◌, ◌++◌, drop, Option, Some, None}
use Rattle.std.specs.List.{slice_range}
use Rattle.std.specs.Str.{chars}
use Rattle.formula_lex.specs.declared.token.Token.{Token}
use Rattle.formula_lex.specs.Machine.{tokens_in}
use Rattle.rename_texts.specs.Respelled.{first_mark, other_marks, turned_word}

-- from a place on: what stands in front of a token as it is, its word or the new name, and so on
abbrev pub replaced : List ℕ → List ℕ → ℕ → List Token → List Bool → List ℕ
replaced text new at [] ms = drop at text
replaced text new at (t ∷ ts) ms =
    slice_range text at t.from
    ++ (turned_word new (first_mark ms) t.kind (slice_range text t.from t.to)
    ++ replaced text new t.to ts (other_marks ms))

-- the same where there may be no tokens
abbrev pub replaced_in : List ℕ → List ℕ → Option (List Token) → List Bool → List ℕ
replaced_in text new None ms = text
replaced_in text new (Some ts) ms = replaced text new 0 ts ms

-- a text with the new name in the places of its marked tokens; one without tokens stays
unfoldable pub rewritten_text : List ℕ → List Bool → List ℕ → List ℕ
rewritten_text text ms new = replaced_in text new (tokens_in (chars text)) ms
