-- Where the tokens of a list stand.
use Rattle.std.specs.Prelude.{ℕ, ◌<◌, ◌≤◌, List, [], ◌∷◌, ◌≡◌}
use Rattle.std.specs.List.{slice_range}
use Rattle.std.specs.Str.{encode_utf8_all}
use Rattle.formula_lex.specs.declared.token.Token.{Token}
use Rattle.formula_lex.specs.Spelling.{Writes}

-- none is empty, none begins before the end of the one in front of it, and none goes past the end
abbrev pub IsInOrder : ℕ → List Token → ℕ → Type 0
IsInOrder at [] end = at ≤ end
IsInOrder at (t ∷ ts) end = (at ≤ t.from) × (t.from < t.to) × IsInOrder t.to ts end

-- the token's slice of the text is how it is written
pub record IsSlice (text : List ℕ) (t : Token) : Type 0 where
  pub word : List ℕ
  pub slice : slice_range text t.from t.to ≡ encode_utf8_all word
  pub writes : Writes t.kind word
