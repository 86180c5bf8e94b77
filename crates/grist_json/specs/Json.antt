-- Bytes as the text of JSON, and what it is that they spell a thing.
use Rattle.std.specs.Prelude.{◌≡◌, ℕ, List, Option, Some, None, if◌then◌else◌}
use Rattle.std.specs.Str.{is_utf8}
use Rattle.serde_json.specs.Data.{Data}
use Rattle.serde_json.specs.Read.{read}

-- the JSON that the bytes are the text of; of repeated keys the last stands, and nesting goes to
-- 127
unfoldable pub json_at : List ℕ → Option Data
json_at bytes = if is_utf8 bytes then read bytes else None

-- the bytes are the text of this JSON
abbrev pub IsJson : List ℕ → Data → Type 0
IsJson bytes d = json_at bytes ≡ Some d

-- the bytes are the text of JSON that stands for the thing
abbrev pub SpellsBy : {X : Type 0} → (X → Data → Type 0) → X → List ℕ → Type 0
SpellsBy stands x bytes = (d : Data) × IsJson bytes d × stands x d
