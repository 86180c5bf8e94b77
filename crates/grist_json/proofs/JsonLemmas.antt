-- Bytes that are the text of JSON.
use Rattle.std.proofs.Common.{◌≡◌, ℕ, List, Bool, true, false, cond, Option, Some, None, refl}
use Rattle.std.specs.Str.{IsUtf8, is_utf8}
use Rattle.std.proofs.lemmas.Str.{is_utf8-from_IsUtf8, IsUtf8-from_is_utf8}
use Rattle.serde_json.specs.Data.{Data}
use Rattle.serde_json.specs.Read.{read}
use Rattle.action_lines.proofs.StepLemmas.{guard_then}
use Rattle.grist_json.specs.Json.{json_at}

pub json_at_read : (bytes : List ℕ) (d : Data) → IsUtf8 bytes → read bytes ≡ Some d → json_at bytes ≡ Some d
unfolding json_at
json_at_read bytes d utf8 e = rw (is_utf8-from_IsUtf8 bytes utf8) e

pub read_json_at : (bytes : List ℕ) (d : Data) → json_at bytes ≡ Some d → read bytes ≡ Some d
unfolding json_at
read_json_at bytes d e = (guard_then (is_utf8 bytes) (read bytes) d e).1

none_if : (t : Bool) (o : Option Data) → (t ≡ true → o ≡ None) → cond t o None ≡ None
none_if true o h = h refl
none_if false o h = refl

pub json_at_none : (bytes : List ℕ) → (IsUtf8 bytes → read bytes ≡ None) → json_at bytes ≡ None
unfolding json_at
json_at_none bytes h = none_if (is_utf8 bytes) (read bytes) (λ t. h (IsUtf8-from_is_utf8 bytes t))
