-- How a request is read from JSON, member by member in the order of the keys.
use Rattle.std.specs.Prelude.{ℕ, ◌^◌, Bool, nat_lt, List, codes, Option, Some, None, if◌then◌else◌}
use Rattle.std.specs.Str.{bytes_eq}
use Rattle.serde_json.specs.Data.{Num, unsigned, negative, float, Data, null, boolean, number, string, array, object}
use Rattle.serde_json.specs.Find.{as_object}
use Rattle.doc_model.specs.declared.request.Request.{Request}
use Rattle.doc_model.specs.declared.request.Request.TheVariants.{Open, Apply, Undo, Sync, Fetch, Rename, Close}
use Rattle.action_lines.specs.Steps.{◌>>=◌, or_else}
use Rattle.action_lines.specs.Fields.{field, field_text, is_done}
use Rattle.action_lines.specs.Actions.{actions_from}

unfoldable pub open_from : Data → Option Request
open_from d = do
  fields ← as_object d
  method ← field_text (codes "method") fields
  token ← field_text (codes "token") method.1
  if is_done token.1
      then (if bytes_eq method.0 (codes "openDoc") then Some (Open token.0) else None) else None

-- a request that is its word alone
abbrev pub word_from : List ℕ → Option Request
word_from word =
    if bytes_eq word (codes "sync") then Some Sync
    else if bytes_eq word (codes "closeDoc") then Some Close else None

unfoldable pub bare_from : Data → Option Request
bare_from d = do
  fields ← as_object d
  method ← field_text (codes "method") fields
  if is_done method.1 then word_from method.0 else None

unfoldable pub apply_from : Data → Option Request
apply_from d = do
  fields ← as_object d
  actions ← field (codes "actions") fields
  method ← field_text (codes "method") actions.1
  if is_done method.1
      then (if bytes_eq method.0 (codes "applyUserActions")
      then (actions_from actions.0 >>= λ list. Some (Apply list)) else None)
      else None

-- a number from 0 fits 64 bits with a sign
abbrev pub is_whole : ℕ → Bool
is_whole n = nat_lt n (2 ^ 63)

abbrev pub whole_of_num : Num → Option ℕ
whole_of_num (unsigned n) = if is_whole n then Some n else None
whole_of_num (negative z) = None
whole_of_num (float x) = None

-- the whole number from 0 that the JSON is
abbrev pub whole_from : Data → Option ℕ
whole_from null = None
whole_from (boolean b) = None
whole_from (number n) = whole_of_num n
whole_from (string s) = None
whole_from (array ds) = None
whole_from (object ms) = None

unfoldable pub undo_from : Data → Option Request
undo_from d = do
  fields ← as_object d
  bundle ← field (codes "bundle") fields
  method ← field_text (codes "method") bundle.1
  if is_done method.1
      then (if bytes_eq method.0 (codes "undo")
      then (whole_from bundle.0 >>= λ n. Some (Undo n)) else None)
      else None

unfoldable pub fetch_from : Data → Option Request
fetch_from d = do
  fields ← as_object d
  method ← field_text (codes "method") fields
  table ← field_text (codes "table") method.1
  if is_done table.1
      then (if bytes_eq method.0 (codes "fetchTable") then Some (Fetch table.0) else None) else None

unfoldable pub rename_from : Data → Option Request
rename_from d = do
  fields ← as_object d
  column ← field_text (codes "column") fields
  method ← field_text (codes "method") column.1
  new ← field_text (codes "new") method.1
  table ← field_text (codes "table") new.1
  if is_done table.1
      then (if bytes_eq method.0 (codes "renameColumn")
      then Some (Rename table.0 column.0 new.0) else None)
      else None

-- at most one of the forms fits
unfoldable pub request_from : Data → Option Request
request_from d =
    or_else (open_from d) (or_else (bare_from d) (or_else (apply_from d)
    (or_else (undo_from d) (or_else (fetch_from d) (rename_from d)))))
