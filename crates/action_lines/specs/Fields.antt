-- The members of an object, one after the other in the order of their keys.
use Rattle.std.specs.Prelude.{ℕ, List, Bool, true, false, Option, Some, None, option_map, option_and_then, if◌then◌else◌}
use Rattle.std.specs.Str.{bytes_eq}
use Rattle.serde_json.specs.Data.{Data, Members, no_members, member}
use Rattle.serde_json.specs.Find.{as_str}

-- the first member's key and value, and the members after it
abbrev pub first_field : Members → Option (List ℕ × Data × Members)
first_field no_members = None
first_field (member k d ms) = Some (k, d, ms)

-- the first member's value and the members after it, where it has this key
abbrev pub field : List ℕ → Members → Option (Data × Members)
field k no_members = None
field k (member l d ms) = if bytes_eq l k then Some (d, ms) else None

-- the same, where the value is a text
abbrev pub field_text : List ℕ → Members → Option (List ℕ × Members)
field_text k ms = option_and_then (λ p. option_map (λ t. (t, p.1)) (as_str p.0)) (field k ms)

-- no member is left
abbrev pub is_done : Members → Bool
is_done no_members = true
is_done (member k d ms) = false

-- the value that was found and the members after it; else these members
abbrev pub found_or : Option (Data × Members) → Members → Option Data × Members
found_or (Some p) ms = (Some p.0, p.1)
found_or None ms = (None, ms)

-- the first member's value and the members after it, where it has this key; else all members
abbrev pub optional : List ℕ → Members → Option Data × Members
optional k ms = found_or (field k ms) ms

-- a member in front, where there is a value for it
abbrev pub put_front : List ℕ → Option Data → Members → Members
put_front k None ms = ms
put_front k (Some d) ms = member k d ms
