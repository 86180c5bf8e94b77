-- Rows of rules with their places.
use Rattle.std.specs.Prelude.{ℕ, ℤ, List}
use Rattle.doc_model.specs.Document.{Document}
use Rattle.acl_rules.specs.Loaded.{place_of}

-- a row, with its place in front
abbrev pub placed : Document → ℕ → ℤ × ℕ
placed s r = (place_of s r, r)
