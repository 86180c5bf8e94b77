-- How a name begins.
use Rattle.std.specs.Prelude.{ℕ, Bool, false, List, [], ◌∷◌}
use Rattle.unicode_ident.specs.Ident.{is_xid_start}

-- the first character may start an identifier
abbrev pub starts_name : List ℕ → Bool
starts_name [] = false
starts_name (c ∷ cs) = is_xid_start c
