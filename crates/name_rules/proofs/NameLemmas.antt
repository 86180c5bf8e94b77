-- Characters of names.
use Rattle.std.proofs.Common.{◌≡◌, ℕ, Bool, true, false, ◌&&◌, List, [], ◌∷◌, refl, ap}
use Rattle.std.specs.List.{list_all}
use Rattle.unicode_ident.specs.Ident.{is_xid_start, is_xid_continue}
use Rattle.unicode_ident.proofs.IdentLemmas.{is_xid_start-is_xid_continue}
use Rattle.cell_types.specs.NameRule.{has_name_characters}
use Rattle.name_rules.specs.NameStart.{starts_name}

starts_once : (s c r : Bool) → (s ≡ true → c ≡ true) → (s && (c && r)) ≡ (s && r)
starts_once false c r h = refl
starts_once true c r h = ap (λ b. b && r) (h refl)

-- the first character is tested as all others, too
pub has_name_characters_apart : (cs : List ℕ) → (starts_name cs && list_all (λ c. is_xid_continue c) cs) ≡ has_name_characters cs
has_name_characters_apart [] = refl
has_name_characters_apart (c ∷ cs) = starts_once (is_xid_start c) (is_xid_continue c) (list_all (λ d. is_xid_continue d) cs) (is_xid_start-is_xid_continue c)
