-- The characters of a name are scalar values.
use Rattle.std.proofs.Common.{◌≡◌, ℕ, true, not, ◌||◌, List, [], ◌∷◌, refl, sym, subst, ◌∙◌, arith}
use Rattle.std.specs.Str.{chars}
use Rattle.std.specs.List.{list_all}
use Rattle.std.proofs.Math.Utf8.{scalar, scalars}
use Rattle.std.proofs.lemmas.Bool.{and_parts, and_from}
use Rattle.ucd_table.specs.Rows.{in_ranges, Range}
use Rattle.ucd_table.proofs.Stepped.{Stepped, of_ranges, zip_stepped}
use Rattle.ucd_table.proofs.StepsLemmas.{rises_from}
use Rattle.ucd_table.proofs.Facts.{Stepped-everywhere}
use Rattle.ucd_derived.proofs.BinaryLemmas.{is_xid_continue_stepped}
use Rattle.unicode_ident.specs.Ident.{is_xid_continue}
use Rattle.unicode_ident.proofs.IdentLemmas.{is_xid_start-is_xid_continue}
use Rattle.unicode_ident.proofs.Computing.{unicode_ident}
use Rattle.cell_types.specs.NameRule.{has_name_characters, is_name}

-- all code points but the surrogates
abbrev scalar_ranges : List Range
scalar_ranges = (0, 55295) ∷ (57344, 1114111) ∷ []

scalar-ranges : (c : ℕ) → in_ranges scalar_ranges c ≡ scalar c
unfolding in_ranges
scalar-ranges c = grind arith

unfoldable scalar_stepped : Stepped (in_ranges scalar_ranges)
unfolding in_ranges rises_from
scalar_stepped = of_ranges scalar_ranges refl

scalar-continues : (c : ℕ) → is_xid_continue c ≡ true → scalar c ≡ true
unfolding unicode_ident scalar_stepped
scalar-continues c continues =
    let both = zip_stepped (λ a b. not a || b) is_xid_continue (in_ranges scalar_ranges) is_xid_continue_stepped scalar_stepped in
    sym (scalar-ranges c) ∙ subst (λ a. (not a || in_ranges scalar_ranges c) ≡ true) continues (Stepped-everywhere _ both refl c)

all_scalars : (cs : List ℕ) → list_all (λ d. is_xid_continue d) cs ≡ true → scalars cs ≡ true
all_scalars [] all = refl
all_scalars (c ∷ cs) all = let parts = and_parts _ _ all in and_from _ _ (scalar-continues c parts.0) (all_scalars cs parts.1)

characters_scalars : (cs : List ℕ) → has_name_characters cs ≡ true → scalars cs ≡ true
characters_scalars [] good = refl
characters_scalars (c ∷ cs) good =
    let parts = and_parts _ _ good in
    and_from _ _ (scalar-continues c (is_xid_start-is_xid_continue c parts.0)) (all_scalars cs parts.1)

pub scalars-name : (text : List ℕ) → is_name text ≡ true → scalars (chars text) ≡ true
unfolding is_name
scalars-name text good = characters_scalars (chars text) (and_parts _ _ good).0
