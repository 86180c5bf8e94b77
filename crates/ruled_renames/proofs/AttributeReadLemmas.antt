-- The text of an attribute of users is read back.
use Rattle.std.proofs.Common.{◌≡◌, ◌∙◌, ap, refl, sym, ℕ, ◌<◌, ◌≤◌, ◌&&◌, ◌||◌, ◌==◌, arith, Bool, true, false, not, nat_le, nat_lt, List, [], ◌∷◌, ◌++◌, length, get_or, codes, Option, Some, option_and_then, append-nil, append_assoc, leb-true, ltb-true, ne_eqb}
use Rattle.std.specs.Int.{is_in_range}
use Rattle.std.specs.Str.{IsUtf8}
use Rattle.std.proofs.lemmas.Bool.{and_parts, false≢true}
use Rattle.unicode_ident.specs.Ident.{is_xid_continue}
use Rattle.unicode_ident.proofs.IdentLemmas.{is_xid_continue-ascii}
use Rattle.json.specs.Token.{Token}
use Rattle.json.specs.Lex.{tokens}
use Rattle.json.specs.Json as json
use Rattle.json.specs.Print.{escape, escape_byte}
use Rattle.json.specs.Tree.{json_tokens}
use Rattle.json.proofs.Printed.Plain.{escape_on_plain}
use Rattle.json.proofs.Printed.Tokens.{tokens-print}
use Rattle.json.proofs.Printed.Trees.{ArePrintable-json_tokens, value-json_tokens}
use Rattle.serde_json.specs.Data.{Data}
use Rattle.serde_json.specs.Read.{max_depth, of_json, read}
use Rattle.serde_json.specs.Written.{compact_text, outline}
use Rattle.serde_json.proofs.Texts.{print-outline}
use Rattle.cell_types.specs.NameRule.{is_name}
use Rattle.rename_flow.specs.AttributeTexts.{attribute_text}
use Rattle.user_attrs.specs.AttributeText.{are_names, attribute_data, attribute_from, property_of, property_text}
use Rattle.user_attrs.specs.declared.attribute_rule.AttributeRule.{AttributeRule}
use Rattle.user_attrs.specs.declared.attribute_rule.UserProperty.{UserProperty}
use Rattle.user_attrs.specs.declared.attribute_rule.UserProperty.TheVariants as property
use Rattle.ruled_renames.specs.AttributeLaw.{AttributeReadLaw, looking_in}
use Rattle.ruled_renames.proofs.NameTexts.{name_byte, never_byte}

-- ---- a name needs no escapes

below : (lo c : ℕ) → c < lo → nat_le lo c ≡ false
below lo c h = by (nat_le lo c) refl
  where
    by : (b : Bool) → nat_le lo c ≡ b → nat_le lo c ≡ false
    by true e = let l : lo ≤ c = leb-true lo c e in absurd (omega arith)
    by false e = e

out_of_range : (lo hi c : ℕ) → c < lo → is_in_range lo hi c ≡ false
out_of_range lo hi c h = ap (λ b. b && nat_le c hi) (below lo c h)

-- no control character is one that an identifier may have
control_other : (c : ℕ) → c < 32 → is_xid_continue c ≡ false
control_other c h =
    is_xid_continue-ascii c (omega arith)
    ∙ ap (λ b. ((b || is_in_range 65 90 c) || is_in_range 97 122 c) || (c == 95)) (out_of_range 48 57 c (omega arith))
    ∙ ap (λ b. (b || is_in_range 97 122 c) || (c == 95)) (out_of_range 65 90 c (omega arith))
    ∙ ap (λ b. b || (c == 95)) (out_of_range 97 122 c (omega arith))
    ∙ ne_eqb c 95 (λ e. absurd (omega arith))

module _ (n : List ℕ) (named : is_name n ≡ true) (utf8 : IsUtf8 n) where
  apart : (c : ℕ) → c < 128 → is_xid_continue c ≡ false → (i : ℕ) → i < length n → (get_or n i 0 == c) ≡ false
  apart c a other i l = ne_eqb (get_or n i 0) c (never_byte n named utf8 c a other i l)

  no_control : (i : ℕ) → i < length n → nat_lt (get_or n i 0) 32 ≡ false
  no_control i l = by (nat_lt (get_or n i 0) 32) refl
    where
      by : (b : Bool) → nat_lt (get_or n i 0) 32 ≡ b → nat_lt (get_or n i 0) 32 ≡ false
      by true e =
          let low : get_or n i 0 < 32 = ltb-true (get_or n i 0) 32 e in
          absurd (false≢true (sym (control_other (get_or n i 0) low) ∙ name_byte n named utf8 i l (omega (arith, low))))
      by false e = e

  stays_plain : (i : ℕ) → i < length n → not (((get_or n i 0 == 34) || (get_or n i 0 == 92)) || nat_lt (get_or n i 0) 32) ≡ true
  stays_plain i l =
      ap (λ b. not ((b || (get_or n i 0 == 92)) || nat_lt (get_or n i 0) 32)) (apart 34 (omega arith) (is_xid_continue-ascii 34 (omega arith)) i l)
      ∙ ap (λ b. not (b || nat_lt (get_or n i 0) 32)) (apart 92 (omega arith) (is_xid_continue-ascii 92 (omega arith)) i l)
      ∙ ap not (no_control i l)

  name_stays : escape n ≡ n
  name_stays = escape_on_plain true n (λ k _ l. stays_plain k l)

property_stays : (p : UserProperty) → escape (property_text p) ≡ property_text p
unfolding escape_byte
property_stays property.Email = refl
property_stays property.Name = refl
property_stays property.UserId = refl

-- ---- the text that is printed

piece : (x rest other : List ℕ) → rest ≡ other → (x ++ 34 ∷ []) ++ rest ≡ x ++ 34 ∷ other
piece x rest other e = append_assoc x (34 ∷ []) rest ∙ ap (λ (r : List ℕ). x ++ 34 ∷ r) e

-- the parts of the text in their order
abbrev laid : List ℕ → List ℕ → List ℕ → List ℕ → List ℕ
laid p c n t =
    codes "{\"charId\":\"" ++ (p ++ (codes "\",\"lookupColId\":\"" ++ (c ++ (codes "\",\"name\":\"" ++ (n ++ (codes "\",\"tableId\":\"" ++ (t ++ codes "\"}")))))))

printed : (a : AttributeRule) → compact_text (attribute_data a) ≡ laid (escape (property_text a.property)) (escape a.column) (escape a.name) (escape a.table)
unfolding escape_byte
printed a =
    ap (λ (r : List ℕ). codes "{\"charId\":\"" ++ r) (piece (escape (property_text a.property)) _ _
    (ap (λ (r : List ℕ). codes ",\"lookupColId\":\"" ++ r) (piece (escape a.column) _ _
    (ap (λ (r : List ℕ). codes ",\"name\":\"" ++ r) (piece (escape a.name) _ _
    (ap (λ (r : List ℕ). codes ",\"tableId\":\"" ++ r) (piece (escape a.table) (codes "}") (codes "}") refl)))))))

regroup : (p b c x n y t e : List ℕ) → ((((((p ++ b) ++ c) ++ x) ++ n) ++ y) ++ t) ++ e ≡ p ++ (b ++ (c ++ (x ++ (n ++ (y ++ (t ++ e))))))
regroup p b c x n y t e = simp append_assoc

written : (a : AttributeRule) (column : List ℕ) → attribute_text a column ≡ laid (property_text a.property) column a.name a.table
unfolding attribute_text
written a column =
    ap (λ (r : List ℕ). codes "{\"charId\":\"" ++ r)
    (regroup (property_text a.property) (codes "\",\"lookupColId\":\"") column (codes "\",\"name\":\"") a.name (codes "\",\"tableId\":\"") a.table (codes "\"}"))

-- ---- reading it

abbrev whole : Option (json.Json × List Token) → Option Data
whole o = option_and_then of_json (option_and_then (λ p. json.if_last p.0 p.1) o)

read_back : (a : AttributeRule) (text : List ℕ) → text ≡ compact_text (attribute_data a) → read text ≡ Some (attribute_data a)
unfolding json.value
read_back a text e =
    ap whole (ap (json.value max_depth) (
    ap tokens (e ∙ sym (print-outline (attribute_data a)))
    ∙ tokens-print (json_tokens (outline (attribute_data a))) (ArePrintable-json_tokens (outline (attribute_data a)) (tt, (tt, (tt, (tt, tt)))))
    ∙ sym (append-nil (json_tokens (outline (attribute_data a)))))
    ∙ value-json_tokens (outline (attribute_data a)) max_depth [] (omega arith))

property_again : (p : UserProperty) → property_of (property_text p) ≡ Some p
property_again property.Email = refl
property_again property.Name = refl
property_again property.UserId = refl

made_again : (name table column : List ℕ) (p : UserProperty) → are_names name table column ≡ true
    → attribute_from (attribute_data (record { name = name; table = table; column = column; property = p })) ≡ Some (record { name = name; table = table; column = column; property = p })
unfolding attribute_from
made_again name table column p good = rw (property_again p, good) refl

pub attribute_read : AttributeReadLaw
attribute_read a column h =
    let names = and_parts (is_name a.name) (is_name a.table && is_name column) h.names in
    let others = and_parts (is_name a.table) (is_name column) names.1 in
    let text : attribute_text a column ≡ compact_text (attribute_data (looking_in a column))
    = written a column
    ∙ sym (λ i. laid (property_stays a.property i) (name_stays column others.1 h.column_is i) (name_stays a.name names.0 h.name i) (name_stays a.table others.0 h.table i))
    ∙ sym (printed (looking_in a column)) in
    ap (option_and_then attribute_from) (read_back (looking_in a column) (attribute_text a column) text)
    ∙ made_again a.name a.table column a.property h.names
