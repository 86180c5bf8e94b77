-- How long names with commas between them are.
use Rattle.std.proofs.Common.{ℕ, true, not, ◌+◌, ◌*◌, ◌≤◌, ◌&&◌, nat_le, List, [], ◌∷◌, ◌++◌, length, length-append, ◌≡◌, ap, codes, arith}
use Rattle.std.proofs.Math.Utf8.{encode, encodes}
use Rattle.std.proofs.lemmas.Bool.{and_parts, le-leb, leb-true}
use Rattle.std.proofs.lemmas.Str.{encodes-chars, length-encode, len_utf8_bounds}
use Rattle.std.specs.Char.{len_utf8}
use Rattle.std.specs.List.{AllByRecursion, list_all}
use Rattle.std.specs.Str.{IsUtf8, chars}
use Rattle.cell_types.specs.NameRule.{has_name_characters, is_name, is_reserved}
use Rattle.doc_model.specs.Column.{is_short}
use Rattle.renamed_resources.specs.NameLists.{are_names, behind_commas, joined}

encodes_few : (cs : List ℕ) → length (encodes cs) ≤ 4 * length cs
encodes_few [] = omega arith
encodes_few (c ∷ cs) =
    let here : length (encode c) ≡ len_utf8 c = length-encode c in
    let most : len_utf8 c ≤ 4 = (len_utf8_bounds c).1 in
    let rest : length (encodes cs) ≤ 4 * length cs = encodes_few cs in
    let both : length (encode c ++ encodes cs) ≡ length (encode c) + length (encodes cs) = length-append (encode c) (encodes cs) in
    omega (arith, here, most, rest, both)

-- a name of 64 characters has at most 256 bytes
name_bytes : (n : List ℕ) → IsUtf8 n → is_name n ≡ true → length n ≤ 256
unfolding is_name
name_bytes n text h =
    let two : (has_name_characters (chars n) ≡ true) × ((nat_le (length (chars n)) 64 && not (is_reserved n)) ≡ true) = and_parts (has_name_characters (chars n)) (nat_le (length (chars n)) 64 && not (is_reserved n)) h in
    let few : length (chars n) ≤ 64 = leb-true (length (chars n)) 64 (and_parts (nat_le (length (chars n)) 64) (not (is_reserved n)) two.1).0 in
    let bytes : length (encodes (chars n)) ≤ 4 * length (chars n) = encodes_few (chars n) in
    let same : length (encodes (chars n)) ≡ length n = ap length (encodes-chars n text) in
    omega (arith, few, bytes, same)

behind_bytes : (names : List (List ℕ)) → AllByRecursion IsUtf8 names → list_all is_name names ≡ true → length (behind_commas names) ≤ 257 * length names
behind_bytes [] texts h = omega arith
behind_bytes (n ∷ names) texts h =
    let parts : (is_name n ≡ true) × (list_all is_name names ≡ true) = and_parts (is_name n) (list_all is_name names) h in
    let here : length n ≤ 256 = name_bytes n texts.0 parts.0 in
    let rest : length (behind_commas names) ≤ 257 * length names = behind_bytes names texts.1 parts.1 in
    let one : length (codes "," ++ n) ≡ 1 + length n = length-append (codes ",") n in
    let both : length (codes "," ++ n ++ behind_commas names) ≡ length (codes "," ++ n) + length (behind_commas names) = length-append (codes "," ++ n) (behind_commas names) in
    omega (arith, here, rest, one, both)

pub short-joined : (names : List (List ℕ)) → AllByRecursion IsUtf8 names → are_names names ≡ true → is_short (joined names) ≡ true
short-joined [] texts h = le-leb 0 65536 (omega arith)
short-joined (n ∷ names) texts h =
    let parts : (nat_le (length (n ∷ names)) 255 ≡ true) × (list_all is_name (n ∷ names) ≡ true) = and_parts (nat_le (length (n ∷ names)) 255) (list_all is_name (n ∷ names)) h in
    let each : (is_name n ≡ true) × (list_all is_name names ≡ true) = and_parts (is_name n) (list_all is_name names) parts.1 in
    let few : length (n ∷ names) ≤ 255 = leb-true (length (n ∷ names)) 255 parts.0 in
    let here : length n ≤ 256 = name_bytes n texts.0 each.0 in
    let rest : length (behind_commas names) ≤ 257 * length names = behind_bytes names texts.1 each.1 in
    let both : length (n ++ behind_commas names) ≡ length n + length (behind_commas names) = length-append n (behind_commas names) in
    le-leb (length (n ++ behind_commas names)) 65536 (omega (arith, few, here, rest, both))
