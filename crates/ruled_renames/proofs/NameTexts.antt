-- Which bytes a name has.
use Rattle.std.proofs.Common.{◌≡◌, ◌∙◌, ap, refl, subst, sym, ℕ, ◌<◌, ◌&&◌, arith, Bool, true, false, not, nat_le, List, [], ◌∷◌, length, get_or, codes}
use Rattle.std.specs.List.{list_all}
use Rattle.std.specs.Str.{IsUtf8, NonePass, chars}
use Rattle.std.proofs.lemmas.Bool.{and_parts, false≢true}
use Rattle.std.proofs.lemmas.Str.{NoCharPasses-byte, chars-nil, encodes-chars}
use Rattle.unicode_ident.specs.Ident.{is_xid_continue, is_xid_start}
use Rattle.unicode_ident.proofs.IdentLemmas.{is_xid_continue-ascii, is_xid_start-ascii, is_xid_start-is_xid_continue}
use Rattle.cell_types.specs.NameRule.{has_name_characters, is_name, is_reserved}

-- no character that an identifier may not have
none_other : (cs : List ℕ) → list_all (λ d. is_xid_continue d) cs ≡ true → NonePass (λ c. not (is_xid_continue c)) cs
none_other [] h = tt
none_other (c ∷ cs) h = let p = and_parts (is_xid_continue c) (list_all (λ d. is_xid_continue d) cs) h in (ap not p.0, none_other cs p.1)

none_in_name : (cs : List ℕ) → has_name_characters cs ≡ true → NonePass (λ c. not (is_xid_continue c)) cs
none_in_name [] h = absurd (false≢true h)
none_in_name (c ∷ cs) h =
    let p = and_parts (is_xid_start c) (list_all (λ d. is_xid_continue d) cs) h in
    (ap not (is_xid_start-is_xid_continue c p.0), none_other cs p.1)

characters : (n : List ℕ) → is_name n ≡ true → has_name_characters (chars n) ≡ true
unfolding is_name
characters n h = (and_parts (has_name_characters (chars n)) (nat_le (length (chars n)) 64 && not (is_reserved n)) h).0

back : (b : Bool) → not b ≡ false → b ≡ true
back true h = refl
back false h = absurd (false≢true (sym h))

-- a byte of ASCII in a name is one that an identifier may have
pub name_byte : (n : List ℕ) → is_name n ≡ true → IsUtf8 n → (i : ℕ) → i < length n → get_or n i 0 < 128 → is_xid_continue (get_or n i 0) ≡ true
name_byte n h u i l a = back (is_xid_continue (get_or n i 0)) (NoCharPasses-byte (λ c. not (is_xid_continue c)) n i (chars n, encodes-chars n u, none_in_name (chars n) (characters n h)) l a)

-- so it is not one of others
pub never_byte : (n : List ℕ) → is_name n ≡ true → IsUtf8 n → (c : ℕ) → c < 128 → is_xid_continue c ≡ false → (i : ℕ) → i < length n → get_or n i 0 ≡ c → ⊥
never_byte n h u c a other i l e =
    false≢true (sym other ∙ ap is_xid_continue (sym e) ∙ name_byte n h u i l (subst (λ (x : ℕ). x < 128) (sym e) a))

pub no_comma : (n : List ℕ) → is_name n ≡ true → IsUtf8 n → (i : ℕ) → i < length n → get_or n i 0 ≡ 44 → ⊥
no_comma n h u = never_byte n h u 44 (omega arith) (is_xid_continue-ascii 44 (omega arith))

-- ---- texts that are no names

pub empty_no_name : is_name [] ≡ false
unfolding is_name
empty_no_name = ap (λ cs. has_name_characters cs && (nat_le (length cs) 64 && not (is_reserved []))) chars-nil

pub star_no_name : is_name (codes "*") ≡ false
unfolding is_name chars
star_no_name = ap (λ b. (b && true) && (nat_le 1 64 && not (is_reserved (codes "*")))) (is_xid_start-ascii 42 (omega arith))
