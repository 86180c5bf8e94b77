-- The machine over the characters from a place on.
use Rattle.std.specs.Prelude.{ℕ, ◌+◌, ◌<◌, ◌≤◌, ◌≡◌, List, [], ◌∷◌, ◌++◌, length, drop, get_or, Option, Some, refl}
use Rattle.std.specs.Char.{encode_utf8, len_utf8}
use Rattle.std.specs.Str.{chars, IsUtf8, encode_utf8_all}
use Rattle.std.proofs.Common.{arith, ap, sym, ◌∙◌, length-append}
use Rattle.std.proofs.lemmas.List.{at_drop_more, at_drop_all, length_push}
use Rattle.std.proofs.lemmas.Str.{chars-encodes, length-encode}
use Rattle.formula_lex.specs.declared.fault.LexFault.{LexFault}
use Rattle.formula_lex.specs.declared.fault.LexFault.TheVariants.{Bad, NoMemory}
use Rattle.formula_lex.specs.declared.token.Token.{Token}
use Rattle.formula_lex.specs.declared.reading.Reading.{Reading}
use Rattle.formula_lex.specs.Spelling.{text_len}
use Rattle.formula_lex.specs.Machine.{State, ◌>>=◌, step, finish, lex}
use Rattle.formula_lex.specs.Lexed.{StopsWithin}

pub text_len-encodes : (cs : List ℕ) → text_len cs ≡ length (encode_utf8_all cs)
text_len-encodes [] = refl
text_len-encodes (c ∷ cs) = sym (length-append (encode_utf8 c) (encode_utf8_all cs) ∙ omega (arith, length-encode c, text_len-encodes cs))

pub text_len-chars : (bs : List ℕ) → IsUtf8 bs → text_len (chars bs) ≡ length bs
text_len-chars bs u = ap text_len (ap chars (sym u.1.1) ∙ chars-encodes u.0 u.1.0) ∙ text_len-encodes u.0 ∙ ap length u.1.1

module _ (cs xs : List ℕ) (c : ℕ) (h : (length xs < length cs) × (c ≡ get_or cs (length xs) c)) (out : List Token) (m : Reading) (at : ℕ) where
  len_at : text_len (drop (length xs) cs) ≡ len_utf8 c + text_len (drop (length xs + 1) cs)
  len_at = at_drop_more text_len cs (length xs) c h.0 ∙ ap (λ x. len_utf8 x + text_len (drop (length xs + 1) cs)) (sym h.1)

  lex_at : lex out m at (drop (length xs) cs) ≡ (step out m at c >>= λ s. lex s.0 s.1 (at + len_utf8 c) (drop (length xs + 1) cs))
  unfolding lex
  lex_at = at_drop_more (lex out m at) cs (length xs) c h.0 ∙ ap (λ x. step out m at x >>= λ s. lex s.0 s.1 (at + len_utf8 x) (drop (length xs + 1) cs)) (sym h.1)

  pub fits_at : (n : ℕ) → at + text_len (drop (length xs) cs) ≡ n → at + len_utf8 c ≤ n
  fits_at n e = omega (arith, len_at)

  pub next_holds : (n : ℕ) (all : Option (List Token)) → (at + text_len (drop (length xs) cs) ≡ n) × (lex out m at (drop (length xs) cs) ≡ all)
      → (o2 : List Token) (m2 : Reading) → step out m at c ≡ Some (o2, m2) → (l : ℕ) → l ≡ len_utf8 c
      → (at + l + text_len (drop (length (xs ++ c ∷ [])) cs) ≡ n) × (lex o2 m2 (at + l) (drop (length (xs ++ c ∷ [])) cs) ≡ all)
  next_holds n all i o2 m2 e l k =
      rw (length_push xs c, k) (
        let p : at + len_utf8 c + text_len (drop (length xs + 1) cs) ≡ n = omega (arith, len_at, i.0) in p,
        sym (lex_at ∙ ap (λ (o : Option State). o >>= λ s. lex s.0 s.1 (at + len_utf8 c) (drop (length xs + 1) cs)) e) ∙ i.1,
      )

  pub next_stops : (s : LexFault) (n : ℕ) (all : Option (List Token)) → (at + text_len (drop (length xs) cs) ≡ n) × (lex out m at (drop (length xs) cs) ≡ all) → StopsWithin at s (step out m at c) → StopsWithin n s all
  next_stops (Bad place) n all q p = (omega arith, sym q.1 ∙ lex_at ∙ ap (λ (o : Option State). o >>= λ s. lex s.0 s.1 (at + len_utf8 c) (drop (length xs + 1) cs)) p.1)
  next_stops NoMemory n all q p = tt

pub at_end : (cs xs : List ℕ) (out : List Token) (m : Reading) (at : ℕ) (all : Option (List Token)) → length xs ≡ length cs → lex out m at (drop (length xs) cs) ≡ all → finish out m at ≡ all
unfolding lex
at_end cs xs out m at all h e = sym (at_drop_all (lex out m at) cs (length xs) (omega arith)) ∙ e

pub stops_same : (s : LexFault) (at n : ℕ) (a b : Option (List Token)) → at ≤ n → a ≡ b → StopsWithin at s a → StopsWithin n s b
stops_same (Bad place) at n a b l e h = (omega arith, sym e ∙ h.1)
stops_same NoMemory at n a b l e h = tt
