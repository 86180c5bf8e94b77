-- What a list of tokens spells the machine reads.
use Rattle.std.specs.Prelude.{ℕ, ◌+◌, ◌-◌, ◌*◌, ◌<◌, ◌≤◌, ◌≡◌, true, false, nat_eq, List, [], ◌∷◌, ◌++◌, Option, Some, None, refl}
use Rattle.std.specs.Char.{encode_utf8, len_utf8}
use Rattle.std.specs.Option.{is_some}
use Rattle.std.specs.Str.{encode_utf8_all}
use Rattle.std.proofs.Common.{arith, ap, sym, ◌∙◌, subst, append_assoc, append-nil, inl, inr, zero-add}
use Rattle.std.proofs.lemmas.Bool.{lt-ltb, eq-eqb}
use Rattle.unicode_ident.specs.Ident.{is_xid_continue}
use Rattle.formula_lex.specs.declared.character.Class.{Class}
use Rattle.formula_lex.specs.declared.character.Class.TheVariants as class
use Rattle.formula_lex.specs.declared.character.Half.{Half}
use Rattle.formula_lex.specs.declared.token.Sign.{Sign}
use Rattle.formula_lex.specs.declared.token.Token.{Token}
use Rattle.formula_lex.specs.declared.token.TokenKind.{TokenKind}
use Rattle.formula_lex.specs.declared.token.TokenKind.TheVariants as kind
use Rattle.formula_lex.specs.declared.reading.Reading.TheVariants as reading
use Rattle.formula_lex.specs.Characters.{is_digit, is_quote}
use Rattle.formula_lex.specs.Spelling.{text_len, number_bound, AllDigits, value_from, AllContinue, IsWord, Piece, plain, escape, written, meant, Fit, Writes, Ends, AllBlank, Begins, SpelledFrom}
use Rattle.formula_lex.specs.Classes.{class_of, joined, alone}
use Rattle.formula_lex.specs.Machine.{◌>>=◌, put, begin, step, finish, lex, tokens_in}
use Rattle.formula_lex.proofs.ClassLemmas.{start_class, digit_class, blank_class, quote_class, quote_no_slash, dollar_class, IsSign, sign_read, alone_longer}

abbrev Result : Type 0
Result = Option (List Token)

-- gaps
blank_end : (cs : List ℕ) (out : List Token) (at : ℕ) → AllBlank cs → lex out reading.Between at cs ≡ Some out
unfolding lex step finish
blank_end [] out at b = refl
blank_end (c ∷ cs) out at b = rw (blank_class c b.0) (blank_end cs out (at + len_utf8 c) b.1)

blank_run : (cs rest : List ℕ) (out : List Token) (at to : ℕ) → AllBlank cs → to ≡ at + text_len cs → lex out reading.Between at (cs ++ rest) ≡ lex out reading.Between to rest
unfolding lex step
blank_run [] rest out at to b e = let p : at ≡ to = omega arith in ap (λ x. lex out reading.Between x rest) p
blank_run (c ∷ cs) rest out at to b e = rw (blank_class c b.0) (blank_run cs rest out (at + len_utf8 c) to b.1 (omega arith))

abbrev NotContinued : List ℕ → Type 0
NotContinued [] = Unit {0}
NotContinued (c ∷ cs) = is_xid_continue c ≡ false

abbrev NoDigit : List ℕ → Type 0
NoDigit [] = Unit {0}
NoDigit (c ∷ cs) = is_digit c ≡ false

value_grows : (v : ℕ) (cs : List ℕ) → v ≤ value_from v cs
value_grows v [] = omega arith
value_grows v (c ∷ cs) = omega (arith, value_grows (v * 10 + (c - 48)) cs)

eqb_same : (q : ℕ) → nat_eq q q ≡ true
eqb_same q = eq-eqb q q refl

-- names, numbers and strings that began at a place
module _ (from : ℕ) where
  name_run : (cs rest : List ℕ) (out : List Token) (at : ℕ) (w : List ℕ) (at' : ℕ) (w' : List ℕ) → AllContinue cs → w' ≡ w ++ encode_utf8_all cs → at' ≡ at + text_len cs
      → lex out (reading.Name from w) at (cs ++ rest) ≡ lex out (reading.Name from w') at' rest
  unfolding lex step
  name_run [] rest out at w at' w' a e k =
      let q : at ≡ at' = omega arith in let r : w ≡ w' = sym (e ∙ append-nil w) in λ i. lex out (reading.Name from (r i)) (q i) rest
  name_run (c ∷ cs) rest out at w at' w' a e k =
      rw a.0 (name_run cs rest out (at + len_utf8 c) (w ++ encode_utf8 c) at' w' a.1 (e ∙ sym (append_assoc w (encode_utf8 c) (encode_utf8_all cs))) (omega arith))

  name_ends : (rest : List ℕ) (out : List Token) (at : ℕ) (w : List ℕ) → NotContinued rest
      → lex out (reading.Name from w) at rest ≡ lex (put out (kind.Name w) from at) reading.Between at rest
  unfolding lex step finish
  name_ends [] out at w h = refl
  name_ends (c ∷ cs) out at w h = rw h refl

  dollar_run : (cs rest : List ℕ) (out : List Token) (at : ℕ) (w : List ℕ) (at' : ℕ) (w' : List ℕ) → AllContinue cs → w' ≡ w ++ encode_utf8_all cs → at' ≡ at + text_len cs
      → lex out (reading.DollarName from w) at (cs ++ rest) ≡ lex out (reading.DollarName from w') at' rest
  unfolding lex step
  dollar_run [] rest out at w at' w' a e k =
      let q : at ≡ at' = omega arith in let r : w ≡ w' = sym (e ∙ append-nil w) in λ i. lex out (reading.DollarName from (r i)) (q i) rest
  dollar_run (c ∷ cs) rest out at w at' w' a e k =
      rw a.0 (dollar_run cs rest out (at + len_utf8 c) (w ++ encode_utf8 c) at' w' a.1 (e ∙ sym (append_assoc w (encode_utf8 c) (encode_utf8_all cs))) (omega arith))

  dollar_ends : (rest : List ℕ) (out : List Token) (at : ℕ) (w : List ℕ) → NotContinued rest
      → lex out (reading.DollarName from w) at rest ≡ lex (put out (kind.Dollar w) from at) reading.Between at rest
  unfolding lex step finish
  dollar_ends [] out at w h = refl
  dollar_ends (c ∷ cs) out at w h = rw h refl

  number_run : (cs rest : List ℕ) (out : List Token) (v at v' at' : ℕ) → AllDigits cs → v' ≡ value_from v cs → v' < number_bound → at' ≡ at + text_len cs
      → lex out (reading.Number from v) at (cs ++ rest) ≡ lex out (reading.Number from v') at' rest
  unfolding lex step
  number_run [] rest out v at v' at' a e l k =
      let q : at ≡ at' = omega arith in λ i. lex out (reading.Number from (sym e i)) (q i) rest
  number_run (c ∷ cs) rest out v at v' at' a e l k =
      let b : v * 10 + (c - 48) < number_bound = omega (arith, value_grows (v * 10 + (c - 48)) cs, e) in
      rw (a.0, lt-ltb (v * 10 + (c - 48)) number_bound b)
      (number_run cs rest out (v * 10 + (c - 48)) (at + len_utf8 c) v' at' a.1 e l (omega arith))

  number_ends : (rest : List ℕ) (out : List Token) (v at : ℕ) → NoDigit rest → lex out (reading.Number from v) at rest ≡ lex (put out (kind.Number v) from at) reading.Between at rest
  unfolding lex step finish
  number_ends [] out v at h = refl
  number_ends (c ∷ cs) out v at h = rw h refl

  text_run : (q : ℕ) → nat_eq 92 q ≡ false → (ps : List Piece) (rest : List ℕ) (out : List Token) (at at' : ℕ) (w w' : List ℕ) → Fit q ps → w' ≡ w ++ meant ps → at' ≡ at + text_len (written ps)
      → lex out (reading.Text from q w) at (written ps ++ rest) ≡ lex out (reading.Text from q w') at' rest
  unfolding lex step
  text_run q s [] rest out at at' w w' f e k =
      let p : at ≡ at' = omega arith in let r : w ≡ w' = sym (e ∙ append-nil w) in λ i. lex out (reading.Text from q (r i)) (p i) rest
  text_run q s (plain c ∷ ps) rest out at at' w w' f e k =
      rw f.0 (text_run q s ps rest out (at + len_utf8 c) at' (w ++ encode_utf8 c) w' f.1 (e ∙ sym (append_assoc w (encode_utf8 c) (meant ps))) (omega arith))
  text_run q s (escape c d ∷ ps) rest out at at' w w' f e k =
      rw (s, f.0) (text_run q s ps rest out (at + len_utf8 92 + len_utf8 c) at' (w ++ encode_utf8 d) w' f.1 (e ∙ sym (append_assoc w (encode_utf8 d) (meant ps))) (omega arith))

  text_ends : (q : ℕ) (rest : List ℕ) (out : List Token) (at : ℕ) (w : List ℕ) → lex out (reading.Text from q w) at (q ∷ rest) ≡ lex (put out (kind.Text w) from (at + len_utf8 q)) reading.Between (at + len_utf8 q) rest
  unfolding lex step
  text_ends q rest out at w = rw (eqb_same q) refl

first_step : (c : ℕ) (cs : List ℕ) (out : List Token) (at : ℕ) (k : Class) → class_of c ≡ k → lex out reading.Between at (c ∷ cs) ≡ (begin k out at c >>= λ s. lex s.0 s.1 (at + len_utf8 c) cs)
unfolding lex step
first_step c cs out at k e = rw e refl

name_stops : (s rest : List ℕ) → Ends (kind.Name s) rest → NotContinued rest
name_stops s [] h = tt
name_stops s (c ∷ cs) h = h

dollar_stops : (s rest : List ℕ) → Ends (kind.Dollar s) rest → NotContinued rest
dollar_stops s [] h = tt
dollar_stops s (c ∷ cs) h = h

number_stops : (n : ℕ) (rest : List ℕ) → Ends (kind.Number n) rest → NoDigit rest
number_stops n [] h = tt
number_stops n (c ∷ cs) h = h

name_word : (w rest : List ℕ) (out : List Token) (at to : ℕ) → IsWord w → NotContinued rest → to ≡ at + text_len w
    → lex out reading.Between at (w ++ rest) ≡ lex (put out (kind.Name (encode_utf8_all w)) at to) reading.Between to rest
name_word [] rest out at to h e k = absurd h
name_word (c ∷ cs) rest out at to h e k =
    first_step c (cs ++ rest) out at class.Start (start_class c h.0)
    ∙ name_run at cs rest out (at + len_utf8 c) (encode_utf8 c) to (encode_utf8 c ++ encode_utf8_all cs) h.1 refl (omega arith)
    ∙ name_ends at rest out to (encode_utf8 c ++ encode_utf8_all cs) e

dollar_first : (x : ℕ) (cs : List ℕ) (out : List Token) (from at : ℕ) → class_of x ≡ class.Start
    → lex out (reading.Dollar from) at (x ∷ cs) ≡ lex out (reading.DollarName from (encode_utf8 x)) (at + len_utf8 x) cs
unfolding lex step
dollar_first x cs out from at e = rw e refl

dollar_word : (c : ℕ) (w rest : List ℕ) (out : List Token) (at to : ℕ) → class_of c ≡ class.DollarSign → IsWord w → NotContinued rest → to ≡ at + text_len (c ∷ w)
    → lex out reading.Between at (c ∷ (w ++ rest)) ≡ lex (put out (kind.Dollar (encode_utf8_all w)) at to) reading.Between to rest
dollar_word c [] rest out at to d h e k = absurd h
dollar_word c (x ∷ xs) rest out at to d h e k =
    first_step c ((x ∷ xs) ++ rest) out at class.DollarSign d
    ∙ dollar_first x (xs ++ rest) out at (at + len_utf8 c) (start_class x h.0)
    ∙ dollar_run at xs rest out (at + len_utf8 c + len_utf8 x) (encode_utf8 x) to (encode_utf8 x ++ encode_utf8_all xs) h.1 refl (omega arith)
    ∙ dollar_ends at rest out to (encode_utf8 x ++ encode_utf8_all xs) e

text_word : (q : ℕ) (ps : List Piece) (rest : List ℕ) (out : List Token) (at to : ℕ) → is_quote q ≡ true → Fit q ps → to ≡ at + text_len (q ∷ (written ps ++ q ∷ []))
    → lex out reading.Between at (q ∷ ((written ps ++ q ∷ []) ++ rest)) ≡ lex (put out (kind.Text (meant ps)) at to) reading.Between to rest
text_word q ps rest out at to c f k =
    first_step q ((written ps ++ q ∷ []) ++ rest) out at class.Quote (quote_class q c)
    ∙ ap (λ cs. lex out (reading.Text at q []) (at + len_utf8 q) cs) (append_assoc (written ps) (q ∷ []) rest)
    ∙ text_run at q (quote_no_slash q c) ps (q ∷ rest) out (at + len_utf8 q) (at + len_utf8 q + text_len (written ps)) [] (meant ps) f refl refl
    ∙ text_ends at q rest out (at + len_utf8 q + text_len (written ps)) (meant ps)
    ∙ ap (λ (x : ℕ). lex (put out (kind.Text (meant ps)) at x) reading.Between x rest) (let p : at + len_utf8 q + text_len (written ps) + len_utf8 q ≡ to = omega (arith, len_append (written ps) (q ∷ [])) in p)
  where
    len_append : (xs ys : List ℕ) → text_len (xs ++ ys) ≡ text_len xs + text_len ys
    len_append [] ys = omega arith
    len_append (x ∷ xs) ys = omega (arith, len_append xs ys)

-- signs
none_from : {A : Type 0} (o : Option A) → is_some o ≡ false → o ≡ None
none_from None e = refl
none_from (Some x) e = absurd (cc)

half_ends : (rest : List ℕ) (out : List Token) (from at : ℕ) (h : Half) (k : Sign) → alone h ≡ Some k → Ends (kind.Sign k) rest
    → lex out (reading.Half from h) at rest ≡ lex (put out (kind.Sign k) from at) reading.Between at rest
unfolding lex step finish
half_ends [] out from at h k a e = rw a refl
half_ends (c ∷ cs) out from at h k a e = rw (none_from (joined h c) (alone_longer h k c a ∙ e), a) refl

half_joins : (d : ℕ) (rest : List ℕ) (out : List Token) (from at : ℕ) (h : Half) (k : Sign) → joined h d ≡ Some k
    → lex out (reading.Half from h) at (d ∷ rest) ≡ lex (put out (kind.Sign k) from (at + len_utf8 d)) reading.Between (at + len_utf8 d) rest
unfolding lex step
half_joins d rest out from at h k j = rw j refl

-- the machine reads the word as that token
abbrev IsRead : TokenKind → List ℕ → List ℕ → List Token → ℕ → ℕ → Type 0
IsRead t w rest out at to = lex out reading.Between at (w ++ rest) ≡ lex (put out t at to) reading.Between to rest

sign_word : (k : Sign) (w rest : List ℕ) (out : List Token) (at to : ℕ) → IsSign k w → Ends (kind.Sign k) rest → to ≡ at + text_len w → IsRead (kind.Sign k) w rest out at to
sign_word k [] rest out at to s e l = absurd s
sign_word k (c ∷ []) rest out at to s e l =
    let p : at + len_utf8 c ≡ to = omega arith in
    elim s [
      | inl o ↦ first_step c rest out at (class.Single k) o ∙ ap (λ (x : ℕ). lex (put out (kind.Sign k) at x) reading.Between x rest) p
      | inr o ↦ first_step c rest out at (class.Pair o.0) o.1 ∙ half_ends rest out at (at + len_utf8 c) o.0 k o.2 e
          ∙ ap (λ (x : ℕ). lex (put out (kind.Sign k) at x) reading.Between x rest) p
    ]
sign_word k (c ∷ d ∷ []) rest out at to s e l =
    first_step c (d ∷ rest) out at (class.Pair s.0) s.1 ∙ half_joins d rest out at (at + len_utf8 c) s.0 k s.2
    ∙ ap (λ (x : ℕ). lex (put out (kind.Sign k) at x) reading.Between x rest) (let p : at + len_utf8 c + len_utf8 d ≡ to = omega arith in p)
sign_word k (c ∷ d ∷ f ∷ fs) rest out at to s e l = absurd s

abbrev Placed : List ℕ → List Token → ℕ → ℕ → TokenKind → Result
Placed rest out at to t = lex (put out t at to) reading.Between to rest

word_run : (t : TokenKind) (w rest : List ℕ) (out : List Token) (at to : ℕ) → Writes t w → Ends t rest → to ≡ at + text_len w → IsRead t w rest out at to
word_run (kind.Number n) [] rest out at to h e k = absurd h
word_run (kind.Number n) (c ∷ cs) rest out at to h e k =
    first_step c (cs ++ rest) out at class.Digit (digit_class c h.0.0)
    ∙ number_run at cs rest out (c - 48) (at + len_utf8 c) n to h.0.1 (sym (ap (λ (v : ℕ). value_from v cs) (sym (zero-add (c - 48))) ∙ h.1)) h.2 (omega arith)
    ∙ number_ends at rest out n to (number_stops n rest e)
word_run (kind.Text s) w rest out at to h e k =
    ap (λ (x : List ℕ). lex out reading.Between at (x ++ rest)) h.all
    ∙ text_word h.quote h.pieces rest out at to h.quotes h.fit (k ∙ ap (λ (x : List ℕ). at + text_len x) h.all)
    ∙ ap (λ (x : List ℕ). Placed rest out at to (kind.Text x)) h.means
word_run (kind.Name s) w rest out at to h e k =
    name_word w rest out at to h.0 (name_stops s rest e) k ∙ ap (λ (x : List ℕ). Placed rest out at to (kind.Name x)) h.1
word_run (kind.Dollar s) [] rest out at to h e k = absurd h
word_run (kind.Dollar s) (c ∷ w) rest out at to h e k =
    dollar_word c w rest out at to (ap class_of h.0 ∙ dollar_class) h.1 (dollar_stops s rest e) k
    ∙ ap (λ (x : List ℕ). Placed rest out at to (kind.Dollar x)) h.2
word_run (kind.Sign s) w rest out at to h e k =
    sign_word s w rest out at to (subst (λ (x : List ℕ). IsSign s x) (sym h) (sign_read s)) e k

pub spelled_again : (ts : List Token) (cs : List ℕ) (at : ℕ) (out : List Token) → SpelledFrom at cs ts → lex out reading.Between at cs ≡ Some (out ++ ts)
spelled_again [] cs at out s = blank_end cs out at s ∙ ap (λ (x : List Token). Some x) (sym (append-nil out))
spelled_again (t ∷ ts) cs at out s =
    let b : Begins at cs t s.0 = s.1 in
    ap (λ (x : List ℕ). lex out reading.Between at x) b.whole
    ∙ blank_run b.gap (b.word ++ s.0) out at t.from b.blank b.from
    ∙ word_run t.kind b.word s.0 out t.from t.to b.writes b.ends b.to
    ∙ spelled_again ts s.0 t.to (out ++ t ∷ []) s.2
    ∙ ap (λ (x : List Token). Some x) (append_assoc out (t ∷ []) ts)

pub spelled_read : (cs : List ℕ) (ts : List Token) → SpelledFrom 0 cs ts → tokens_in cs ≡ Some ts
unfolding tokens_in
spelled_read cs ts s = spelled_again ts cs 0 [] s
