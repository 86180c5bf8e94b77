-- What the machine reads is spelled so.
use Rattle.std.specs.Prelude.{ℕ, ◌+◌, ◌-◌, ◌*◌, ◌<◌, ◌≤◌, ◌≡◌, Bool, true, false, nat_eq, nat_lt, cond, List, [], ◌∷◌, ◌++◌, Option, Some, None, refl}
use Rattle.std.specs.Char.{encode_utf8, len_utf8}
use Rattle.std.specs.Option.{is_some}
use Rattle.std.specs.Str.{encode_utf8_all}
use Rattle.std.proofs.Common.{arith, ap, sym, ◌∙◌, subst, append_assoc, append-nil, zero-add}
use Rattle.std.proofs.lemmas.Bool.{ltb-true, eqb-true}
use Rattle.std.proofs.lemmas.Option.{none-some, same_Some}
use Rattle.unicode_ident.specs.Ident.{is_xid_continue}
use Rattle.formula_lex.specs.declared.character.Class.{Class}
use Rattle.formula_lex.specs.declared.character.Class.TheVariants as class
use Rattle.formula_lex.specs.declared.character.Half.{Half}
use Rattle.formula_lex.specs.declared.token.Sign.{Sign}
use Rattle.formula_lex.specs.declared.token.Token.{Token}
use Rattle.formula_lex.specs.declared.token.TokenKind.{TokenKind}
use Rattle.formula_lex.specs.declared.token.TokenKind.TheVariants as kind
use Rattle.formula_lex.specs.declared.reading.Reading.{Reading}
use Rattle.formula_lex.specs.declared.reading.Reading.TheVariants as reading
use Rattle.formula_lex.specs.Characters.{is_blank, is_digit, is_quote, escaped, is_plain}
use Rattle.formula_lex.specs.Signs.{is_longer}
use Rattle.formula_lex.specs.Spelling.{text_len, number_bound, AllDigits, value_from, AllContinue, IsWord, Piece, plain, escape, written, meant, Fit, Writes, Ends, AllBlank, Begins, SpelledFrom}
use Rattle.formula_lex.specs.Classes.{class_of, joined, alone}
use Rattle.formula_lex.specs.Machine.{State, ◌>>=◌, put, dollar_word, begin, between, half_step, step, finish, lex, tokens_in}
use Rattle.formula_lex.proofs.ClassLemmas.{class_means, digit_within, half_sign, single_text, alone_text, joined_text, alone_longer, joined_ends}

-- the tokens are those so far, and what the characters from a place on spell
abbrev Found : List Token → ℕ → List ℕ → List Token → Type 0
Found out at cs ts = (us : List Token) × (ts ≡ out ++ us) × SpelledFrom at cs us

-- what has come of the open token, when the next place is `at`
record OpenOne (at f : ℕ) (pre : List ℕ) (c : ℕ) : Type 0 where
  one : pre ≡ c ∷ []
  place : at ≡ f + text_len pre

record OpenName (at f : ℕ) (w pre : List ℕ) : Type 0 where
  word : IsWord pre
  bytes : w ≡ encode_utf8_all pre
  place : at ≡ f + text_len pre

record OpenDollar (at f : ℕ) (w pre : List ℕ) : Type 0 where
  name : List ℕ
  all : pre ≡ 36 ∷ name
  word : IsWord name
  bytes : w ≡ encode_utf8_all name
  place : at ≡ f + text_len pre

record OpenNumber (at f v : ℕ) (pre : List ℕ) : Type 0 where
  first : ℕ
  digits : List ℕ
  all : pre ≡ first ∷ digits
  starts : is_digit first ≡ true
  are : AllDigits digits
  value : value_from (first - 48) digits ≡ v
  few : v < number_bound
  place : at ≡ f + text_len pre

record OpenText (at f q : ℕ) (w pre after : List ℕ) : Type 0 where
  pieces : List Piece
  all : pre ≡ q ∷ (written pieces ++ after)
  quotes : is_quote q ≡ true
  means : meant pieces ≡ w
  fit : Fit q pieces
  place : at ≡ f + text_len pre

abbrev Open : Reading → ℕ → List ℕ → Type 0
Open reading.Between at pre = pre ≡ []
Open (reading.Name f w) at pre = OpenName at f w pre
Open (reading.Dollar f) at pre = OpenOne at f pre 36
Open (reading.DollarName f w) at pre = OpenDollar at f w pre
Open (reading.Number f v) at pre = OpenNumber at f v pre
Open (reading.Text f q w) at pre = OpenText at f q w pre []
Open (reading.Escape f q w) at pre = OpenText at f q w pre (92 ∷ [])
Open (reading.Half f h) at pre = OpenOne at f pre (half_sign h)

-- where the open token began
abbrev start : Reading → ℕ → ℕ
start reading.Between at = at
start (reading.Name f w) at = f
start (reading.Dollar f) at = f
start (reading.DollarName f w) at = f
start (reading.Number f v) at = f
start (reading.Text f q w) at = f
start (reading.Escape f q w) at = f
start (reading.Half f h) at = f

none_is : {A B : Type 0} (x : A) → None ≡ Some x → B
none_is x e = absurd (none-some x e)

text_len-append : (xs ys : List ℕ) → text_len (xs ++ ys) ≡ text_len xs + text_len ys
text_len-append [] ys = omega arith
text_len-append (x ∷ xs) ys = omega (arith, text_len-append xs ys)

-- a token is whole
emit : (t : TokenKind) (out : List Token) (f at : ℕ) (pre cs : List ℕ) (ts : List Token) → Writes t pre → Ends t cs → at ≡ f + text_len pre → Found (put out t f at) at cs ts → Found out f (pre ++ cs) ts
emit t out f at pre cs ts w e p r =
    let T : Token = record { kind = t; from = f; to = at } in (
      T ∷ r.0,
      r.1 ∙ append_assoc out (T ∷ []) r.0,
      (cs, record { gap = []; word = pre; whole = refl; blank = tt; writes = w; ends = e; from = omega arith; to = p }, r.2),
    )

blank_more : (c : ℕ) (cs : List ℕ) (out : List Token) (at : ℕ) (ts : List Token) → is_blank c ≡ true → Found out (at + len_utf8 c) cs ts → Found out at (c ∷ cs) ts
blank_more c cs out at ts k r = (r.0, r.1, more r.0 r.2)
  where
    more : (us : List Token) → SpelledFrom (at + len_utf8 c) cs us → SpelledFrom at (c ∷ cs) us
    more [] s = (k, s)
    more (u ∷ us) s =
        let b : Begins (at + len_utf8 c) cs u s.0 = s.1 in
        (s.0, record { gap = c ∷ b.gap; word = b.word; whole = ap (λ (x : List ℕ). c ∷ x) b.whole; blank = (k, b.blank); writes = b.writes; ends = b.ends; from = omega (arith, b.from); to = b.to }, s.2)

-- what the rest of the characters gives
Rest : ℕ → List ℕ → List Token → Type 0
Rest at cs ts = (out : List Token) (m : Reading) (pre : List ℕ) → Open m at pre → lex out m at cs ≡ Some ts → Found out (start m at) (pre ++ cs) ts

small_digit : (c : ℕ) → is_digit c ≡ true → c - 48 < number_bound
unfolding number_bound
small_digit c e =
    let w = digit_within c e in
    let b : c ≤ 57 = w.1 in
    let p : c - 48 < 10 = omega arith in
    omega arith

single_stops : (k : Sign) (cs : List ℕ) → ((d : ℕ) → is_longer k d ≡ false) → Ends (kind.Sign k) cs
single_stops k [] e = tt
single_stops k (d ∷ ds) e = e d

begin_sound : (k : Class) (c : ℕ) (cs : List ℕ) (out : List Token) (at : ℕ) (ts : List Token) → class_of c ≡ k → Rest (at + len_utf8 c) cs ts
    → (begin k out at c >>= λ s. lex s.0 s.1 (at + len_utf8 c) cs) ≡ Some ts → Found out at (c ∷ cs) ts
unfolding Rest
begin_sound class.Blank c cs out at ts k r e = blank_more c cs out at ts (class_means c class.Blank k) (r out reading.Between [] refl e)
begin_sound class.Digit c cs out at ts k r e =
    r out (reading.Number at (c - 48)) (c ∷ []) (record { first = c; digits = []; all = refl; starts = class_means c class.Digit k; are = tt; value = refl; few = small_digit c (class_means c class.Digit k); place = omega arith }) e
begin_sound class.Start c cs out at ts k r e =
    r out (reading.Name at (encode_utf8 c)) (c ∷ []) (record { word = (class_means c class.Start k, tt); bytes = sym (append-nil (encode_utf8 c)); place = omega arith }) e
begin_sound class.DollarSign c cs out at ts k r e =
    r out (reading.Dollar at) (c ∷ []) (record { one = ap (λ (x : ℕ). x ∷ []) (class_means c class.DollarSign k); place = omega arith }) e
begin_sound class.Quote c cs out at ts k r e =
    r out (reading.Text at c []) (c ∷ []) (record { pieces = []; all = refl; quotes = class_means c class.Quote k; means = refl; fit = tt; place = omega arith }) e
begin_sound (class.Single s) c cs out at ts k r e =
    let m = single_text c s k in
    emit (kind.Sign s) out at (at + len_utf8 c) (c ∷ []) cs ts m.0 (single_stops s cs m.1) (omega arith) (r (put out (kind.Sign s) at (at + len_utf8 c)) reading.Between [] refl e)
begin_sound (class.Pair h) c cs out at ts k r e =
    r out (reading.Half at h) (c ∷ []) (record { one = ap (λ (x : ℕ). x ∷ []) (class_means c (class.Pair h) k); place = omega arith }) e
begin_sound class.Other c cs out at ts k r e = none_is ts e

continue_more : (cs : List ℕ) (c : ℕ) → AllContinue cs → is_xid_continue c ≡ true → AllContinue (cs ++ c ∷ [])
continue_more [] c a e = (e, tt)
continue_more (x ∷ xs) c a e = (a.0, continue_more xs c a.1 e)

digits_more : (cs : List ℕ) (c : ℕ) → AllDigits cs → is_digit c ≡ true → AllDigits (cs ++ c ∷ [])
digits_more [] c a e = (e, tt)
digits_more (x ∷ xs) c a e = (a.0, digits_more xs c a.1 e)

value_more : (v : ℕ) (cs : List ℕ) (c : ℕ) → value_from v (cs ++ c ∷ []) ≡ value_from v cs * 10 + (c - 48)
value_more v [] c = refl
value_more v (x ∷ xs) c = value_more (v * 10 + (x - 48)) xs c

bytes_more : (cs : List ℕ) (c : ℕ) → encode_utf8_all (cs ++ c ∷ []) ≡ encode_utf8_all cs ++ encode_utf8 c
bytes_more [] c = append-nil (encode_utf8 c)
bytes_more (x ∷ xs) c = ap (λ (y : List ℕ). encode_utf8 x ++ y) (bytes_more xs c) ∙ sym (append_assoc (encode_utf8 x) (encode_utf8_all xs) (encode_utf8 c))

word_more : (cs : List ℕ) (c : ℕ) → IsWord cs → is_xid_continue c ≡ true → IsWord (cs ++ c ∷ [])
word_more [] c w e = absurd w
word_more (x ∷ xs) c w e = (w.0, continue_more xs c w.1 e)

written_more : (ps : List Piece) (p : Piece) → written (ps ++ p ∷ []) ≡ written ps ++ written (p ∷ [])
written_more [] p = refl
written_more (plain c ∷ ps) p = ap (λ (x : List ℕ). c ∷ x) (written_more ps p)
written_more (escape c d ∷ ps) p = ap (λ (x : List ℕ). 92 ∷ (c ∷ x)) (written_more ps p)

meant_more : (ps : List Piece) (p : Piece) → meant (ps ++ p ∷ []) ≡ meant ps ++ meant (p ∷ [])
meant_more [] p = refl
meant_more (plain c ∷ ps) p = ap (λ (x : List ℕ). encode_utf8 c ++ x) (meant_more ps p) ∙ sym (append_assoc (encode_utf8 c) (meant ps) (meant (p ∷ [])))
meant_more (escape c d ∷ ps) p = ap (λ (x : List ℕ). encode_utf8 d ++ x) (meant_more ps p) ∙ sym (append_assoc (encode_utf8 d) (meant ps) (meant (p ∷ [])))

fit_more : (q : ℕ) (ps : List Piece) (p : Piece) → Fit q ps → Fit q (p ∷ []) → Fit q (ps ++ p ∷ [])
fit_more q [] p f g = g
fit_more q (plain c ∷ ps) p f g = (f.0, fit_more q ps p f.1 g)
fit_more q (escape c d ∷ ps) p f g = (f.0, fit_more q ps p f.1 g)

place_more : (at f : ℕ) (pre : List ℕ) (c : ℕ) → at ≡ f + text_len pre → at + len_utf8 c ≡ f + text_len (pre ++ c ∷ [])
place_more at f pre c e = omega (arith, text_len-append pre (c ∷ []))

-- one more character of the open token
abbrev Onto : List Token → ℕ → List ℕ → ℕ → List ℕ → List Token → Type 0
Onto out f pre c cs ts = Found out f (pre ++ c ∷ cs) ts

onto : (out : List Token) (f : ℕ) (pre : List ℕ) (c : ℕ) (cs : List ℕ) (ts : List Token) → Found out f ((pre ++ c ∷ []) ++ cs) ts → Onto out f pre c cs ts
onto out f pre c cs ts r = subst (λ (x : List ℕ). Found out f x ts) (append_assoc pre (c ∷ []) cs) r

-- an open number, written
number_writes : (at f v : ℕ) (pre : List ℕ) → OpenNumber at f v pre → Writes (kind.Number v) pre
number_writes at f v pre o =
    subst (λ (p : List ℕ). Writes (kind.Number v) p) (sym o.all) ((o.starts, o.are), ap (λ (n : ℕ). value_from n o.digits) (zero-add (o.first - 48)) ∙ o.value, o.few)

dollar_writes : (at f : ℕ) (w pre : List ℕ) → OpenDollar at f w pre → Writes (kind.Dollar w) pre
dollar_writes at f w pre o = subst (λ (p : List ℕ). Writes (kind.Dollar w) p) (sym o.all) (refl, o.word, sym o.bytes)

-- the start of the text behind what has been read
between_sound : (c : ℕ) (cs : List ℕ) (out : List Token) (at : ℕ) (ts : List Token) → Rest (at + len_utf8 c) cs ts
    → (between out at c >>= λ s. lex s.0 s.1 (at + len_utf8 c) cs) ≡ Some ts → Found out at (c ∷ cs) ts
between_sound c cs out at ts r e = begin_sound (class_of c) c cs out at ts refl r e

abbrev After : ℕ → List ℕ → ℕ → Option State → Option (List Token)
After at cs c o = o >>= λ s. lex s.0 s.1 (at + len_utf8 c) cs

joined_stops : (h : Half) (c : ℕ) (k : Sign) (cs : List ℕ) → joined h c ≡ Some k → Ends (kind.Sign k) cs
joined_stops h c k [] e = tt
joined_stops h c k (d ∷ ds) e = joined_ends h c k e d

text_stops : (w cs : List ℕ) → Ends (kind.Text w) cs
text_stops w [] = tt
text_stops w (c ∷ cs) = refl

module _ (c : ℕ) (cs : List ℕ) (at : ℕ) (ts : List Token) (r : Rest (at + len_utf8 c) cs ts) (out : List Token) (f : ℕ) (pre : List ℕ) where
  name_sound : (w : List ℕ) → OpenName at f w pre → (b : Bool) → is_xid_continue c ≡ b
      → After at cs c (cond b (Some (out, reading.Name f (w ++ encode_utf8 c))) (between (put out (kind.Name w) f at) at c)) ≡ Some ts → Onto out f pre c cs ts
  unfolding Rest
  name_sound w o true x e =
      onto out f pre c cs ts (r out (reading.Name f (w ++ encode_utf8 c)) (pre ++ c ∷ [])
      (record { word = word_more pre c o.word x; bytes = ap (λ (x : List ℕ). x ++ encode_utf8 c) o.bytes ∙ sym (bytes_more pre c); place = place_more at f pre c o.place }) e)
  name_sound w o false x e =
      emit (kind.Name w) out f at pre (c ∷ cs) ts (o.word, sym o.bytes) x o.place (between_sound c cs (put out (kind.Name w) f at) at ts r e)

  dollar_begins : (k : Class) → class_of c ≡ k → OpenOne at f pre 36 → After at cs c (dollar_word f c k >>= λ m. Some (out, m)) ≡ Some ts → Onto out f pre c cs ts
  unfolding Rest
  dollar_begins class.Start x o e =
      onto out f pre c cs ts (r out (reading.DollarName f (encode_utf8 c)) (pre ++ c ∷ [])
      (record { name = c ∷ []; all = ap (λ (x : List ℕ). x ++ c ∷ []) o.one; word = (class_means c class.Start x, tt); bytes = sym (append-nil (encode_utf8 c)); place = place_more at f pre c o.place }) e)
  dollar_begins class.Blank x o e = none_is ts e
  dollar_begins class.Digit x o e = none_is ts e
  dollar_begins class.DollarSign x o e = none_is ts e
  dollar_begins class.Quote x o e = none_is ts e
  dollar_begins (class.Single s) x o e = none_is ts e
  dollar_begins (class.Pair h) x o e = none_is ts e
  dollar_begins class.Other x o e = none_is ts e

  dollar_sound : (w : List ℕ) → OpenDollar at f w pre → (b : Bool) → is_xid_continue c ≡ b
      → After at cs c (cond b (Some (out, reading.DollarName f (w ++ encode_utf8 c))) (between (put out (kind.Dollar w) f at) at c)) ≡ Some ts → Onto out f pre c cs ts
  unfolding Rest
  dollar_sound w o true x e =
      onto out f pre c cs ts (r out (reading.DollarName f (w ++ encode_utf8 c)) (pre ++ c ∷ [])
      (record { name = o.name ++ c ∷ []; all = ap (λ (x : List ℕ). x ++ c ∷ []) o.all; word = word_more o.name c o.word x; bytes = ap (λ (x : List ℕ). x ++ encode_utf8 c) o.bytes ∙ sym (bytes_more o.name c); place = place_more at f pre c o.place }) e)
  dollar_sound w o false x e =
      emit (kind.Dollar w) out f at pre (c ∷ cs) ts (dollar_writes at f w pre o) x o.place (between_sound c cs (put out (kind.Dollar w) f at) at ts r e)

  number_sound : (v : ℕ) → OpenNumber at f v pre → (b d : Bool) → is_digit c ≡ b → nat_lt (v * 10 + (c - 48)) number_bound ≡ d
      → After at cs c (cond b (cond d (Some (v * 10 + (c - 48))) None >>= λ m. Some (out, reading.Number f m)) (between (put out (kind.Number v) f at) at c)) ≡ Some ts → Onto out f pre c cs ts
  unfolding Rest
  number_sound v o true true x y e =
      onto out f pre c cs ts (r out (reading.Number f (v * 10 + (c - 48))) (pre ++ c ∷ [])
      (record {
        first = o.first;
        digits = o.digits ++ c ∷ [];
        all = ap (λ (x : List ℕ). x ++ c ∷ []) o.all;
        starts = o.starts;
        are = digits_more o.digits c o.are x;
        value = value_more (o.first - 48) o.digits c ∙ ap (λ (n : ℕ). n * 10 + (c - 48)) o.value;
        few = ltb-true _ _ y;
        place = place_more at f pre c o.place;
      }) e)
  number_sound v o true false x y e = none_is ts e
  number_sound v o false d x y e =
      emit (kind.Number v) out f at pre (c ∷ cs) ts (number_writes at f v pre o) x o.place (between_sound c cs (put out (kind.Number v) f at) at ts r e)

  text_sound : (q : ℕ) (w : List ℕ) → OpenText at f q w pre [] → (b d g : Bool) → is_plain q c ≡ b → nat_eq c q ≡ d → nat_eq c 92 ≡ g
      → After at cs c (cond b (Some (out, reading.Text f q (w ++ encode_utf8 c))) (cond d (Some (put out (kind.Text w) f (at + len_utf8 c), reading.Between)) (cond g (Some (out, reading.Escape f q w)) None))) ≡ Some ts → Onto out f pre c cs ts
  unfolding Rest
  text_sound q w o true d g x y z e =
      onto out f pre c cs ts (r out (reading.Text f q (w ++ encode_utf8 c)) (pre ++ c ∷ [])
      (record {
        pieces = o.pieces ++ plain c ∷ [];
        quotes = o.quotes;
        fit = fit_more q o.pieces (plain c) o.fit (x, tt);
        place = place_more at f pre c o.place;
        means = meant_more o.pieces (plain c) ∙ ap (λ (y : List ℕ). meant o.pieces ++ y) (append-nil (encode_utf8 c)) ∙ ap (λ (y : List ℕ). y ++ encode_utf8 c) o.means;
        all = ap (λ (x : List ℕ). x ++ c ∷ []) o.all ∙ ap (λ (x : List ℕ). q ∷ x) (ap (λ (x : List ℕ). x ++ c ∷ []) (append-nil (written o.pieces)) ∙ sym (written_more o.pieces (plain c)) ∙ sym (append-nil (written (o.pieces ++ plain c ∷ []))));
      }) e)
  text_sound q w o false true g x y z e =
      let same : c ≡ q = eqb-true c q y in
      let whole : pre ++ c ∷ [] ≡ q ∷ (written o.pieces ++ q ∷ []) = ap (λ (x : List ℕ). x ++ c ∷ []) o.all ∙ ap (λ (x : List ℕ). q ∷ (x ++ c ∷ [])) (append-nil (written o.pieces)) ∙ ap (λ (x : ℕ). q ∷ (written o.pieces ++ x ∷ [])) same in
      onto out f pre c cs ts
      (emit (kind.Text w) out f (at + len_utf8 c) (pre ++ c ∷ []) cs ts
      (record { quote = q; pieces = o.pieces; quotes = o.quotes; all = whole; means = o.means; fit = o.fit })
      (text_stops w cs) (place_more at f pre c o.place)
      (r (put out (kind.Text w) f (at + len_utf8 c)) reading.Between [] refl e))
  text_sound q w o false false true x y z e =
      let same : c ≡ 92 = eqb-true c 92 z in
      onto out f pre c cs ts (r out (reading.Escape f q w) (pre ++ c ∷ [])
      (record {
        pieces = o.pieces;
        quotes = o.quotes;
        fit = o.fit;
        means = o.means;
        place = place_more at f pre c o.place;
        all = ap (λ (x : List ℕ). x ++ c ∷ []) o.all ∙ ap (λ (x : List ℕ). q ∷ (x ++ c ∷ [])) (append-nil (written o.pieces)) ∙ ap (λ (x : ℕ). q ∷ (written o.pieces ++ x ∷ [])) same;
      }) e)
  text_sound q w o false false false x y z e = none_is ts e

  escape_sound : (q : ℕ) (w : List ℕ) → OpenText at f q w pre (92 ∷ []) → (m : Option ℕ) → escaped c ≡ m
      → After at cs c (m >>= λ d. let x : Option State = Some (out, reading.Text f q (w ++ encode_utf8 d)) in x) ≡ Some ts → Onto out f pre c cs ts
  unfolding Rest
  escape_sound q w o None x e = none_is ts e
  escape_sound q w o (Some d) x e =
      onto out f pre c cs ts (r out (reading.Text f q (w ++ encode_utf8 d)) (pre ++ c ∷ [])
      (record {
        pieces = o.pieces ++ escape c d ∷ [];
        quotes = o.quotes;
        fit = fit_more q o.pieces (escape c d) o.fit (x, tt);
        place = place_more at f pre c o.place;
        means = meant_more o.pieces (escape c d) ∙ ap (λ (y : List ℕ). meant o.pieces ++ y) (append-nil (encode_utf8 d)) ∙ ap (λ (y : List ℕ). y ++ encode_utf8 d) o.means;
        all = ap (λ (x : List ℕ). x ++ c ∷ []) o.all ∙ ap (λ (x : List ℕ). q ∷ x) (append_assoc (written o.pieces) (92 ∷ []) (c ∷ []) ∙ sym (written_more o.pieces (escape c d)) ∙ sym (append-nil (written (o.pieces ++ escape c d ∷ []))));
      }) e)

  half_by : Option Sign → Option Sign → Option State
  half_by (Some k) a = Some (put out (kind.Sign k) f (at + len_utf8 c), reading.Between)
  half_by None a = a >>= λ k. between (put out (kind.Sign k) f at) at c

  half_same : (h : Half) (j : Option Sign) → half_by j (alone h) ≡ half_step out f at h c j
  unfolding half_by
  half_same h (Some k) = refl
  half_same h None = refl

  half_sound : (h : Half) → OpenOne at f pre (half_sign h) → (j a : Option Sign) → joined h c ≡ j → alone h ≡ a
      → After at cs c (half_by j a) ≡ Some ts → Onto out f pre c cs ts
  unfolding Rest half_by
  half_sound h o (Some k) a x y e =
      onto out f pre c cs ts
      (emit (kind.Sign k) out f (at + len_utf8 c) (pre ++ c ∷ []) cs ts (ap (λ (x : List ℕ). x ++ c ∷ []) o.one ∙ joined_text h c k x)
      (joined_stops h c k cs x) (place_more at f pre c o.place)
      (r (put out (kind.Sign k) f (at + len_utf8 c)) reading.Between [] refl e))
  half_sound h o None (Some k) x y e =
      emit (kind.Sign k) out f at pre (c ∷ cs) ts (o.one ∙ alone_text h k y) (sym (alone_longer h k c y) ∙ ap (λ (v : Option Sign). is_some v) x) o.place
      (between_sound c cs (put out (kind.Sign k) f at) at ts r e)
  half_sound h o None None x y e = none_is ts e

-- the end of the text
ends_nil : (t : TokenKind) → Ends t []
ends_nil t = tt

last_token : (t : TokenKind) (f at : ℕ) (pre : List ℕ) (out ts : List Token) → Writes t pre → at ≡ f + text_len pre → ◌≡◌ {A = Option (List Token)} (Some (put out t f at)) (Some ts) → Found out f (pre ++ []) ts
last_token t f at pre out ts w p e = emit t out f at pre [] ts w (ends_nil t) p ([], sym (same_Some _ _ e) ∙ sym (append-nil _), tt)

half_end : (f : ℕ) (h : Half) (at : ℕ) (pre : List ℕ) (out ts : List Token) (a : Option Sign) → alone h ≡ a → OpenOne at f pre (half_sign h) → (a >>= λ k. Some (put out (kind.Sign k) f at)) ≡ Some ts → Found out f (pre ++ []) ts
half_end f h at pre out ts None x o e = none_is ts e
half_end f h at pre out ts (Some k) x o e = last_token (kind.Sign k) f at pre out ts (o.one ∙ alone_text h k x) o.place e

finish_sound : (m : Reading) (out : List Token) (at : ℕ) (pre : List ℕ) (ts : List Token) → Open m at pre → finish out m at ≡ Some ts → Found out (start m at) (pre ++ []) ts
unfolding finish
finish_sound reading.Between out at pre ts o e = ([], sym (same_Some _ _ e) ∙ sym (append-nil out), subst (λ (p : List ℕ). AllBlank (p ++ [])) (sym o) tt)
finish_sound (reading.Name f w) out at pre ts o e = last_token (kind.Name w) f at pre out ts (o.word, sym o.bytes) o.place e
finish_sound (reading.Dollar f) out at pre ts o e = none_is ts e
finish_sound (reading.DollarName f w) out at pre ts o e = last_token (kind.Dollar w) f at pre out ts (dollar_writes at f w pre o) o.place e
finish_sound (reading.Number f v) out at pre ts o e = last_token (kind.Number v) f at pre out ts (number_writes at f v pre o) o.place e
finish_sound (reading.Text f q w) out at pre ts o e = none_is ts e
finish_sound (reading.Escape f q w) out at pre ts o e = none_is ts e
finish_sound (reading.Half f h) out at pre ts o e = half_end f h at pre out ts (alone h) refl o e

step_sound : (m : Reading) (c : ℕ) (cs : List ℕ) (at : ℕ) (ts : List Token) → Rest (at + len_utf8 c) cs ts → (out : List Token) (pre : List ℕ) → Open m at pre → After at cs c (step out m at c) ≡ Some ts
    → Found out (start m at) (pre ++ c ∷ cs) ts
unfolding step half_by
step_sound reading.Between c cs at ts r out pre o e = subst (λ (p : List ℕ). Found out at (p ++ c ∷ cs) ts) (sym o) (between_sound c cs out at ts r e)
step_sound (reading.Name f w) c cs at ts r out pre o e = name_sound c cs at ts r out f pre w o (is_xid_continue c) refl e
step_sound (reading.Dollar f) c cs at ts r out pre o e = dollar_begins c cs at ts r out f pre (class_of c) refl o e
step_sound (reading.DollarName f w) c cs at ts r out pre o e = dollar_sound c cs at ts r out f pre w o (is_xid_continue c) refl e
step_sound (reading.Number f v) c cs at ts r out pre o e = number_sound c cs at ts r out f pre v o (is_digit c) (nat_lt (v * 10 + (c - 48)) number_bound) refl refl e
step_sound (reading.Text f q w) c cs at ts r out pre o e = text_sound c cs at ts r out f pre q w o (is_plain q c) (nat_eq c q) (nat_eq c 92) refl refl refl e
step_sound (reading.Escape f q w) c cs at ts r out pre o e = escape_sound c cs at ts r out f pre q w o (escaped c) refl e
step_sound (reading.Half f h) c cs at ts r out pre o e =
    half_sound c cs at ts r out f pre h o (joined h c) (alone h) refl refl (ap (After at cs c) (half_same c cs at ts r out f pre h (joined h c)) ∙ e)

lex_sound : (cs : List ℕ) (m : Reading) (out : List Token) (at : ℕ) (pre : List ℕ) (ts : List Token) → Open m at pre → lex out m at cs ≡ Some ts → Found out (start m at) (pre ++ cs) ts
unfolding lex Rest
lex_sound [] m out at pre ts o e = finish_sound m out at pre ts o e
lex_sound (c ∷ cs) m out at pre ts o e = step_sound m c cs at ts (λ out2 m2 pre2 o2 e2. lex_sound cs m2 out2 (at + len_utf8 c) pre2 ts o2 e2) out pre o e

pub read_spelled : (cs : List ℕ) (ts : List Token) → tokens_in cs ≡ Some ts → SpelledFrom 0 cs ts
unfolding tokens_in
read_spelled cs ts e =
    let r : Found [] 0 cs ts = lex_sound cs reading.Between [] 0 [] ts refl e in
    subst (λ (us : List Token). SpelledFrom 0 cs us) (sym r.1) r.2
