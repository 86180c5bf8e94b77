-- The bytes of a rewritten text are those of the characters with the marked words replaced.
use Rattle.std.proofs.Common.{◌≡◌, ◌∙◌, ap, refl, sym, subst, ℕ, suc, ◌+◌, ◌-◌, ◌<◌, ◌≤◌, arith, Bool, true, false, List, [], ◌∷◌, ◌++◌, length, take, drop, get_or, append_assoc, length-append, add-one, drop-cons, Option, Some, None}
use Rattle.std.specs.List.{slice_range}
use Rattle.std.specs.Str.{IsUtf8, chars, encode_utf8_all}
use Rattle.std.proofs.Math.Seq.{drop-append_seam, take-append_seam}
use Rattle.std.proofs.Math.Utf8.{scalar, scalars}
use Rattle.std.proofs.lemmas.Bool.{and_from, and_parts}
use Rattle.std.proofs.lemmas.Str.{chars-encodes, encode_ascii, encodes-append, encodes-chars, scalars-chars}
use Rattle.formula_lex.specs.declared.fault.LexFault.TheVariants as fault
use Rattle.formula_lex.specs.declared.token.Token.{Token}
use Rattle.formula_lex.specs.declared.token.TokenKind.{TokenKind}
use Rattle.formula_lex.specs.declared.token.TokenKind.TheVariants as kind
use Rattle.formula_lex.specs.Machine.{tokens_in}
use Rattle.formula_lex.specs.Places.{IsInOrder}
use Rattle.formula_lex.specs.Spelling.{Begins, FitsFault, SpelledFrom, SpellsText}
use Rattle.formula_lex.proofs.Complete.{spelled_read}
use Rattle.formula_lex.proofs.Sound.{read_spelled}
use Rattle.formula_lex.proofs.Turns.{text_len-encodes}
use Rattle.rename_texts.specs.Respelled.{first_mark, other_marks, spliced, turned_word}
use Rattle.rename_texts.specs.Rewriting.{replaced, replaced_in, rewritten_text}

-- ---- bytes

slice_mid : (xs ys zs : List ℕ) (from to : ℕ) → from ≡ length xs → to ≡ length xs + length ys → slice_range (xs ++ (ys ++ zs)) from to ≡ ys
slice_mid xs ys zs from to e f =
    (λ i. slice_range (xs ++ (ys ++ zs)) (e i) (f i))
    ∙ rw (drop-append_seam xs (ys ++ zs))
    (ap (λ (n : ℕ). take n (ys ++ zs)) (let p : length xs + length ys - length xs ≡ length ys = omega arith in p) ∙ take-append_seam ys zs)

module _ (new w : List ℕ) (spelled : encode_utf8_all w ≡ new) where
  word_bytes : (m : Bool) (k : TokenKind) (word : List ℕ) → turned_word new m k (encode_utf8_all word) ≡ encode_utf8_all (turned_word w m k word)
  word_bytes true (kind.Name s) word = sym spelled
  word_bytes true (kind.Dollar s) word = ap (λ (bs : List ℕ). 36 ∷ bs) (sym spelled) ∙ sym (ap (λ (bs : List ℕ). bs ++ encode_utf8_all w) (encode_ascii 36 (omega arith)))
  word_bytes true (kind.Number n) word = refl
  word_bytes true (kind.Text s) word = refl
  word_bytes true (kind.Sign q) word = refl
  word_bytes false k word = refl

  pub replaced_bytes : (text : List ℕ) (ts : List Token) (cs pre : List ℕ) (at : ℕ) (ms : List Bool) (d : SpelledFrom at cs ts)
      → text ≡ pre ++ encode_utf8_all cs → at ≡ length pre → replaced text new at ts ms ≡ encode_utf8_all (spliced w ms at cs ts d)
  replaced_bytes text [] cs pre at ms d e p = (λ i. drop (p i) (e i)) ∙ drop-append_seam pre (encode_utf8_all cs)
  replaced_bytes text (t ∷ ts) cs pre at ms d e p =
      let b : Begins at cs t d.0 = d.1 in
      let gap = encode_utf8_all b.gap in
      let word = encode_utf8_all b.word in
      let rest = encode_utf8_all d.0 in
      let split : encode_utf8_all cs ≡ gap ++ (word ++ rest) = ap encode_utf8_all b.whole ∙ encodes-append b.gap (b.word ++ d.0) ∙ ap (λ (x : List ℕ). gap ++ x) (encodes-append b.word d.0) in
      let whole : text ≡ pre ++ (gap ++ (word ++ rest)) = e ∙ ap (λ (x : List ℕ). pre ++ x) split in
      let later : text ≡ (pre ++ gap) ++ (word ++ rest) = whole ∙ sym (append_assoc pre gap (word ++ rest)) in
      let last : text ≡ ((pre ++ gap) ++ word) ++ rest = later ∙ sym (append_assoc (pre ++ gap) word rest) in
      let from : t.from ≡ length pre + length gap = b.from ∙ omega (arith, p, text_len-encodes b.gap) in
      let from' : t.from ≡ length (pre ++ gap) = from ∙ sym (length-append pre gap) in
      let to : t.to ≡ length (pre ++ gap) + length word = b.to ∙ omega (arith, from', text_len-encodes b.word) in
      let kept : slice_range text at t.from ≡ gap = ap (λ (x : List ℕ). slice_range x at t.from) whole ∙ slice_mid pre gap (word ++ rest) at t.from p from in
      let own : slice_range text t.from t.to ≡ word = ap (λ (x : List ℕ). slice_range x t.from t.to) later ∙ slice_mid (pre ++ gap) word rest t.from t.to from' to in
      let more : replaced text new t.to ts (other_marks ms) ≡ encode_utf8_all (spliced w (other_marks ms) t.to d.0 ts d.2) =
      replaced_bytes text ts d.0 ((pre ++ gap) ++ word) t.to (other_marks ms) d.2 last (to ∙ sym (length-append (pre ++ gap) word)) in
      let then' = turned_word w (first_mark ms) t.kind b.word in
      (λ i. kept i ++ (turned_word new (first_mark ms) t.kind (own i) ++ more i))
      ∙ ap (λ (x : List ℕ). gap ++ (x ++ encode_utf8_all (spliced w (other_marks ms) t.to d.0 ts d.2))) (word_bytes (first_mark ms) t.kind b.word)
      ∙ sym (encodes-append b.gap (then' ++ spliced w (other_marks ms) t.to d.0 ts d.2) ∙ ap (λ (x : List ℕ). gap ++ x) (encodes-append then' (spliced w (other_marks ms) t.to d.0 ts d.2)))

-- ---- characters

scalars_join : (xs ys : List ℕ) → scalars xs ≡ true → scalars ys ≡ true → scalars (xs ++ ys) ≡ true
scalars_join [] ys h i = i
scalars_join (x ∷ xs) ys h i = let parts = and_parts (scalar x) (scalars xs) h in and_from (scalar x) (scalars (xs ++ ys)) parts.0 (scalars_join xs ys parts.1 i)

scalars_left : (xs ys : List ℕ) → scalars (xs ++ ys) ≡ true → scalars xs ≡ true
scalars_left [] ys h = refl
scalars_left (x ∷ xs) ys h = let parts = and_parts (scalar x) (scalars (xs ++ ys)) h in and_from (scalar x) (scalars xs) parts.0 (scalars_left xs ys parts.1)

scalars_right : (xs ys : List ℕ) → scalars (xs ++ ys) ≡ true → scalars ys ≡ true
scalars_right [] ys h = h
scalars_right (x ∷ xs) ys h = scalars_right xs ys (and_parts (scalar x) (scalars (xs ++ ys)) h).1

word_scalars : (w : List ℕ) (m : Bool) (k : TokenKind) (word : List ℕ) → scalars w ≡ true → scalars word ≡ true → scalars (turned_word w m k word) ≡ true
word_scalars w true (kind.Name s) word h i = h
word_scalars w true (kind.Dollar s) word h i = h
word_scalars w true (kind.Number n) word h i = i
word_scalars w true (kind.Text s) word h i = i
word_scalars w true (kind.Sign q) word h i = i
word_scalars w false k word h i = i

pub spliced_scalars : (w : List ℕ) (ts : List Token) (cs : List ℕ) (at : ℕ) (ms : List Bool) (d : SpelledFrom at cs ts) → scalars w ≡ true → scalars cs ≡ true → scalars (spliced w ms at cs ts d) ≡ true
spliced_scalars w [] cs at ms d h i = i
spliced_scalars w (t ∷ ts) cs at ms d h i =
    let b : Begins at cs t d.0 = d.1 in
    let all : scalars (b.gap ++ (b.word ++ d.0)) ≡ true = ap scalars (sym b.whole) ∙ i in
    let behind = scalars_right b.gap (b.word ++ d.0) all in
    scalars_join b.gap (turned_word w (first_mark ms) t.kind b.word ++ spliced w (other_marks ms) t.to d.0 ts d.2)
    (scalars_left b.gap (b.word ++ d.0) all)
    (scalars_join (turned_word w (first_mark ms) t.kind b.word) (spliced w (other_marks ms) t.to d.0 ts d.2)
    (word_scalars w (first_mark ms) t.kind b.word h (scalars_left b.word d.0 behind))
    (spliced_scalars w ts d.0 t.to (other_marks ms) d.2 h (scalars_right b.word d.0 behind)))

-- ---- texts

module _ (text new : List ℕ) (u : IsUtf8 text) (v : IsUtf8 new) (ts : List Token) (ms : List Bool) where
  -- the bytes of a spelled text are those of its spliced characters
  pub replaced_spliced : (s : SpelledFrom 0 (chars text) ts) → replaced text new 0 ts ms ≡ encode_utf8_all (spliced (chars new) ms 0 (chars text) ts s)
  replaced_spliced s = replaced_bytes new (chars new) (encodes-chars new v) text ts (chars text) [] 0 ms s (sym (encodes-chars text u)) refl

  pub replaced_chars : (s : SpelledFrom 0 (chars text) ts) → chars (replaced text new 0 ts ms) ≡ spliced (chars new) ms 0 (chars text) ts s
  replaced_chars s =
      ap chars (replaced_spliced s)
      ∙ chars-encodes (spliced (chars new) ms 0 (chars text) ts s) (spliced_scalars (chars new) ts (chars text) 0 ms s (scalars-chars new v) (scalars-chars text u))

  by_characters : SpelledFrom 0 (chars text) ts → IsUtf8 (replaced text new 0 ts ms)
  by_characters s =
      (spliced (chars new) ms 0 (chars text) ts s, (spliced_scalars (chars new) ts (chars text) 0 ms s (scalars-chars new v) (scalars-chars text u), sym (replaced_spliced s)))

  pub replaced_is_utf8 : SpellsText text ts → IsUtf8 (replaced text new 0 ts ms)
  unfolding SpellsText
  replaced_is_utf8 s = by_characters s

-- what the tokens of a text are
pub tokens_spelled : (text : List ℕ) (ts : List Token) → SpellsText text ts → tokens_in (chars text) ≡ Some ts
unfolding SpellsText
tokens_spelled text ts s = spelled_read (chars text) ts s

pub rewritten_some : (text new : List ℕ) (ts : List Token) (ms : List Bool) → SpellsText text ts → rewritten_text text ms new ≡ replaced text new 0 ts ms
unfolding rewritten_text
rewritten_some text new ts ms s = ap (λ (o : Option (List Token)). replaced_in text new o ms) (tokens_spelled text ts s)

pub rewritten_none : (text new : List ℕ) (at : ℕ) (ms : List Bool) → FitsFault text (fault.Bad at) → rewritten_text text ms new ≡ text
unfolding rewritten_text SpellsText
rewritten_none text new at ms f = by (tokens_in (chars text)) refl
  where
    by : (o : Option (List Token)) → tokens_in (chars text) ≡ o → replaced_in text new (tokens_in (chars text)) ms ≡ text
    by None e = ap (λ (o : Option (List Token)). replaced_in text new o ms) e
    by (Some ts) e = absurd (f.1 ts (read_spelled (chars text) ts e))

-- ---- places

-- where the rest of the tokens ends is behind each place
order_ends : (ts : List Token) (at end : ℕ) → IsInOrder at ts end → at ≤ end
order_ends [] at end h = h
order_ends (t ∷ ts) at end h = let later = order_ends ts t.to end h.2 in omega arith

pub record StandsWithin (at n : ℕ) (t : Token) : Type 0 where
  pub from : at ≤ t.from
  pub to : t.from ≤ t.to
  pub end : t.to ≤ n

pub order_stands : (ts : List Token) (k at end : ℕ) (t : Token) → k < length ts → t ≡ get_or ts k t → IsInOrder at (drop k ts) end → StandsWithin at end t
order_stands ts k at end t l e h =
    let here : IsInOrder at (t ∷ drop (k + 1) ts) end = subst (λ (us : List Token). IsInOrder at us end) (at_drop_token ts k t l e) h in
    let later = order_ends (drop (k + 1) ts) t.to end here.2 in
    record { from = here.0; to = omega arith; end = later }
  where
    at_drop_token : (ts : List Token) (k : ℕ) (t : Token) → k < length ts → t ≡ get_or ts k t → drop k ts ≡ t ∷ drop (k + 1) ts
    at_drop_token ts k t l e = rw (add-one, drop-cons ts k t l) (ap (λ (u : Token). u ∷ drop (suc k) ts) (sym e))
