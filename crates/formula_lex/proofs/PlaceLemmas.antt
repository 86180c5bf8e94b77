-- Where the tokens of a spelled text stand, and what their slices are.
use Rattle.std.specs.Prelude.{ℕ, ◌+◌, ◌-◌, ◌<◌, ◌≡◌, List, [], ◌∷◌, ◌++◌, length, take, refl}
use Rattle.std.specs.List.{All, slice_range}
use Rattle.std.specs.Char.{encode_utf8}
use Rattle.std.specs.Str.{encode_utf8_all}
use Rattle.std.proofs.Common.{arith, ap, sym, ◌∙◌, subst, append_assoc}
use Rattle.std.proofs.Math.Seq.{drop-append_seam, take-append_seam}
use Rattle.std.proofs.lemmas.List.Elements.{All-cons}
use Rattle.std.proofs.lemmas.Str.{len_utf8_bounds}
use Rattle.formula_lex.specs.declared.token.Sign.{Sign}
use Rattle.formula_lex.specs.declared.token.Sign.TheVariants as sign
use Rattle.formula_lex.specs.declared.token.Token.{Token}
use Rattle.formula_lex.specs.declared.token.TokenKind.{TokenKind}
use Rattle.formula_lex.specs.declared.token.TokenKind.TheVariants as kind
use Rattle.formula_lex.specs.Signs.{sign_text}
use Rattle.formula_lex.specs.Spelling.{text_len, Writes, Begins, SpelledFrom}
use Rattle.formula_lex.specs.Places.{IsInOrder, IsSlice}
use Rattle.formula_lex.proofs.Turns.{text_len-encodes}

text_len-append : (xs ys : List ℕ) → text_len (xs ++ ys) ≡ text_len xs + text_len ys
text_len-append [] ys = omega arith
text_len-append (x ∷ xs) ys = omega (arith, text_len-append xs ys)

encodes-append : (xs ys : List ℕ) → encode_utf8_all (xs ++ ys) ≡ encode_utf8_all xs ++ encode_utf8_all ys
encodes-append [] ys = refl
encodes-append (x ∷ xs) ys = ap (λ (zs : List ℕ). encode_utf8 x ++ zs) (encodes-append xs ys) ∙ sym (append_assoc (encode_utf8 x) (encode_utf8_all xs) (encode_utf8_all ys))

-- no token is empty
text_len-some : (c : ℕ) (cs : List ℕ) → 0 < text_len (c ∷ cs)
text_len-some c cs = omega (arith, (len_utf8_bounds c).0)

sign_some : (k : Sign) → 0 < text_len (sign_text k)
sign_some sign.Plus = text_len-some 43 []
sign_some sign.Minus = text_len-some 45 []
sign_some sign.Star = text_len-some 42 []
sign_some sign.DoubleSlash = text_len-some 47 (47 ∷ [])
sign_some sign.Percent = text_len-some 37 []
sign_some sign.Equal = text_len-some 61 (61 ∷ [])
sign_some sign.NotEqual = text_len-some 33 (61 ∷ [])
sign_some sign.Less = text_len-some 60 []
sign_some sign.AtMost = text_len-some 60 (61 ∷ [])
sign_some sign.More = text_len-some 62 []
sign_some sign.AtLeast = text_len-some 62 (61 ∷ [])
sign_some sign.Open = text_len-some 40 []
sign_some sign.Close = text_len-some 41 []
sign_some sign.OpenList = text_len-some 91 []
sign_some sign.CloseList = text_len-some 93 []
sign_some sign.Comma = text_len-some 44 []
sign_some sign.Point = text_len-some 46 []
sign_some sign.Assign = text_len-some 61 []

writes_some : (t : TokenKind) (w : List ℕ) → Writes t w → 0 < text_len w
writes_some (kind.Number n) [] h = absurd h
writes_some (kind.Number n) (c ∷ cs) h = text_len-some c cs
writes_some (kind.Text s) [] h = absurd (cc (h.all))
writes_some (kind.Text s) (c ∷ cs) h = text_len-some c cs
writes_some (kind.Name s) [] h = absurd h.0
writes_some (kind.Name s) (c ∷ cs) h = text_len-some c cs
writes_some (kind.Dollar s) [] h = absurd h
writes_some (kind.Dollar s) (c ∷ cs) h = text_len-some c cs
writes_some (kind.Sign k) w h = subst (λ (x : List ℕ). 0 < text_len x) (sym h) (sign_some k)

-- the tokens stand in order
pub spelled_in_order : (ts : List Token) (cs : List ℕ) (at end : ℕ) → end ≡ at + text_len cs → SpelledFrom at cs ts → IsInOrder at ts end
spelled_in_order [] cs at end e s = omega arith
spelled_in_order (t ∷ ts) cs at end e s =
    let b : Begins at cs t s.0 = s.1 in
    let whole : text_len cs ≡ text_len b.gap + (text_len b.word + text_len s.0) =
    ap text_len b.whole ∙ text_len-append b.gap (b.word ++ s.0) ∙ ap (λ (n : ℕ). text_len b.gap + n) (text_len-append b.word s.0) in
    let from : t.from ≡ at + text_len b.gap = b.from in
    let to : t.to ≡ t.from + text_len b.word = b.to in
    let some : 0 < text_len b.word = writes_some t.kind b.word b.writes in
    (omega arith, omega arith, spelled_in_order ts s.0 t.to end (omega arith) s.2)

-- the part of a list between two others
slice_mid : (xs ys zs : List ℕ) → slice_range (xs ++ (ys ++ zs)) (length xs) (length xs + length ys) ≡ ys
slice_mid xs ys zs =
    rw (drop-append_seam xs (ys ++ zs))
    (ap (λ (n : ℕ). take n (ys ++ zs)) (let p : length xs + length ys - length xs ≡ length ys = omega arith in p) ∙ take-append_seam ys zs)

-- each token is its slice
pub spelled_slices : (text : List ℕ) (ts : List Token) (pre cs : List ℕ) (at : ℕ) → text ≡ encode_utf8_all (pre ++ cs) → at ≡ text_len pre → SpelledFrom at cs ts → All (IsSlice text) ts
spelled_slices text [] pre cs at e p s = λ k d h. absurd (omega arith)
spelled_slices text (t ∷ ts) pre cs at e p s =
    let b : Begins at cs t s.0 = s.1 in
    let front : List ℕ = pre ++ b.gap in
    let from : t.from ≡ text_len front = b.from ∙ omega (arith, text_len-append pre b.gap) in
    let to : t.to ≡ text_len front + text_len b.word = b.to ∙ omega arith in
    let split : pre ++ cs ≡ front ++ (b.word ++ s.0) = ap (λ (x : List ℕ). pre ++ x) b.whole ∙ sym (append_assoc pre b.gap (b.word ++ s.0)) in
    let text_is : text ≡ encode_utf8_all front ++ (encode_utf8_all b.word ++ encode_utf8_all s.0) =
    e ∙ ap encode_utf8_all split ∙ encodes-append front (b.word ++ s.0) ∙ ap (λ (x : List ℕ). encode_utf8_all front ++ x) (encodes-append b.word s.0) in
    let slice : slice_range text t.from t.to ≡ encode_utf8_all b.word =
    (λ i. slice_range (text_is i) ((from ∙ text_len-encodes front) i) ((to ∙ ap (λ (n : ℕ). n + text_len b.word) (text_len-encodes front) ∙ ap (λ (n : ℕ). length (encode_utf8_all front) + n) (text_len-encodes b.word)) i))
    ∙ slice_mid (encode_utf8_all front) (encode_utf8_all b.word) (encode_utf8_all s.0) in
    All-cons (IsSlice text) t ts (record { word = b.word; slice = slice; writes = b.writes })
    (spelled_slices text ts (front ++ b.word) s.0 t.to (e ∙ ap encode_utf8_all (split ∙ sym (append_assoc front b.word s.0))) (to ∙ sym (text_len-append front b.word)) s.2)
