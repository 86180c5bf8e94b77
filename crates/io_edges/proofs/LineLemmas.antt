-- How bytes split at newlines, and what is kept of a line.
use Rattle.std.proofs.Common.{◌≡◌, ℕ, zero, suc, ◌+◌, ◌-◌, ◌<◌, ◌≤◌, ◌≢◌, List, [], ◌∷◌, ◌++◌, length, take, drop, get_or, min, false, eqb, refl, sym, ap, ◌∙◌, arith, add-one}
use Rattle.std.proofs.lemmas.List.{take-append-drop, take_min, length-take, drop-take, drop-drop}
use Rattle.std.proofs.Math.Seq.{drop-cons, take-append-add}
use Rattle.io_edges.specs.Lines.{IsOneLine, AreLines, lines_of, stream_of, kept_of}

-- the bytes before the first newline are one line
pub IsOneLine-take : (bytes : List ℕ) (n : ℕ) → ((k : ℕ) → k < n → get_or bytes k 0 ≢ 10) → n ≤ length bytes → IsOneLine (take n bytes)
IsOneLine-take bytes zero none le = tt
IsOneLine-take [] (suc n) none le = absurd (omega arith)
IsOneLine-take (b ∷ bytes) (suc n) none le = (none 0 (omega arith), IsOneLine-take bytes n (λ k lt. none (suc k) (omega arith)) (omega arith))

-- the bytes before a newline, the newline and those after it
pub split_at : (bytes : List ℕ) (n : ℕ) → n < length bytes → get_or bytes n 0 ≡ 10 → bytes ≡ take n bytes ++ 10 ∷ drop (n + 1) bytes
split_at bytes n lt is = sym (take-append-drop n bytes) ∙ ap (λ l. take n bytes ++ l) (rw (add-one, ← is) (drop-cons bytes n 0 lt))

-- two parts of one line
pub IsOneLine-append : (a b : List ℕ) → IsOneLine a → IsOneLine b → IsOneLine (a ++ b)
IsOneLine-append [] b p q = q
IsOneLine-append (x ∷ a) b p q = (p.0, IsOneLine-append a b p.1 q)

take-take_append : (n : ℕ) (a b : List ℕ) → take n (take n a ++ b) ≡ take n (a ++ b)
take-take_append zero a b = refl
take-take_append (suc n) [] b = refl
take-take_append (suc n) (x ∷ a) b = ap (λ l. x ∷ l) (take-take_append n a b)

-- what is kept of more, after what was kept before
pub kept_of-append : (a b : List ℕ) → kept_of (kept_of a ++ b) ≡ kept_of (a ++ b)
unfolding kept_of
kept_of-append a b = take-take_append 1048577 a b

pub kept_of-none : kept_of [] ≡ []
unfolding kept_of
kept_of-none = refl

take_past : (n : ℕ) (text : List ℕ) → length text ≤ n → take n text ≡ text
take_past zero [] le = refl
take_past zero (x ∷ text) le = absurd (omega arith)
take_past (suc n) [] le = refl
take_past (suc n) (x ∷ text) le = ap (λ l. x ∷ l) (take_past n text (omega arith))

-- a line that is not too long is kept whole
pub kept_of-whole : (text : List ℕ) → length text ≤ 1048577 → kept_of text ≡ text
unfolding kept_of
kept_of-whole text le = take_past 1048577 text le

pub length-kept_of : (text : List ℕ) → length (kept_of text) ≡ min 1048577 (length text)
unfolding kept_of
length-kept_of text = length-take 1048577 text

-- nothing is kept of an empty line alone
pub kept_of-empty : (text : List ℕ) → kept_of text ≡ [] → text ≡ []
kept_of-empty [] e = refl
kept_of-empty (b ∷ text) e = absurd (omega (arith, ap length e, length-kept_of (b ∷ text)))

room_filled : (n : ℕ) (line part : List ℕ) → length line ≤ n → line ++ take (min (n - length line) (length part)) part ≡ take n (line ++ part)
room_filled n line part le =
    let more : n ≡ length line + (n - length line) = omega arith in
    ap (λ l. line ++ l) (take_min (n - length line) part)
    ∙ sym (take-append-add line part (n - length line)) ∙ ap (λ k. take k (line ++ part)) (sym more)

-- what the room behind a line takes of a part
pub kept_of-room : (line part : List ℕ) → length line ≤ 1048577 → line ++ take (min (1048577 - length line) (length part)) part ≡ kept_of (line ++ part)
unfolding kept_of
kept_of-room line part le = room_filled 1048577 line part le

not_ten : (b : ℕ) → b ≢ 10 → eqb b 10 ≡ false
not_ten b h = grind arith

-- a line, its newline and what follows
pub lines_of-line : (text rest : List ℕ) → IsOneLine text → lines_of (text ++ 10 ∷ rest) ≡ text ∷ lines_of rest
lines_of-line [] rest h = refl
lines_of-line (b ∷ text) rest h = rw (not_ten b h.0, lines_of-line text rest h.1) refl

-- a last line that no newline ends
pub lines_of-last : (b : ℕ) (text : List ℕ) → IsOneLine (b ∷ text) → lines_of (b ∷ text) ≡ (b ∷ text) ∷ []
lines_of-last b [] h = rw (not_ten b h.0) refl
lines_of-last b (c ∷ text) h = rw (not_ten b h.0, lines_of-last c text h.1) refl

pub lines_of-rest : (rest : List ℕ) → IsOneLine rest → rest ≢ [] → lines_of rest ≡ rest ∷ []
lines_of-rest [] one some = absurd (some refl)
lines_of-rest (b ∷ rest) one some = lines_of-last b rest one

pub lines_of-stream_of : (ls : List (List ℕ)) (rest : List ℕ) → AreLines ls → lines_of (stream_of ls rest) ≡ ls ++ lines_of rest
lines_of-stream_of [] rest h = refl
lines_of-stream_of (l ∷ ls) rest h = lines_of-line l (stream_of ls rest) h.0 ∙ ap (λ xs. l ∷ xs) (lines_of-stream_of ls rest h.1)

-- a line at the front of the rest is one line more
pub stream_of-push : (ls : List (List ℕ)) (l rest : List ℕ) → stream_of ls (l ++ 10 ∷ rest) ≡ stream_of (ls ++ l ∷ []) rest
stream_of-push [] l rest = refl
stream_of-push (m ∷ ls) l rest = ap (λ xs. m ++ 10 ∷ xs) (stream_of-push ls l rest)

pub AreLines-push : (ls : List (List ℕ)) (l : List ℕ) → AreLines ls → IsOneLine l → AreLines (ls ++ l ∷ [])
AreLines-push [] l h one = (one, tt)
AreLines-push (m ∷ ls) l h one = (h.0, AreLines-push ls l h.1 one)

-- what is left of a range without its first n
pub drop-slice_range : (xs : List ℕ) (i j n : ℕ) → n ≤ length (take (j - i) (drop i xs)) → drop n (take (j - i) (drop i xs)) ≡ take (j - (i + n)) (drop (i + n) xs)
drop-slice_range xs i j n le =
    let within : n ≤ j - i = omega (arith, length-take (j - i) (drop i xs)) in
    let count : j - i ≡ n + (j - (i + n)) = omega arith in
    ap (λ k. drop n (take k (drop i xs))) count ∙ drop-take n (j - (i + n)) (drop i xs) ∙ ap (λ l. take (j - (i + n)) l) (drop-drop n i xs)
