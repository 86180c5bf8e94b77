-- Which tokens a text spells.
use Rattle.std.specs.Prelude.{ℕ, ◌+◌, ◌-◌, ◌*◌, ◌^◌, ◌<◌, ◌≤◌, Bool, true, false, List, [], ◌∷◌, ◌++◌, ◌≡◌, Some, length}
use Rattle.std.specs.Char.{encode_utf8, len_utf8}
use Rattle.std.specs.Str.{chars, encode_utf8_all}
use Rattle.unicode_ident.specs.Ident.{is_xid_start, is_xid_continue}
use Rattle.formula_lex.specs.declared.fault.LexFault.{LexFault}
use Rattle.formula_lex.specs.declared.fault.LexFault.TheVariants as fault
use Rattle.formula_lex.specs.declared.token.Token.{Token}
use Rattle.formula_lex.specs.declared.token.TokenKind.{TokenKind}
use Rattle.formula_lex.specs.declared.token.TokenKind.TheVariants as kind
use Rattle.formula_lex.specs.Characters.{is_blank, is_digit, is_quote, escaped, is_plain}
use Rattle.formula_lex.specs.Signs.{sign_text, is_longer}

-- how many bytes the characters take
abbrev pub text_len : List ℕ → ℕ
text_len [] = 0
text_len (c ∷ cs) = len_utf8 c + text_len cs

-- all of them part tokens
abbrev pub AllBlank : List ℕ → Type 0
AllBlank [] = Unit {0}
AllBlank (c ∷ cs) = (is_blank c ≡ true) × AllBlank cs

-- all of them are digits
abbrev pub AllDigits : List ℕ → Type 0
AllDigits [] = Unit {0}
AllDigits (c ∷ cs) = (is_digit c ≡ true) × AllDigits cs

-- the number that the value and the digits behind it make
abbrev pub value_from : ℕ → List ℕ → ℕ
value_from value [] = value
value_from value (c ∷ cs) = value_from (value * 10 + (c - 48)) cs

-- the least number that is too great for a token
unfoldable pub number_bound : ℕ
number_bound = 2 ^ 63

-- all of them may continue a name
abbrev pub AllContinue : List ℕ → Type 0
AllContinue [] = Unit {0}
AllContinue (c ∷ cs) = (is_xid_continue c ≡ true) × AllContinue cs

-- a character that may start a name, and further ones that may continue it
abbrev pub IsWord : List ℕ → Type 0
IsWord [] = ⊥
IsWord (c ∷ cs) = (is_xid_start c ≡ true) × AllContinue cs

-- a piece of a string: a character, or a backslash and a character, which means another one
pub data Piece : Type 0 where
  plain : ℕ → Piece
  escape : ℕ → ℕ → Piece

-- the characters of pieces
abbrev pub written : List Piece → List ℕ
written [] = []
written (plain c ∷ ps) = c ∷ written ps
written (escape c d ∷ ps) = 92 ∷ (c ∷ written ps)

-- the text that pieces mean
abbrev pub meant : List Piece → List ℕ
meant [] = []
meant (plain c ∷ ps) = encode_utf8 c ++ meant ps
meant (escape c d ∷ ps) = encode_utf8 d ++ meant ps

-- pieces that may stand between those quotes
abbrev pub Fit : ℕ → List Piece → Type 0
Fit quote [] = Unit {0}
Fit quote (plain c ∷ ps) = (is_plain quote c ≡ true) × Fit quote ps
Fit quote (escape c d ∷ ps) = (escaped c ≡ Some d) × Fit quote ps

-- a string: a quote, pieces that mean the text, and the same quote
pub record WritesText (text w : List ℕ) : Type 0 where
  pub quote : ℕ
  pub pieces : List Piece
  pub quotes : is_quote quote ≡ true
  pub all : w ≡ quote ∷ (written pieces ++ quote ∷ [])
  pub means : meant pieces ≡ text
  pub fit : Fit quote pieces

-- how a token is written
abbrev pub Writes : TokenKind → List ℕ → Type 0
Writes (kind.Number n) [] = ⊥
Writes (kind.Number n) (c ∷ cs) =
    AllDigits (c ∷ cs) × (value_from 0 (c ∷ cs) ≡ n) × (n < number_bound)
Writes (kind.Text s) w = WritesText s w
Writes (kind.Name s) w = IsWord w × (encode_utf8_all w ≡ s)
Writes (kind.Dollar s) [] = ⊥
Writes (kind.Dollar s) (c ∷ w) = (c ≡ 36) × IsWord w × (encode_utf8_all w ≡ s)
Writes (kind.Sign k) w = w ≡ sign_text k

-- whether the character behind the token would be part of it
abbrev pub goes_on : TokenKind → ℕ → Bool
goes_on (kind.Number n) c = is_digit c
goes_on (kind.Text s) c = false
goes_on (kind.Name s) c = is_xid_continue c
goes_on (kind.Dollar s) c = is_xid_continue c
goes_on (kind.Sign k) c = is_longer k c

-- a token is as long as it can be
abbrev pub Ends : TokenKind → List ℕ → Type 0
Ends k [] = Unit {0}
Ends k (c ∷ cs) = goes_on k c ≡ false

-- the characters from a place on are a gap and the token, with its places, and then the rest
pub record Begins (at : ℕ) (cs : List ℕ) (t : Token) (rest : List ℕ) : Type 0 where
  pub gap : List ℕ
  pub word : List ℕ
  pub whole : cs ≡ gap ++ (word ++ rest)
  pub blank : AllBlank gap
  pub writes : Writes t.kind word
  pub ends : Ends t.kind rest
  pub from : t.from ≡ at + text_len gap
  pub to : t.to ≡ t.from + text_len word

-- the characters from a place on are these tokens with gaps between them
abbrev pub SpelledFrom : ℕ → List ℕ → List Token → Type 0
SpelledFrom at cs [] = AllBlank cs
SpelledFrom at cs (t ∷ ts) = (rest : List ℕ) × Begins at cs t rest × SpelledFrom t.to rest ts

-- the text is these tokens with gaps between them
unfoldable pub SpellsText : List ℕ → List Token → Type 0
SpellsText text ts = SpelledFrom 0 (chars text) ts

-- bad is a text that no list spells; the place lies in it
abbrev pub FitsFault : List ℕ → LexFault → Type 0
FitsFault text (fault.Bad at) = (at ≤ length text) × ((ts : List Token) → SpellsText text ts → ⊥)
FitsFault text fault.NoMemory = Unit {0}
