-- A text with new names in the places of some of its tokens: each gap stays, and each word that is
-- not replaced.
use Rattle.std.specs.Prelude.{ℕ, ◌+◌, Bool, true, false, List, [], ◌∷◌, ◌++◌, map, ◌≡◌}
use Rattle.std.specs.Str.{encode_utf8_all}
use Rattle.formula_lex.specs.declared.token.Token.{Token}
use Rattle.formula_lex.specs.declared.token.TokenKind.{TokenKind}
use Rattle.formula_lex.specs.declared.token.TokenKind.TheVariants as kind
use Rattle.formula_lex.specs.Spelling.{IsWord, SpelledFrom, text_len}

-- the mark of the first token, and those of the others
abbrev pub first_mark : List Bool → Bool
first_mark [] = false
first_mark (m ∷ ms) = m

abbrev pub other_marks : List Bool → List Bool
other_marks [] = []
other_marks (m ∷ ms) = ms

-- what a token is then
abbrev pub turned_kind : List ℕ → Bool → TokenKind → TokenKind
turned_kind new true (kind.Name s) = kind.Name new
turned_kind new true (kind.Dollar s) = kind.Dollar new
turned_kind new _ k = k

-- how it is written then, where the new name has these characters
abbrev pub turned_word : List ℕ → Bool → TokenKind → List ℕ → List ℕ
turned_word w true (kind.Name s) word = w
turned_word w true (kind.Dollar s) word = 36 ∷ w
turned_word w _ k word = word

-- the kinds of the tokens then
abbrev pub turned_kinds : List ℕ → List Bool → List Token → List TokenKind
turned_kinds new ms [] = []
turned_kinds new ms (t ∷ ts) =
    turned_kind new (first_mark ms) t.kind ∷ turned_kinds new (other_marks ms) ts

-- the characters then
abbrev pub spliced : List ℕ → List Bool → (at : ℕ) (cs : List ℕ) (ts : List Token)
    → SpelledFrom at cs ts → List ℕ
spliced w ms at cs [] d = cs
spliced w ms at cs (t ∷ ts) d =
    d.1.gap ++ (turned_word w (first_mark ms) t.kind d.1.word
    ++ spliced w (other_marks ms) t.to d.0 ts d.2)

-- where the token stands then
abbrev pub placed : List ℕ → List ℕ → Bool → TokenKind → ℕ → List ℕ → List ℕ → Token
placed new w m k at gap word = record {
  kind = turned_kind new m k;
  from = at + text_len gap;
  to = (at + text_len gap) + text_len (turned_word w m k word);
}

-- the tokens then, from a place on
abbrev pub respelled : List ℕ → List ℕ → List Bool → ℕ → (at : ℕ) (cs : List ℕ) (ts : List Token)
    → SpelledFrom at cs ts → List Token
respelled new w ms place at cs [] d = []
respelled new w ms place at cs (t ∷ ts) d =
    placed new w (first_mark ms) t.kind place d.1.gap d.1.word
    ∷ respelled new w (other_marks ms)
    ((place + text_len d.1.gap)
    + text_len (turned_word w (first_mark ms) t.kind d.1.word)) t.to d.0 ts d.2

-- the spliced characters are spelled by these tokens, which are those before with new names
pub record IsRespelled (new w : List ℕ) (ms : List Bool) (place at : ℕ) (cs : List ℕ)
    (ts : List Token) (d : SpelledFrom at cs ts) : Type 0 where
  pub spelled : SpelledFrom place (spliced w ms at cs ts d) (respelled new w ms place at cs ts d)
  pub kinds : map (λ (t : Token). t.kind) (respelled new w ms place at cs ts d)
      ≡ turned_kinds new ms ts

-- so it is of each text, each new name and all marks
abbrev pub RespellLaw : Type 0
RespellLaw = (new w : List ℕ) → IsWord w → encode_utf8_all w ≡ new
    → (ms : List Bool) (place at : ℕ) (cs : List ℕ) (ts : List Token) (d : SpelledFrom at cs ts)
    → IsRespelled new w ms place at cs ts d
