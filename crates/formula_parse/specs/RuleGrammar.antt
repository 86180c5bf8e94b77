-- How the atoms of rules are written.
use Rattle.std.specs.Prelude.{ℕ, List, [], ◌∷◌, codes}
use Rattle.formula_lex.specs.declared.token.Sign.TheVariants as sign
use Rattle.formula_parse.specs.declared.lexeme.Keyword.TheVariants as word
use Rattle.formula_parse.specs.declared.lexeme.Lexeme.{Lexeme}
use Rattle.formula_parse.specs.declared.lexeme.Lexeme.TheVariants.{Name, Keyword as Word, Sign as Mark}
use Rattle.formula_parse.specs.declared.rule.RuleAtom.{RuleAtom}
use Rattle.formula_parse.specs.declared.rule.RuleAtom.TheVariants as rule
use Rattle.formula_parse.specs.declared.rule.Subject.{Subject}
use Rattle.formula_parse.specs.declared.rule.Subject.TheVariants as subject

-- the words of the levels of access
unfoldable pub owner_word : List ℕ
owner_word = codes "OWNER"

unfoldable pub editor_word : List ℕ
editor_word = codes "EDITOR"

unfoldable pub viewer_word : List ℕ
viewer_word = codes "VIEWER"

-- the word of the user
unfoldable pub user_word : List ℕ
user_word = codes "user"

-- the word of the row after the change
unfoldable pub new_rec_word : List ℕ
new_rec_word = codes "newRec"

-- what is asked, as it is written
abbrev pub subject_lexeme : Subject → Lexeme
subject_lexeme subject.User = Name user_word
subject_lexeme subject.Rec = Word word.Rec
subject_lexeme subject.NewRec = Name new_rec_word

-- the atom that asks for the name
abbrev pub asked : Subject → List ℕ → RuleAtom
asked subject.User n = rule.User n
asked subject.Rec n = rule.Rec n
asked subject.NewRec n = rule.NewRec n

-- how an atom is written
abbrev pub atom_lexemes : RuleAtom → List Lexeme
atom_lexemes rule.Owner = Name owner_word ∷ []
atom_lexemes rule.Editor = Name editor_word ∷ []
atom_lexemes rule.Viewer = Name viewer_word ∷ []
atom_lexemes (rule.User n) = Name user_word ∷ (Mark sign.Point ∷ (Name n ∷ []))
atom_lexemes (rule.UserAttribute n m) =
    Name user_word ∷ (Mark sign.Point ∷ (Name n ∷ (Mark sign.Point ∷ (Name m ∷ []))))
atom_lexemes (rule.Rec n) = Word word.Rec ∷ (Mark sign.Point ∷ (Name n ∷ []))
atom_lexemes (rule.NewRec n) = Name new_rec_word ∷ (Mark sign.Point ∷ (Name n ∷ []))
