-- What the grammar sees in tokens, and how it is written.
use Rattle.std.specs.Prelude.{ℕ, Bool, true, false, cond, List, [], ◌∷◌, ◌≡◌, Option, Some, None, bytes_eq, map, refl}
use Rattle.std.specs.Cmp.Lexicographic.{bytes_decides}
use Rattle.std.proofs.Common.{ap, sym, ◌∙◌, subst}
use Rattle.std.proofs.lemmas.Option.{none-some, same_Some}
use Rattle.cell_types.specs.NameRule.{is_reserved, reserved_words}
use Rattle.formula_lex.specs.declared.token.Token.{Token}
use Rattle.formula_lex.specs.declared.token.TokenKind.{TokenKind}
use Rattle.formula_lex.specs.declared.token.TokenKind.TheVariants as kind
use Rattle.formula_parse.specs.declared.operator.Dialect.{Dialect}
use Rattle.formula_parse.specs.declared.lexeme.Keyword.{Keyword}
use Rattle.formula_parse.specs.declared.lexeme.Keyword.TheVariants as word
use Rattle.formula_parse.specs.declared.lexeme.Lexeme.{Lexeme}
use Rattle.formula_parse.specs.declared.lexeme.Lexeme.TheVariants.{Number, Text, Name, Dollar, Keyword as Word, Sign as Mark}
use Rattle.formula_parse.specs.declared.frame.Frame.{Frame}
use Rattle.formula_parse.specs.declared.frame.Mode.{Mode}
use Rattle.formula_parse.specs.declared.frame.Mode.TheVariants.{Operand}
use Rattle.formula_parse.specs.Lexemes.{keyword_text, keyword_of, operator_word, value_word, id_word, is_field, kind_of, IsAllowed, AllAllowed}
use Rattle.formula_parse.specs.Grammar.{lexemes_of}
use Rattle.formula_parse.specs.Standing.{IsWritten}
use Rattle.formula_parse.specs.Spelling.{SpellsTree}
use Rattle.formula_parse.specs.Tree.{Tree}
use Rattle.formula_parse.specs.Machine.{◌>>=◌, State}
use Rattle.formula_parse.specs.Runs.{step, run, word_lexeme, lexeme_of, token_step, read, tree_from}
use Rattle.formula_parse.proofs.Sound.{read_written}
use Rattle.formula_parse.proofs.Complete.{read_again}

-- what a keyword says of its word
abbrev Means : List ℕ → Option Keyword → Type 0
Means n None = Unit {0}
Means n (Some k) = n ≡ keyword_text k

record HasMeaning (n : List ℕ) (o : Option Keyword) : Type 0 where
  meaning : Means n o

either_means : (n w : List ℕ) (k : Keyword) → w ≡ keyword_text k → (b : Bool) → bytes_eq n w ≡ b → (o : Option Keyword) → HasMeaning n o → HasMeaning n (cond b (Some k) o)
either_means n w k e true h o m = record { meaning = (bytes_decides n w).0 h ∙ e }
either_means n w k e false h o m = m

is_word : (n : List ℕ) (k : Keyword) (o : Option Keyword) → HasMeaning n o → HasMeaning n (cond (bytes_eq n (keyword_text k)) (Some k) o)
is_word n k o m = either_means n (keyword_text k) k refl (bytes_eq n (keyword_text k)) refl o m

keyword_means : (n : List ℕ) → HasMeaning n (keyword_of n)
unfolding keyword_of operator_word value_word
keyword_means n =
    is_word n word.Or _ (is_word n word.And _ (is_word n word.Not _ (is_word n word.In _ (is_word n word.Is _ (is_word n word.If _ (is_word n word.Else _
    (is_word n word.True _ (is_word n word.False _ (is_word n word.None _ (is_word n word.Rec _ (record { meaning = tt })))))))))))

keyword_back : (n : List ℕ) (k : Keyword) → keyword_of n ≡ Some k → n ≡ keyword_text k
keyword_back n k e = let h : HasMeaning n (Some k) = subst (HasMeaning n) e (keyword_means n) in h.meaning

keyword_again : (k : Keyword) → keyword_of (keyword_text k) ≡ Some k
unfolding keyword_of operator_word value_word
keyword_again word.Or = refl
keyword_again word.And = refl
keyword_again word.Not = refl
keyword_again word.In = refl
keyword_again word.Is = refl
keyword_again word.If = refl
keyword_again word.Else = refl
keyword_again word.True = refl
keyword_again word.False = refl
keyword_again word.None = refl
keyword_again word.Rec = refl

keyword_no_field : (k : Keyword) → is_field (keyword_text k) ≡ false
unfolding is_reserved reserved_words id_word
keyword_no_field word.Or = refl
keyword_no_field word.And = refl
keyword_no_field word.Not = refl
keyword_no_field word.In = refl
keyword_no_field word.Is = refl
keyword_no_field word.If = refl
keyword_no_field word.Else = refl
keyword_no_field word.True = refl
keyword_no_field word.False = refl
keyword_no_field word.None = refl
keyword_no_field word.Rec = refl

false_true : {A : Type 0} (b : Bool) → b ≡ true → b ≡ false → A
false_true b t f = absurd (cc)

field_no_keyword : (n : List ℕ) → is_field n ≡ true → keyword_of n ≡ None
field_no_keyword n h = by (keyword_of n) refl
  where
    by : (o : Option Keyword) → keyword_of n ≡ o → o ≡ None
    by None e = refl
    by (Some k) e = false_true (is_field n) h (ap (λ (x : List ℕ). is_field x) (keyword_back n k e) ∙ keyword_no_field k)

-- what is allowed is seen again in what it is written as
lexeme_again : (x : Lexeme) → IsAllowed x → lexeme_of (kind_of x) ≡ Some x
unfolding lexeme_of
lexeme_again (Number n) a = refl
lexeme_again (Text s) a = refl
lexeme_again (Name n) a = rw (field_no_keyword n a, a) refl
lexeme_again (Dollar n) a = rw a refl
lexeme_again (Word k) a = ap (λ (o : Option Keyword). word_lexeme (keyword_text k) o) (keyword_again k)
lexeme_again (Mark s) a = refl

name_back : (n : List ℕ) (o : Option Keyword) (x : Lexeme) → keyword_of n ≡ o → word_lexeme n o ≡ Some x → (kind_of x ≡ kind.Name n) × IsAllowed x
name_back n (Some k) x e h =
    let p : Word k ≡ x = same_Some _ _ h in
    (ap kind_of (sym p) ∙ ap (λ (w : List ℕ). kind.Name w) (sym (keyword_back n k e)), subst IsAllowed p tt)
name_back n None x e h = by (is_field n) refl h
  where
    by : (b : Bool) → is_field n ≡ b → (cond b (Some n) None >>= λ m. Some (Name m)) ≡ Some x → (kind_of x ≡ kind.Name n) × IsAllowed x
    by true f g = let p : Name n ≡ x = same_Some _ _ g in (ap kind_of (sym p), subst IsAllowed p f)
    by false f g = absurd (none-some x g)

dollar_back : (n : List ℕ) (x : Lexeme) (b : Bool) → is_field n ≡ b → (cond b (Some n) None >>= λ m. Some (Dollar m)) ≡ Some x → (kind_of x ≡ kind.Dollar n) × IsAllowed x
dollar_back n x true f g = let p : Dollar n ≡ x = same_Some _ _ g in (ap kind_of (sym p), subst IsAllowed p f)
dollar_back n x false f g = absurd (none-some x g)

-- what is seen in a token is allowed, and written as the token
lexeme_back : (k : TokenKind) (x : Lexeme) → lexeme_of k ≡ Some x → (kind_of x ≡ k) × IsAllowed x
unfolding lexeme_of
lexeme_back (kind.Number n) x e = let p : Number n ≡ x = same_Some _ _ e in (ap kind_of (sym p), subst IsAllowed p tt)
lexeme_back (kind.Text s) x e = let p : Text s ≡ x = same_Some _ _ e in (ap kind_of (sym p), subst IsAllowed p tt)
lexeme_back (kind.Name n) x e = name_back n (keyword_of n) x refl e
lexeme_back (kind.Dollar n) x e = dollar_back n x (is_field n) refl e
lexeme_back (kind.Sign s) x e = let p : Mark s ≡ x = same_Some _ _ e in (ap kind_of (sym p), subst IsAllowed p tt)

bind_some : {A B : Type 0} (o : Option A) (f : A → Option B) (y : B) → (o >>= f) ≡ Some y → (x : A) × (o ≡ Some x) × (f x ≡ Some y)
bind_some None f y e = absurd (none-some y e)
bind_some (Some x) f y e = (x, refl, e)

abbrev kinds : List Token → List TokenKind
kinds ts = map (λ token. token.kind) ts

abbrev written : List Lexeme → List TokenKind
written ks = map (λ k. kind_of k) ks

-- the tokens are read as what the grammar sees in them
record Sees (d : Dialect) (ts : List Token) (fs : List Frame) (m : Mode) (t : Tree) : Type 0 where
  lexemes : List Lexeme
  kinds_are : kinds ts ≡ written lexemes
  allowed : AllAllowed lexemes
  runs : run d lexemes fs m ≡ Some t

read_sees : (d : Dialect) (ts : List Token) (fs : List Frame) (m : Mode) (t : Tree) → read d ts fs m ≡ Some t → Sees d ts fs m t
unfolding read run
read_sees d [] fs m t e = record { lexemes = []; kinds_are = refl; allowed = tt; runs = e }
read_sees d (k ∷ ks) fs m t e =
    let b = bind_some (token_step d k fs m) (λ s. read d ks s.0 s.1) t e in
    let l = bind_some (lexeme_of k.kind) (λ x. step d x fs m) b.0 b.1 in
    let p = lexeme_back k.kind l.0 l.1 in
    let r : Sees d ks b.0.0 b.0.1 t = read_sees d ks b.0.0 b.0.1 t b.2 in
    record {
      lexemes = l.0 ∷ r.lexemes;
      kinds_are = (λ i. (sym p.0) i ∷ r.kinds_are i);
      allowed = (p.1, r.allowed);
      runs = ap (λ (o : Option State). o >>= λ s. run d r.lexemes s.0 s.1) l.2 ∙ r.runs;
    }

after_both : (d : Dialect) (ts : List Token) (ks : List Lexeme) → ((fs : List Frame) (m : Mode) → read d ts fs m ≡ run d ks fs m) → (o : Option State) → (o >>= λ s. read d ts s.0 s.1) ≡ (o >>= λ s. run d ks s.0 s.1)
after_both d ts ks h None = refl
after_both d ts ks h (Some s) = h s.0 s.1

read_is : (d : Dialect) (ts : List Token) (ks : List Lexeme) → kinds ts ≡ written ks → AllAllowed ks → (fs : List Frame) (m : Mode) → read d ts fs m ≡ run d ks fs m
unfolding read run
read_is d [] [] e a fs m = refl
read_is d [] (k ∷ ks) e a fs m = absurd (cc)
read_is d (t ∷ ts) [] e a fs m = absurd (cc)
read_is d (t ∷ ts) (k ∷ ks) e a fs m =
    let head : t.kind ≡ kind_of k = cc in
    let tail : kinds ts ≡ written ks = cc in
    rw (head, lexeme_again k a.0) (after_both d ts ks (λ gs n. read_is d ts ks tail a.1 gs n) (step d k fs m))

-- what is read is spelled, and what is spelled is read
pub tree_spelled : (d : Dialect) (ts : List Token) (t : Tree) → tree_from d ts ≡ Some t → SpellsTree d t ts
unfolding tree_from
tree_spelled d ts t e =
    let r : Sees d ts [] Operand t = read_sees d ts [] Operand t e in
    let w : IsWritten d t r.lexemes = read_written d t r.lexemes r.runs in
    record { written = r.kinds_are ∙ ap written w.written; allowed = subst AllAllowed w.written r.allowed; stands = w.stands; low = w.low }

pub spelled_tree : (d : Dialect) (ts : List Token) (t : Tree) → SpellsTree d t ts → tree_from d ts ≡ Some t
unfolding tree_from
spelled_tree d ts t s =
    read_is d ts (lexemes_of t) s.written s.allowed [] Operand
    ∙ read_again d t (lexemes_of t) (record { written = refl; stands = s.stands; low = s.low })
